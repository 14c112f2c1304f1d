-- The Content-Type line of a request.
use Rattle.std.proofs.Common.{◌≡◌, ◌==◌, false, not, List, [], ◌∷◌, ◌++◌, length, refl, ap, ◌∙◌, arith}
use Rattle.std.specs.Prelude.{Some, codes}
use Rattle.std.proofs.lemmas.Bool.{false≢true, ne_eqb}
use Rattle.wf_value.specs.HttpRequest.{Payload, type_line}
use Rattle.wf_value.specs.HttpText.{line}
use Rattle.wf_value.specs.Pairs.{Text}

-- where the caller gives no type, the line tells that of the body
pub own_type : (ts : List Text) (p : Payload) → false ≡ not (length ts == 0) → type_line ts (Some p) ≡ line (codes "Content-Type: " ++ p.type)
own_type [] p h = refl
own_type (t ∷ ts) p h = absurd (false≢true (h ∙ ap not (ne_eqb (length (t ∷ ts)) 0 (omega arith))))
