-- Whether a history is closed, by what its calls answer.
use Rattle.std.specs.Prelude.{◌≡◌, IsTrue, List, ℕ, [], ◌∷◌}
use Rattle.std.proofs.Common.{sym, ◌∙◌, subst}
use Rattle.wf_host.specs.World.{World}

-- a first one
pub some_first : (ahead rest : List (List ℕ)) (b : List ℕ) → ahead ≡ b ∷ rest → ahead ≡ [] → ⊥
some_first ahead rest b is none = let no : b ∷ rest ≡ [] = sym is ∙ none in cc no

pub tells_still : (w new : World) → new.tells ≡ w.tells → IsTrue w.tells → IsTrue new.tells
tells_still w new same told = subst IsTrue (sym same) told
