-- What is told, of the same place in other words, and from further out.
use Rattle.std.proofs.Common.{◌≡◌, List, [], ◌∷◌, ◌++◌, Option, Some, None, Result, Ok, Err, append_assoc, refl, reverse, sym, ap, ◌∙◌}
use Rattle.std.proofs.lemmas.List.{reverse-append}
use Rattle.wf_ast.specs.Blocks.{first}
use Rattle.wf_ast.specs.Nodes.{Path, below}
use Rattle.wf_diagnostics.specs.Answers.{IsKeyed, IsRuleFault, along}
use Rattle.wf_value.specs.Stops.{IsOutside}
use Rattle.wf_value.specs.declared.stop.Stop.{Stop}
use Rattle.wf_value.specs.declared.stop.Stop.TheVariants as stop
use Rattle.wf_value.specs.HttpUrl.{first_of_two}
use Rattle.wf_value.specs.Pairs.{Text}
use Rattle.wf_value.specs.declared.path.PathPart.{PathPart}
use Rattle.wf_value.specs.declared.path.PathPart.TheVariants as part
use Rattle.wf_diagnostics.specs.Said.{Said, as_said}
use Rattle.wf_diagnostics.specs.declared.kind.CheckKind.{CheckKind}

-- a way that is one step longer begins one step further out
pub further : (path : Path) (ps qs : List PathPart) (p : PathPart) → qs ≡ ps ++ p ∷ [] → along (path ++ p ∷ []) ps ≡ along path qs
further path ps qs p is =
    append_assoc path (p ∷ []) (reverse ps)
    ∙ sym (ap (λ l. path ++ l) (ap reverse is ∙ reverse-append ps (p ∷ [])))

pub tells_as : (r : Result (Unit {0}) (Stop CheckKind)) (f g : Path → Option Said) → ((path : Path) → f path ≡ g path) → IsRuleFault r f → IsRuleFault r g
tells_as (Ok u) f g e h = λ path. sym (e path) ∙ h path
tells_as (Err (stop.Refused k way)) f g e h = λ path. sym (e path) ∙ h path
tells_as (Err stop.OutOfMemory) f g e h = tt

pub tells_outside : (p : PathPart) (s outer : Stop CheckKind) (f : Path → Option Said) → IsOutside p s outer → IsRuleFault (Err s) f → IsRuleFault (Err outer) (λ path. f (path ++ p ∷ []))
tells_outside p (stop.Refused k ps) (stop.Refused j qs) f o h =
    λ path. h (path ++ p ∷ []) ∙ (λ i. Some (record { kind = (sym o.0 i); place = further path ps.items qs.items p o.1 i }))
tells_outside p stop.OutOfMemory (stop.Refused j qs) f o h = absurd o
tells_outside p (stop.Refused k ps) stop.OutOfMemory f o h = tt
tells_outside p stop.OutOfMemory stop.OutOfMemory f o h = tt

pub tells_keyed : (key : Text) (r q : Result (Unit {0}) (Stop CheckKind)) (f : Path → Option Said) → IsKeyed key r q → IsRuleFault r f → IsRuleFault q (λ path. f (below path key))
tells_keyed key (Ok u) (Ok v) f k h = λ path. h (below path key)
tells_keyed key (Err s) (Err outer) f k h = tells_outside (part.Key key) s outer f k h
tells_keyed key (Ok u) (Err s) f k h = absurd k
tells_keyed key (Err s) (Ok u) f k h = absurd k

-- ## One rule after another
pub here_first : (s : Stop CheckKind) (f : Path → Option Said) (rest : Path → List (Option Said)) → IsRuleFault (Err s) f → IsRuleFault (Err s) (λ path. first (f path ∷ rest path))
here_first (stop.Refused k way) f rest h = λ path. ap (λ o. first (o ∷ rest path)) (h path)
here_first stop.OutOfMemory f rest h = tt

pub later : (r : Result (Unit {0}) (Stop CheckKind)) (f : Path → Option Said) (rest : Path → List (Option Said)) → IsRuleFault (Ok tt) f → IsRuleFault r (λ path. first (rest path)) → IsRuleFault r (λ path. first (f path ∷ rest path))
later (Ok u) f rest h k = λ path. ap (λ o. first (o ∷ rest path)) (h path) ∙ k path
later (Err (stop.Refused j way)) f rest h k = λ path. ap (λ o. first (o ∷ rest path)) (h path) ∙ k path
later (Err stop.OutOfMemory) f rest h k = tt

first_alone : (o : Option Said) → first (o ∷ []) ≡ o
first_alone None = refl
first_alone (Some x) = refl

pub alone : (r : Result (Unit {0}) (Stop CheckKind)) (f : Path → Option Said) → IsRuleFault r f → IsRuleFault r (λ path. first (f path ∷ []))
alone r f h = tells_as r f (λ path. first (f path ∷ [])) (λ path. sym (first_alone (f path))) h

-- ## Two parts of one rule
pub no_fault : (k : CheckKind) (o : Option Path) → as_said k o ≡ None → o ≡ None
no_fault k None h = refl
no_fault k (Some p) h = cc

stays : (k : CheckKind) (o p : Option Path) (f : Said) → as_said k o ≡ Some f → as_said k (first_of_two o p) ≡ Some f
stays k None p f h = cc
stays k (Some x) p f h = h

-- the first of two parts has it
pub part_first : (k : CheckKind) (s : Stop CheckKind) (o p : Path → Option Path) → IsRuleFault (Err s) (λ path. as_said k (o path)) → IsRuleFault (Err s) (λ path. as_said k (first_of_two (o path) (p path)))
part_first k (stop.Refused j way) o p h = λ path. stays k (o path) (p path) _ (h path)
part_first k stop.OutOfMemory o p h = tt

-- it has none
pub part_later : (k : CheckKind) (o p : Option Path) → as_said k o ≡ None → first_of_two o p ≡ p
part_later k o p h = ap (λ q. first_of_two q p) (no_fault k o h)
