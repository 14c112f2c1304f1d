-- The walk over one node.
use Rattle.std.proofs.Common.{◌≡◌, ◌+◌, List, [], ◌∷◌, Ok, Err, sym, ap, ◌∙◌, subst}
use Rattle.wf_ast.specs.Accept.{after_part}
use Rattle.wf_ast.specs.Nodes.{Around, NodePart, Path, node}
use Rattle.wf_ast.specs.Tree.{Flow}
use Rattle.wf_check.proofs.Alike.{said_alike}
use Rattle.wf_check.proofs.Walks.{still}
use Rattle.wf_diagnostics.specs.Answers.{IsRuleFault}
use Rattle.wf_symbols.specs.Around.{SameNames, Stands, Still, around_view}
use Rattle.wf_symbols.specs.Names.{names_of}
use Rattle.wf_check.specs.Said.{said}
use Rattle.wf_check.specs.Walks.{Walks}
use Rattle.wf_symbols.specs.declared.around.Here.{Here}
use Rattle.wf_check.specs.declared.progress.Progress.{Progress}
use Rattle.wf_diagnostics.specs.declared.kind.CheckKind.{CheckKind}
use Rattle.wf_value.specs.declared.stop.Stop.{Stop}
use Rattle.wf_value.specs.declared.stop.Stop.TheVariants as stop
use Rattle.wf_value.specs.HttpUrl.{first_of_two}
use Rattle.wf_value.specs.Pairs.{Text}
use Rattle.std.specs.Prelude.{None}

pub one_fails : (fs : List Flow) (path : Path) (old new : Progress) (s : Stop CheckKind) (a : Here) (b : Around) (part : NodePart) (earlier : List Text) → Stands old.scopes a b → SameNames (names_of old.seen) earlier
    → IsRuleFault (Err s) (λ p. said fs old.number (names_of old.seen) (node part (around_view old.scopes a) p)) → Walks fs path old new (Err s) earlier (node part b path ∷ [])
one_fails fs path old new (stop.Refused k way) a b part earlier st same h =
    ap (λ o. first_of_two o None) (sym (said_alike fs old.number (names_of old.seen) earlier part (around_view old.scopes a) b path same st) ∙ h path)
one_fails fs path old new stop.OutOfMemory a b part earlier st same h = tt

pub one_goes : (fs : List Flow) (path : Path) (old new : Progress) (a : Here) (b : Around) (part : NodePart) (earlier : List Text) → Stands old.scopes a b → SameNames (names_of old.seen) earlier
    → IsRuleFault (Ok tt) (λ p. said fs old.number (names_of old.seen) (node part (around_view old.scopes a) p)) → new.number ≡ old.number + 1 → SameNames (names_of new.seen) (after_part part earlier) → new.scopes ≡ old.scopes
    → Walks fs path old new (Ok tt) earlier (node part b path ∷ [])
one_goes fs path old new a b part earlier st same h counted seen kept = (
  ap (λ o. first_of_two o None) (sym (said_alike fs old.number (names_of old.seen) earlier part (around_view old.scopes a) b path same st) ∙ h path),
  counted,
  seen,
  subst (λ s. Still old.scopes s) (sym kept) (still old.scopes),
)
