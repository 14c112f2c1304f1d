-- Whole workflows.
use Rattle.std.proofs.Common.{◌≡◌, ℕ, ◌+◌, List, [], ◌∷◌, ◌++◌, length, None, Ok, Err, refl, ap, arith, ◌∙◌}
use Rattle.wf_ast.specs.Accept.{fault, rules}
use Rattle.wf_ast.specs.Nodes.{Node, nodes}
use Rattle.wf_ast.specs.Tree.{Flow}
use Rattle.wf_check.proofs.Walks.{behind, first_append}
use Rattle.wf_check.specs.Walks.{Counts, Walks, after}
use Rattle.wf_check.specs.declared.progress.Progress.{Progress}
use Rattle.wf_diagnostics.specs.declared.kind.CheckKind.{CheckKind}
use Rattle.wf_value.specs.declared.stop.Stop.{Stop}
use Rattle.wf_value.specs.declared.stop.Stop.TheVariants as stop
use Rattle.wf_value.specs.HttpUrl.{first_of_two}
use Rattle.wf_value.specs.Pairs.{Text}
use Rattle.wf_check.specs.Said.{said_among}

pub counts_fails : (fs : List Flow) (old new : Progress) (s : Stop CheckKind) (vs : List Node) → Walks fs [] old new (Err s) [] vs → Counts fs old.number (Err s) vs
counts_fails fs old new (stop.Refused k way) vs h = h
counts_fails fs old new stop.OutOfMemory vs h = tt

-- the names of steps begin anew
pub anew : (fs : List Flow) (n : ℕ) (e : List Text) (ws : List Flow) → said_among fs n e (nodes ws) ≡ said_among fs n [] (nodes ws)
unfolding nodes fault rules
anew fs n e [] = refl
anew fs n e (f ∷ rest) = refl

pub counts_first : (fs : List Flow) (number : ℕ) (s : Stop CheckKind) (all xs ys : List Node) → said_among fs 0 [] all ≡ said_among fs number [] (xs ++ ys) → Counts fs number (Err s) xs → Counts fs 0 (Err s) all
counts_first fs number (stop.Refused k way) all xs ys e h = e ∙ first_append fs number [] xs ys ∙ ap (λ o. first_of_two o (said_among fs (number + length xs) (after xs []) ys)) h
counts_first fs number stop.OutOfMemory all xs ys e h = tt

pub counted_on : (fs : List Flow) (number next : ℕ) (xs : List Node) (ws : List Flow) → said_among fs number [] xs ≡ None → next ≡ number + length xs → said_among fs number [] (xs ++ nodes ws) ≡ said_among fs next [] (nodes ws)
counted_on fs number next xs ws none is = behind fs number next [] xs (nodes ws) none is ∙ anew fs next (after xs []) ws

-- behind the last workflow nothing is left to say
pub all_told : (fs : List Flow) (n : ℕ) (left : List Flow) → left ≡ [] → said_among fs 0 [] (nodes fs) ≡ said_among fs n [] (nodes left) → n + length (nodes left) ≡ length (nodes fs) → Counts fs 0 (Ok n) (nodes fs)
unfolding nodes
all_told fs n left none told counted = (told ∙ ap (λ r. said_among fs n [] (nodes r)) none, omega (arith, counted, ap (λ r. length (nodes r)) none))
