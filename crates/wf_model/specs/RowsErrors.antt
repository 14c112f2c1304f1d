-- Worked errors: how a task leaves what it stands in, and which `except` sees the error.
use Rattle.wf_ast.specs.declared.Op.TheVariants as op
use Rattle.std.specs.Prelude.{◌≡◌, ℕ, zero, suc, true, false, List, [], ◌∷◌, pos, Some, None, codes}
use Rattle.wf_ast.specs.Tree.{Expr, Scalar, Whole, Listed, no_templates, InRange, Step, Body, loop, no_except, Except, except, Program, steps, exprs}
use Rattle.wf_model.specs.Config.{Layer, Task, Raised, After, To}
use Rattle.wf_model.specs.Run.{run}
use Rattle.wf_model.specs.Writing.{num, said, var, one, assigns, st, call_of, flow_of, main_of, main_and, param, try_steps, returns_error, start, moves_of, gives_number, gives_text, raises_tag, ComesTo}
use Rattle.wf_value.specs.Data.{Data, null, boolean, integer, text, list, no_items, item, no_pairs, pair}
use Rattle.wf_value.specs.declared.Tag.TheVariants.{KeyError, ResourceLimitError, TypeError, ZeroDivisionError}
use Rattle.wf_value.specs.Pairs.{Text}

-- ## To the nearest try
abbrev pub raises_boom : Step
raises_boom = st (codes "f") (Body.Raise (said (codes "boom")))

-- a `try` around nested `steps` around a raise
abbrev pub in_steps : Program
in_steps = main_of (st (codes "t") (try_steps (st (codes "s") (Body.Block (steps (raises_boom ∷ []))) ∷ []) None returns_error) ∷ [])

-- the `try`, the nested `steps`, the raise, the return in `except`
abbrev pub ErrorLeavesNestedSteps : Type 0
ErrorLeavesNestedSteps = ComesTo in_steps (moves_of 4) (gives_text (codes "boom")) 4

-- a `try` without `except` inside one with it
abbrev pub in_two_tries : Program
in_two_tries = main_of (st (codes "t") (try_steps (st (codes "s") (try_steps (raises_boom ∷ []) None no_except) ∷ []) None returns_error) ∷ [])

abbrev pub ErrorPassesATryWithoutExcept : Type 0
ErrorPassesATryWithoutExcept = ComesTo in_two_tries (moves_of 4) (gives_text (codes "boom")) 4

-- a raise in an `except` isn't caught by its own `try`
abbrev pub raising_again : Program
raising_again = main_of (st (codes "t") (try_steps (raises_boom ∷ []) None (except (codes "e") (steps (st (codes "g") (Body.Raise (said (codes "again"))) ∷ [])))) ∷ [])

abbrev pub ExceptDoesNotCatchItself : Type 0
ExceptDoesNotCatchItself = ComesTo raising_again (moves_of 3) (Raised (text (codes "again"))) 3

-- an error that nothing catches is the outcome
abbrev pub UncaughtErrorIsTheOutcome : Type 0
UncaughtErrorIsTheOutcome = ComesTo (main_of (raises_boom ∷ [])) (moves_of 1) (Raised (text (codes "boom"))) 1

-- ## With their layers
-- a `try` around a call of f(a: 1), in which a loop's first iteration raises
abbrev pub in_a_call : Except → Program
in_a_call x = main_and (st (codes "t") (try_steps (st (codes "c") (call_of (codes "f") ((codes "a", num 1) ∷ []) None) ∷ []) None x) ∷ [])
    (flow_of (codes "f") (param (codes "a") ∷ []) (st (codes "l") (Body.For (loop (codes "v") None (InRange (num 1) (num 2)) (steps (raises_boom ∷ [])))) ∷ []))

-- the `try`, the call, the `for`, an iteration, the raise, the return in `except`
abbrev pub ErrorLeavesALoopAndACall : Type 0
ErrorLeavesALoopAndACall = ComesTo (in_a_call returns_error) (moves_of 6) (gives_text (codes "boom")) 6

-- the layers of the iteration and of the call are gone: beside `main`'s there is that of `except` alone
abbrev pub first_layers : List (ℕ × Task) → List Layer
first_layers [] = []
first_layers (t ∷ ts) = t.1.layers

abbrev pub layers_of_main : After → List Layer
layers_of_main (To c) = first_layers c.tasks
layers_of_main a = []

abbrev pub layer_of : Text → Data → Layer
layer_of x v = record { vars = pair x v no_pairs; by_call = false }

abbrev pub ErrorTakesLayersAlong : Type 0
ErrorTakesLayersAlong = layers_of_main (run (in_a_call returns_error) start (moves_of 5)) ≡ layer_of (codes "e") (text (codes "boom")) ∷ record { vars = no_pairs; by_call = false } ∷ []

-- the parameter isn't visible where the error was caught
abbrev pub CaughtErrorLeavesTheCallsNames : Type 0
CaughtErrorLeavesTheCallsNames = ComesTo (in_a_call (except (codes "e") (steps (st (codes "r") (Body.Return (var (codes "a"))) ∷ [])))) (moves_of 6) (raises_tag KeyError) 6

-- the name of `as` isn't visible behind its block
abbrev pub after_except : Program
after_except = main_of (
    st (codes "t") (try_steps (raises_boom ∷ []) None (except (codes "e") (steps (st (codes "x") (assigns (codes "y") (num 1)) ∷ []))))
    ∷ st (codes "r") (Body.Return (var (codes "e"))) ∷ [])

abbrev pub ExceptsLayerEnds : Type 0
ExceptsLayerEnds = ComesTo after_except (moves_of 4) (raises_tag KeyError) 4

-- a return inside a `try` goes past it, to the caller
abbrev pub returning_in_try : Program
returning_in_try = main_and (st (codes "c") (call_of (codes "f") [] (Some (codes "r"))) ∷ st (codes "d") (Body.Return (var (codes "r"))) ∷ [])
    (flow_of (codes "f") [] (st (codes "t") (try_steps (st (codes "u") (Body.Return (num 3)) ∷ []) None returns_error) ∷ []))

abbrev pub ReturnLeavesATry : Type 0
ReturnLeavesATry = ComesTo returning_in_try (moves_of 4) (gives_number 3) 4

-- ## Which error comes first
abbrev pub by_zero : Expr
by_zero = Expr.Bin op.Rem one (Expr.Lit (integer (pos 0)))

abbrev pub text_a : Expr
text_a = Expr.Lit (text (codes "a"))

-- both ends of a range are evaluated before their kinds are looked at
abbrev pub RangeIsEvaluatedFirst : Type 0
RangeIsEvaluatedFirst =
    ComesTo (main_of (st (codes "l") (Body.For (loop (codes "v") None (InRange (Whole text_a) (Whole by_zero)) (steps (raises_boom ∷ [])))) ∷ [])) (moves_of 1) (raises_tag ZeroDivisionError) 1

-- y[place]: value, where no y was assigned
abbrev pub assigning_at : Expr → Expr → Program
assigning_at place value = main_of (
    st (codes "a") (Body.Assign (
    record { target = record { name = codes "y"; places = exprs (place ∷ []); written = codes "y[..]" }; value = Whole value } ∷ [])) ∷ [])

-- the right side comes before the places
abbrev pub RightSideComesFirst : Type 0
RightSideComesFirst = ComesTo (assigning_at by_zero (Expr.Bin op.Add one text_a)) (moves_of 1) (raises_tag TypeError) 1

-- the places come before the variable, and the variable before the kind of a place
abbrev pub PlacesComeBeforeTheVariable : Type 0
PlacesComeBeforeTheVariable = ComesTo (assigning_at by_zero one) (moves_of 1) (raises_tag ZeroDivisionError) 1

abbrev pub MissingVariableIsAKeyError : Type 0
MissingVariableIsAKeyError = ComesTo (assigning_at (Expr.Lit (boolean true)) one) (moves_of 1) (raises_tag KeyError) 1

-- the arguments of a call come before the call itself
abbrev pub ArgumentsComeFirst : Type 0
ArgumentsComeFirst = ComesTo (main_of (st (codes "c") (call_of (codes "list.concat") ((codes "objs", num 1) ∷ (codes "val", Whole by_zero) ∷ []) None) ∷ [])) (moves_of 1) (raises_tag ZeroDivisionError) 1

-- a result keeps the limit on nesting also where no variable takes it
abbrev pub nested_lists : ℕ → Data
nested_lists zero = null
nested_lists (suc n) = list (item (nested_lists n) no_items)

abbrev pub concatenating : ℕ → Program
concatenating n = main_of (st (codes "c") (call_of (codes "list.concat") ((codes "objs", Listed no_templates) ∷ (codes "val", Scalar (nested_lists n)) ∷ []) None) ∷ st (codes "r") (Body.Return (num 1)) ∷ [])

abbrev pub NestingOfAResultIsLimited : Type 0
NestingOfAResultIsLimited =
    ComesTo (concatenating 99) (moves_of 2) (gives_number 1) 2 × ComesTo (concatenating 100) (moves_of 1) (raises_tag ResourceLimitError) 1
