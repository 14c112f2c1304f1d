-- Worked runs: literal programs, the events of a run, and what it comes to.
use Rattle.wf_ast.specs.declared.Func.TheVariants as func
use Rattle.std.specs.Prelude.{◌≡◌, [], ◌∷◌, pos, Some, None, codes}
use Rattle.wf_ast.specs.Accept.{JumpOutOfScope, UnknownStep, BreakOutsideLoop}
use Rattle.wf_ast.specs.Tree.{Expr, no_exprs, Whole, Listed, Mapped, no_templates, template, InList, InRange, step, Body, loop, Program, steps, fields, exprs}
use Rattle.wf_model.specs.Config.{Wrong, NotNow}
use Rattle.wf_model.specs.Run.{run}
use Rattle.wf_model.specs.Writing.{num, var, plus, one, sets, assigns, st, jump, call_of, flow_of, main_of, main_and, param, start, moves_of, gives_number, raises_tag, ending, ComesTo, MayNotCome}
use Rattle.wf_value.specs.Data.{integer, text}
use Rattle.wf_value.specs.declared.Tag.TheVariants.{KeyError, TypeError, ValueError}
use Rattle.wf_value.specs.Events.{Event}
use Rattle.wf_value.specs.Pairs.{Text}

-- ## A return and an error
abbrev pub returning_seven : Program
returning_seven = main_of (st (codes "a") (Body.Return (num 7)) ∷ [])

-- a return ends `main` with its value, in one move
abbrev pub ReturnGivesItsValue : Type 0
ReturnGivesItsValue = ComesTo returning_seven (moves_of 1) (gives_number 7) 1

-- and no event comes behind it
abbrev pub NothingFollowsAReturn : Type 0
NothingFollowsAReturn = MayNotCome returning_seven (moves_of 2)

-- the greatest whole number plus one
abbrev pub SumOutOfRangeRaises : Type 0
SumOutOfRangeRaises =
    ComesTo (main_of (st (codes "a") (Body.Return (plus (Expr.Lit (integer (pos 9223372036854775807))) one)) ∷ [])) (moves_of 1) (raises_tag ValueError) 1

-- only a text or a map is raised
abbrev pub RaisedNumberIsATypeError : Type 0
RaisedNumberIsATypeError = ComesTo (main_of (st (codes "a") (Body.Raise (num 5)) ∷ [])) (moves_of 1) (raises_tag TypeError) 1

-- `main` returns its parameter, which is bound to the argument from the start
abbrev pub argument_returned : Program
argument_returned = record { flows = flow_of (codes "main") (param (codes "args") ∷ []) (st (codes "a") (Body.Return (Whole (Expr.Key (Expr.Name (codes "args")) (codes "n")))) ∷ []) ∷ [] }

abbrev pub ArgumentIsBound : Type 0
ArgumentIsBound = ending (run argument_returned (record start { argument = codes "{\"n\":3}" }) (moves_of 1)) ≡ Some (gives_number 3, 1)

-- ## Loops
-- t: 0; for v in range [1, 4]: t: t + v; return t
abbrev pub summing : Program
summing = main_of (
    st (codes "i") (assigns (codes "t") (num 0))
    ∷ st (codes "l") (Body.For (loop (codes "v") None (InRange (num 1) (num 4)) (steps (st (codes "s") (assigns (codes "t") (plus (Expr.Name (codes "t")) (Expr.Name (codes "v")))) ∷ []))))
    ∷ st (codes "r") (Body.Return (var (codes "t"))) ∷ [])

-- the assign, the `for`, two moves for each of four iterations, the loop's end and the return
abbrev pub LoopSumsToTenInTwelveMoves : Type 0
LoopSumsToTenInTwelveMoves = ComesTo summing (moves_of 12) (gives_number 10) 12

-- for v in [1, 2], with the index i: `next` alone, and behind the loop a return
abbrev pub jumping : Text → Program
jumping x = main_of (
    st (codes "l") (Body.For (loop (codes "v") (Some (codes "i")) (InList (Listed (template (num 1) (template (num 2) no_templates)))) (steps (jump (codes "s") x ∷ []))))
    ∷ st (codes "z") (Body.Return (num 1)) ∷ [])

-- the `for`, an iteration, the jump, the return
abbrev pub BreakLeavesTheLoop : Type 0
BreakLeavesTheLoop = ComesTo (jumping (codes "break")) (moves_of 4) (gives_number 1) 4

-- the `for`, two iterations with a jump each, the loop's end, the return
abbrev pub ContinueGoesToTheNextIteration : Type 0
ContinueGoesToTheNextIteration = ComesTo (jumping (codes "continue")) (moves_of 7) (gives_number 1) 7

-- no jump crosses a loop's body, and none leads to a step that the program doesn't have
abbrev pub JumpOutOfALoopIsWrong : Type 0
JumpOutOfALoopIsWrong = run (jumping (codes "z")) start (moves_of 3) ≡ Wrong JumpOutOfScope

abbrev pub JumpToNoStepIsWrong : Type 0
JumpToNoStepIsWrong = run (jumping (codes "gone")) start (moves_of 3) ≡ Wrong UnknownStep

abbrev pub BreakOutsideALoopIsWrong : Type 0
BreakOutsideALoopIsWrong = run (main_of (jump (codes "s") (codes "break") ∷ [])) start (moves_of 1) ≡ Wrong BreakOutsideLoop

-- ## Jumps
-- a: x is 1, and then to c; b: return 5; c: return x
abbrev pub passing_over : Program
passing_over = main_of (
    step (codes "a") (assigns (codes "x") (num 1)) (Some (codes "c"))
    ∷ st (codes "b") (Body.Return (num 5)) ∷ st (codes "c") (Body.Return (var (codes "x"))) ∷ [])

-- a `next` beside a body is a move of its own
abbrev pub NextBesideABodyIsAMove : Type 0
NextBesideABodyIsAMove = ComesTo passing_over (moves_of 3) (gives_number 1) 3

-- and `next` alone is the jump at once: two moves
abbrev pub NextAloneIsOneMove : Type 0
NextAloneIsOneMove = ComesTo (main_of (jump (codes "a") (codes "c") ∷ st (codes "b") (Body.Return (num 5)) ∷ st (codes "c") (Body.Return (num 1)) ∷ [])) (moves_of 2) (gives_number 1) 2

-- ## Places
-- m: {k: [1, 2]}; m.k[1]: 5; return m.k[1]
abbrev pub placing : Program
placing = main_of (
    st (codes "a") (Body.Assign (
    sets (codes "m") (Mapped (fields ((codes "k", Listed (template (num 1) (template (num 2) no_templates))) ∷ [])))
    ∷ record { target = record { name = codes "m"; places = exprs (Expr.Lit (text (codes "k")) ∷ one ∷ []); written = codes "m.k[1]" }; value = num 5 } ∷ []))
    ∷ st (codes "r") (Body.Return (Whole (Expr.Index (Expr.Key (Expr.Name (codes "m")) (codes "k")) one))) ∷ [])

-- each entry of an assign is a move
abbrev pub PlaceIsAssigned : Type 0
PlaceIsAssigned = ComesTo placing (moves_of 3) (gives_number 5) 3

-- ## Workflows
-- s: r is f(a: 1); return r, where f has a second parameter b with the default 10 and returns a + b
abbrev pub calling : Program
calling = main_and (
    st (codes "s") (call_of (codes "f") ((codes "a", num 1) ∷ []) (Some (codes "r"))) ∷ st (codes "t") (Body.Return (var (codes "r"))) ∷ [])
    (flow_of (codes "f") (param (codes "a") ∷ record { name = codes "b"; default = Some (integer (pos 10)) } ∷ []) (st (codes "u") (Body.Return (plus (Expr.Name (codes "a")) (Expr.Name (codes "b")))) ∷ []))

-- the call, the return with the caller's result, the return
abbrev pub ParametersTakeArgumentsAndDefaults : Type 0
ParametersTakeArgumentsAndDefaults = ComesTo calling (moves_of 3) (gives_number 11) 3

-- x: 1; f(), where f returns x
abbrev pub looking_out : Program
looking_out = main_and (st (codes "a") (assigns (codes "x") (num 1)) ∷ st (codes "s") (call_of (codes "f") [] None) ∷ [])
    (flow_of (codes "f") [] (st (codes "u") (Body.Return (var (codes "x"))) ∷ []))

-- the caller's variables aren't visible in a called workflow
abbrev pub CallHidesTheCallersNames : Type 0
CallHidesTheCallersNames = ComesTo looking_out (moves_of 3) (raises_tag KeyError) 3

-- ## Which event a step wants
-- a: 1 and t: ${sys.now()}, two entries of one assign; return t
abbrev pub reading_the_clock : Program
reading_the_clock = main_of (
    st (codes "a") (Body.Assign (sets (codes "a") (num 1) ∷ sets (codes "t") (Whole (Expr.Call func.SysNow no_exprs)) ∷ []))
    ∷ st (codes "r") (Body.Return (var (codes "t"))) ∷ [])

-- only the entry that the move carries out decides, and the event's reading is that of `sys.now`
abbrev pub EntryDecidesTheEvent : Type 0
EntryDecidesTheEvent = ComesTo reading_the_clock (Event.Move 0 ∷ Event.MoveAt 0 5000 ∷ Event.Move 0 ∷ []) (gives_number 5) 3

abbrev pub ClockIsNotReadByAMove : Type 0
ClockIsNotReadByAMove = MayNotCome reading_the_clock (moves_of 2)

abbrev pub FirstEntryTakesNoReading : Type 0
FirstEntryTakesNoReading = MayNotCome reading_the_clock (Event.MoveAt 0 5000 ∷ [])

-- a reading is at least the last one
abbrev pub ReadingsDoNotFall : Type 0
ReadingsDoNotFall = run reading_the_clock (record start { reading = 6000 }) (Event.Move 0 ∷ Event.MoveAt 0 5999 ∷ []) ≡ NotNow
