-- What the checker says of the worked programs, and of some faulty ones.
use Rattle.std.specs.Prelude.{◌≡◌, ℕ, List, [], ◌∷◌, replicate, Some, None, codes}
use Rattle.wf_ast.specs.Accept.{Kind, EmptySteps, DoubleStep, UnknownStep, JumpOutOfScope, BreakOutsideLoop, ReturnInBranch, UndeclaredWrite, UnknownShared, UnknownName, UnknownCall, BadArgument, TooMany, first_fault}
use Rattle.wf_ast.specs.Tree.{Body, Step, Program}
use Rattle.wf_model.specs.RowsBranches.{branch_write, each_adds}
use Rattle.wf_model.specs.RowsCalls.{fetching, collecting}
use Rattle.wf_model.specs.RowsRetries.{asking, says_again}
use Rattle.wf_model.specs.RowsRuns.{jumping}
use Rattle.wf_model.specs.Writing.{num, var, sets, st, jump, call_of, parallel_of, main_of}
use Rattle.wf_value.specs.Pairs.{Text}
use Rattle.wf_value.specs.declared.path.PathPart.{PathPart}
use Rattle.wf_value.specs.declared.path.PathPart.TheVariants.{Key, Index}

-- ## Accepted
abbrev pub CollectingIsAccepted : Type 0
CollectingIsAccepted = first_fault collecting ≡ None

abbrev pub FetchingIsAccepted : Type 0
FetchingIsAccepted = first_fault fetching ≡ None

abbrev pub AskingIsAccepted : Type 0
AskingIsAccepted = first_fault (asking (codes "x") 1 says_again) ≡ None

abbrev pub ParallelLoopIsAccepted : Type 0
ParallelLoopIsAccepted = first_fault each_adds ≡ None

-- ## Refused
-- the first fault of a program is of this kind, and stands so in the steps of `main`
abbrev pub Refuses : Program → Kind → List PathPart → Type 0
Refuses p k place = first_fault p ≡ Some (record { kind = k; place = Key (codes "main") ∷ Key (codes "steps") ∷ place })

-- two steps of one name
abbrev pub DoubleStepIsAFault : Type 0
DoubleStepIsAFault = Refuses (main_of (st (codes "a") (Body.Return (num 1)) ∷ st (codes "a") (Body.Return (num 2)) ∷ [])) DoubleStep (Index 1 ∷ Key (codes "a") ∷ [])

-- a jump to no step of the workflow
abbrev pub UnknownStepIsAFault : Type 0
UnknownStepIsAFault = Refuses (main_of (jump (codes "a") (codes "gone") ∷ [])) UnknownStep (Index 0 ∷ Key (codes "a") ∷ Key (codes "next") ∷ [])

-- a jump out of a loop's body
abbrev pub JumpOutOfALoopIsAFault : Type 0
JumpOutOfALoopIsAFault = Refuses (jumping (codes "z")) JumpOutOfScope (Index 0 ∷ Key (codes "l") ∷ Key (codes "for") ∷ Key (codes "steps") ∷ Index 0 ∷ Key (codes "s") ∷ Key (codes "next") ∷ [])

-- `break` in no loop
abbrev pub BreakOutsideALoopIsAFault : Type 0
BreakOutsideALoopIsAFault = Refuses (main_of (jump (codes "a") (codes "break") ∷ [])) BreakOutsideLoop (Index 0 ∷ Key (codes "a") ∷ Key (codes "next") ∷ [])

-- a parallel step by itself, with one branch
abbrev pub one_branch : List Text → Step → Program
one_branch shared s = main_of (st (codes "p") (parallel_of shared ((codes "b", s ∷ []) ∷ [])) ∷ [])

-- a branch that returns
abbrev pub ReturnInABranchIsAFault : Type 0
ReturnInABranchIsAFault = Refuses (one_branch [] (st (codes "r") (Body.Return (num 1)))) ReturnInBranch (Index 0 ∷ Key (codes "p") ∷ Key (codes "parallel") ∷ Key (codes "branches") ∷ Index 0 ∷ Key (codes "b") ∷ Key (codes "steps") ∷ Index 0 ∷ Key (codes "r") ∷ Key (codes "return") ∷ [])

-- a shared name that nothing outside assigns
abbrev pub UnknownSharedIsAFault : Type 0
UnknownSharedIsAFault = Refuses (one_branch (codes "x" ∷ []) (st (codes "n") Body.Nothing)) UnknownShared (Index 0 ∷ Key (codes "p") ∷ Key (codes "parallel") ∷ Key (codes "shared") ∷ Index 0 ∷ [])

-- a call of no workflow and no function
abbrev pub UnknownCallIsAFault : Type 0
UnknownCallIsAFault = Refuses (main_of (st (codes "a") (call_of (codes "gone") [] None) ∷ [])) UnknownCall (Index 0 ∷ Key (codes "a") ∷ Key (codes "call") ∷ [])

-- an assign of so many entries
abbrev pub assigning : ℕ → Program
assigning n = main_of (st (codes "a") (Body.Assign (replicate n (sets (codes "x") (num 1)))) ∷ [])

-- fifty entries are the most
abbrev pub FiftyEntriesAreAccepted : Type 0
FiftyEntriesAreAccepted = first_fault (assigning 50) ≡ None

abbrev pub OneEntryMoreIsAFault : Type 0
OneEntryMoreIsAFault = Refuses (assigning 51) TooMany (Index 0 ∷ Key (codes "a") ∷ Key (codes "assign") ∷ [])

-- a variable that nothing assigns
abbrev pub UnknownNameIsAFault : Type 0
UnknownNameIsAFault = first_fault (main_of (st (codes "a") (Body.Return (var (codes "x"))) ∷ []))
    ≡ Some (record { kind = UnknownName; place = Key (codes "main") ∷ Key (codes "steps") ∷ Index 0 ∷ Key (codes "a") ∷ Key (codes "return") ∷ [] })

-- `sys.log` takes one of `data`, `text` and `json`
abbrev pub LogOfTwoIsAFault : Type 0
LogOfTwoIsAFault = first_fault (main_of (st (codes "a") (call_of (codes "sys.log") ((codes "json", num 1) ∷ (codes "text", num 1) ∷ []) None) ∷ []))
    ≡ Some (record { kind = BadArgument; place = Key (codes "main") ∷ Key (codes "steps") ∷ Index 0 ∷ Key (codes "a") ∷ Key (codes "args") ∷ [] })

abbrev pub NoStepsAreAFault : Type 0
NoStepsAreAFault = first_fault (main_of []) ≡ Some (record { kind = EmptySteps; place = Key (codes "main") ∷ Key (codes "steps") ∷ [] })

-- a write in a branch, to a variable of `main` that isn't shared
abbrev pub UndeclaredWriteIsAFault : Type 0
UndeclaredWriteIsAFault = first_fault (branch_write (codes "t") []) ≡ Some (record {
  kind = UndeclaredWrite;
  place = Key (codes "main") ∷ Key (codes "steps") ∷ Index 1 ∷ Key (codes "p") ∷ Key (codes "parallel") ∷ Key (codes "branches") ∷ Index 0 ∷ Key (codes "b") ∷ Key (codes "steps") ∷ Index 0 ∷ Key (codes "w") ∷ Key (codes "assign") ∷ Index 0 ∷ Key (codes "t") ∷ [];
})

-- to one that is shared, and to a new one
abbrev pub SharedWriteIsAccepted : Type 0
SharedWriteIsAccepted = first_fault (branch_write (codes "t") (codes "t" ∷ [])) ≡ None

abbrev pub NewNameIsAccepted : Type 0
NewNameIsAccepted = first_fault (branch_write (codes "u") []) ≡ None
