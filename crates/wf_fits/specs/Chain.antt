-- The control of a task, and its layers, told by the program alone: each item stands inside the construct that put it on.
--     first_steps, first_binds   what a task begins with
--     Chained                    each item
--     WaitStands                 the innermost item, beside a wait
--     Matched                    each layer
--     Bounded, RunsFew           the numbers that a control counts with
use Rattle.std.specs.Prelude.{ℕ, ◌≤◌, ◌<◌, T, not, length, List, [], ◌∷◌, Some, None, Option}
use Rattle.wf_ast.specs.Tree.{Steps, no_steps, Flow}
use Rattle.wf_model.specs.Config.{Layer, Item, Do, Entries, Then, Loop, Try, Judge, Mark, Back, Join, Wait, Awake, Sleep, Delay, Calling, Await, Task, running_limit, task_in}
use Rattle.wf_model.specs.Run.{main_steps}
use Rattle.wf_never_wrong.specs.Places.{Own, OfMark, OfCall, OfTask, IsFirst, IsMark, Inside, Holds, first_of, IsSettled, IsTry, Rises, tries_of, DoStands, EntriesStand, ThenStands, LoopStands, TryStands, MarkStands, BackStands, JoinStands, WaitsIn}
use Rattle.wf_never_wrong.specs.Stands.{steps_in, binds_in, main_binds}
use Rattle.wf_value.specs.Data.{Pairs}
use Rattle.wf_value.specs.Pairs.{Text}

-- the steps of `main`, of a branch or of an iteration
abbrev pub first_steps : List Flow → List (ℕ × Task) → Option (ℕ × ℕ) → Steps
first_steps fs ts None = main_steps fs
first_steps fs ts (Some p) = elim (task_in ts p.0) [ None ↦ no_steps | Some t ↦ steps_in t.control p.1 ]

-- the names that its first layer binds
abbrev pub first_binds : List Flow → List (ℕ × Task) → Option (ℕ × ℕ) → List Text
first_binds fs ts None = main_binds fs
first_binds fs ts (Some p) = elim (task_in ts p.0) [ None ↦ [] | Some t ↦ binds_in t.control ]

module _ (fs : List Flow) (first : Steps) (binds : List Text) where
  -- what opened each own layer stands beside the items
  abbrev pub Chained : List Item → List Own → Type 0
  Chained [] E = IsFirst E
  Chained (Do block left ∷ k) E = DoStands fs first binds k block left E × Chained k E
  Chained (Entries es ∷ k) E = EntriesStand fs k es × Chained k E
  Chained (Then x ∷ k) E = ThenStands fs k x × Chained k E
  Chained (Loop l w i ∷ k) E = LoopStands fs k l w × Chained k E
  Chained (Try t n d ∷ k) E = TryStands fs k t d × (n ≤ tries_of t) × Chained k E
  Chained (Judge t n d e ∷ k) E = TryStands fs k t d × (n < tries_of t) × Chained k E
  Chained (Mark ∷ k) [] = ⊥
  Chained (Mark ∷ k) (N ∷ E) = IsMark N × MarkStands fs first binds k (N ∷ E) × Chained k E
  Chained (Back r ∷ k) [] = ⊥
  Chained (Back r ∷ k) (N ∷ E) = BackStands fs k r N × Chained k E
  Chained (Join body left n r es ∷ k) E = JoinStands fs k body left n × Chained k E

-- a task without a wait is settled, a delay stands at its try, and each other wait behind a call that gives it
abbrev pub WaitStands : List Flow → Wait → List Item → Type 0
WaitStands fs Awake k = IsSettled k
WaitStands fs (Sleep d r) k = WaitsIn fs k (Sleep d r) r
WaitStands fs (Delay d) k = IsTry k
WaitStands fs (Calling n r) k = WaitsIn fs k (Calling n r) r
WaitStands fs (Await n d r) k = WaitsIn fs k (Await n d r) r

-- the bound names of a branch's and of an iteration's first layer; `main`'s binds one at most
abbrev pub HoldsFirst : Option (ℕ × ℕ) → Pairs → List Text → Type 0
HoldsFirst None ps binds = Holds ps (first_of binds)
HoldsFirst (Some p) ps binds = Holds ps binds

-- whether a call opened it, and its names, of which the bound ones are there
abbrev pub Matched : Option (ℕ × ℕ) → List Layer → List Own → Type 0
Matched o (l ∷ ls) (OfMark b a ∷ E) = T (not l.by_call) × Inside l.vars b a × Holds l.vars b × Matched o ls E
Matched o (l ∷ ls) (OfCall b a ∷ E) = T l.by_call × Inside l.vars b a × Holds l.vars b × Matched o ls E
Matched o (l ∷ []) (OfTask b a ∷ []) = T (not l.by_call) × Inside l.vars b a × HoldsFirst o l.vars b
Matched o ls E = ⊥

-- the numbers that count are bounded, and the running tasks of a parallel step stand by rising numbers
abbrev pub Bounded : ℕ → List Item → Type 0
Bounded most [] = Unit {0}
Bounded most (Loop l w i ∷ k) = (i ≤ most) × Bounded most k
Bounded most (Join body left n r es ∷ k) = Rises r × (n ≤ most) × Bounded most k
Bounded most (i ∷ k) = Bounded most k

-- how many run at once
abbrev pub RunsFew : List Item → Type 0
RunsFew [] = Unit {0}
RunsFew (Join body left n r es ∷ k) = (length r ≤ running_limit) × RunsFew k
RunsFew (i ∷ k) = RunsFew k
