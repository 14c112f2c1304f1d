-- The parts of a program by number, in the preorder of the rules.
--     Part, Spot       a part, and whose lists of steps stand around it as far as a jump may lead
--     spots            the parts of a program
--     part_at ..       a part by its number
use Rattle.std.specs.Prelude.{ℕ, zero, suc, ◌+◌, List, [], ◌∷◌, ◌++◌, slice_get, Some, None, Option}
use Rattle.wf_ast.specs.Tree.{no_exprs, Template, Scalar, Entry, Step, step, Steps, no_steps, more, Body, Arms, no_arms, arm, LoopBody, loop, ParallelBody, parallel, Work, OfBranches, OfLoop, Branches, no_branches, branch, TryBody, try, Except, no_except, except, Flow}
use Rattle.wf_value.specs.Data.{null}
use Rattle.wf_value.specs.Pairs.{Text}

-- what a number stands for
pub data Part : Type 0 where
  FlowAt : Flow → Part
  -- a step; an arm's body with the arm's `next`; or a body under a `try`. The last two have no name
  BodyAt : (name : Text) → Body → (next : Option Text) → Part
  -- an arm, whose body has the next number
  ArmAt : (condition : Template) → Part
  EntryAt : Entry → Part
  BranchAt : (name : Text) → Steps → Part
  NoPart : Part

pub record Spot : Type 0 where
  pub part : Part
  -- the numbers of what owns the lists of steps around it, innermost first, as far as a jump may lead
  pub owners : List ℕ

abbrev pub spot : Part → List ℕ → Spot
spot p os = record { part = p; owners = os }

-- ## How many parts
abbrev pub entries_size : List Entry → ℕ
entries_size [] = 0
entries_size (e ∷ es) = suc (entries_size es)

abbrev mutual
  pub steps_size : Steps → ℕ
  steps_size no_steps = 0
  steps_size (more s ss) = step_size s + steps_size ss

  pub step_size : Step → ℕ
  step_size (step x body next) = suc (body_size body)

  -- those that a body holds
  pub body_size : Body → ℕ
  body_size (Body.Assign es) = entries_size es
  body_size (Body.Switch arms) = arms_size arms
  body_size (Body.For l) = loop_size l
  body_size (Body.Parallel p) = parallel_size p
  body_size (Body.Block ss) = steps_size ss
  body_size (Body.Try t) = try_size t
  body_size body = 0

  pub arms_size : Arms → ℕ
  arms_size no_arms = 0
  arms_size (arm t body next rest) = suc (suc (body_size body)) + arms_size rest

  pub loop_size : LoopBody → ℕ
  loop_size (loop x i o ss) = steps_size ss

  pub parallel_size : ParallelBody → ℕ
  parallel_size (parallel shared limit w) = work_size w

  pub work_size : Work → ℕ
  work_size (OfBranches bs) = branches_size bs
  work_size (OfLoop l) = loop_size l

  pub branches_size : Branches → ℕ
  branches_size no_branches = 0
  branches_size (branch x ss bs) = suc (steps_size ss) + branches_size bs

  pub try_size : TryBody → ℕ
  try_size (try body policy x) = suc (body_size body) + except_size x

  pub except_size : Except → ℕ
  except_size no_except = 0
  except_size (except x ss) = steps_size ss

-- ## The parts, from a number on
abbrev pub entries_spots : List Entry → List ℕ → List Spot
entries_spots [] os = []
entries_spots (e ∷ es) os = spot (EntryAt e) os ∷ entries_spots es os

abbrev mutual
  pub steps_spots : Steps → ℕ → List ℕ → List Spot
  steps_spots no_steps n os = []
  steps_spots (more s ss) n os = step_spots s n os ++ steps_spots ss (n + step_size s) os

  pub step_spots : Step → ℕ → List ℕ → List Spot
  step_spots (step x body next) n os = spot (BodyAt x body next) os ∷ body_spots body n os

  -- what the body of this number holds
  pub body_spots : Body → ℕ → List ℕ → List Spot
  body_spots (Body.Assign es) n os = entries_spots es os
  body_spots (Body.Switch arms) n os = arms_spots arms (suc n) os
  body_spots (Body.For l) n os = loop_spots l n
  body_spots (Body.Parallel p) n os = parallel_spots p n os
  body_spots (Body.Block ss) n os = steps_spots ss (suc n) (n ∷ os)
  body_spots (Body.Try t) n os = try_spots t n os
  body_spots body n os = []

  pub arms_spots : Arms → ℕ → List ℕ → List Spot
  arms_spots no_arms n os = []
  arms_spots (arm t body next rest) n os =
      spot (ArmAt t) os ∷ spot (BodyAt [] body next) os ∷ body_spots body (suc n) os ++ arms_spots rest (n + suc (suc (body_size body))) os

  -- a jump leads out of no loop
  pub loop_spots : LoopBody → ℕ → List Spot
  loop_spots (loop x i o ss) n = steps_spots ss (suc n) (n ∷ [])

  pub parallel_spots : ParallelBody → ℕ → List ℕ → List Spot
  parallel_spots (parallel shared limit w) n os = work_spots w n os

  pub work_spots : Work → ℕ → List ℕ → List Spot
  work_spots (OfBranches bs) n os = branches_spots bs (suc n) os
  work_spots (OfLoop l) n os = loop_spots l n

  -- and out of no branch
  pub branches_spots : Branches → ℕ → List ℕ → List Spot
  branches_spots no_branches n os = []
  branches_spots (branch x ss bs) n os =
      spot (BranchAt x ss) os ∷ steps_spots ss (suc n) (n ∷ []) ++ branches_spots bs (n + suc (steps_size ss)) os

  -- the list of an `except` is the one that the `try` owns
  pub try_spots : TryBody → ℕ → List ℕ → List Spot
  try_spots (try body policy x) n os =
      spot (BodyAt [] body None) os ∷ body_spots body (suc n) os ++ except_spots x (n + suc (suc (body_size body))) (n ∷ os)

  pub except_spots : Except → ℕ → List ℕ → List Spot
  except_spots no_except n os = []
  except_spots (except x ss) n os = steps_spots ss n os

-- a workflow of this number
abbrev pub flow_spots : Flow → ℕ → List Spot
flow_spots f n = spot (FlowAt f) [] ∷ steps_spots f.steps (suc n) (n ∷ [])

abbrev pub flows_spots : List Flow → ℕ → List Spot
flows_spots [] n = []
flows_spots (f ∷ fs) n = flow_spots f n ++ flows_spots fs (n + suc (steps_size f.steps))

-- the parts of workflows
abbrev pub spots : List Flow → List Spot
spots fs = flows_spots fs 0

-- ## By number
abbrev pub spot_part : Option Spot → Part
spot_part None = NoPart
spot_part (Some s) = s.part

abbrev pub spot_owners : Option Spot → List ℕ
spot_owners None = []
spot_owners (Some s) = s.owners

abbrev pub part_at : List Spot → ℕ → Part
part_at ns n = spot_part (slice_get ns n)

abbrev pub owners_at : List Spot → ℕ → List ℕ
owners_at ns n = spot_owners (slice_get ns n)

-- ## What a part is
abbrev pub part_name : Part → Text
part_name (FlowAt f) = f.name
part_name (BodyAt x body next) = x
part_name (BranchAt x ss) = x
part_name p = []

abbrev pub part_body : Part → Body
part_body (BodyAt x body next) = body
part_body p = Body.Nothing

abbrev pub part_next : Part → Option Text
part_next (BodyAt x body next) = next
part_next p = None

abbrev pub part_step : Part → Step
part_step p = step (part_name p) (part_body p) (part_next p)

abbrev pub part_condition : Part → Template
part_condition (ArmAt t) = t
part_condition p = Scalar null

abbrev pub part_entry : Part → Entry
part_entry (EntryAt e) = e
part_entry p = record { target = record { name = []; places = no_exprs; written = [] }; value = Scalar null }

abbrev pub part_branch : Part → Text × Steps
part_branch (BranchAt x ss) = (x, ss)
part_branch p = ([], no_steps)

-- ## The one list of steps that a part owns
abbrev pub loop_list : LoopBody → Steps
loop_list (loop x i o ss) = ss

abbrev pub work_list : Work → Steps
work_list (OfBranches bs) = no_steps
work_list (OfLoop l) = loop_list l

abbrev pub parallel_list : ParallelBody → Steps
parallel_list (parallel shared limit w) = work_list w

abbrev pub except_list : Except → Steps
except_list no_except = no_steps
except_list (except x ss) = ss

abbrev pub try_list : TryBody → Steps
try_list (try body policy x) = except_list x

abbrev pub body_list : Body → Steps
body_list (Body.Block ss) = ss
body_list (Body.For l) = loop_list l
body_list (Body.Parallel p) = parallel_list p
body_list (Body.Try t) = try_list t
body_list body = no_steps

abbrev pub part_list : Part → Steps
part_list (FlowAt f) = f.steps
part_list (BodyAt x body next) = body_list body
part_list (BranchAt x ss) = ss
part_list p = no_steps

-- ## The parts of some numbers
abbrev pub steps_by : List Spot → List ℕ → Steps
steps_by ns [] = no_steps
steps_by ns (n ∷ others) = more (part_step (part_at ns n)) (steps_by ns others)

abbrev pub arms_by : List Spot → List ℕ → Arms
arms_by ns [] = no_arms
arms_by ns (n ∷ others) = arm (part_condition (part_at ns n)) (part_body (part_at ns (suc n))) (part_next (part_at ns (suc n))) (arms_by ns others)

abbrev pub entries_by : List Spot → List ℕ → List Entry
entries_by ns [] = []
entries_by ns (n ∷ others) = part_entry (part_at ns n) ∷ entries_by ns others

abbrev pub branches_by : List Spot → List ℕ → Branches
branches_by ns [] = no_branches
branches_by ns (n ∷ others) = branch (part_branch (part_at ns n)).0 (part_branch (part_at ns n)).1 (branches_by ns others)

-- a list of steps from this one on
abbrev pub from : ℕ → Steps → Steps
from zero ss = ss
from (suc n) no_steps = no_steps
from (suc n) (more s ss) = from n ss
