-- The nodes that are made of parts, from a number on.
use Rattle.std.specs.Prelude.{◌≡◌, ℕ, suc, ◌+◌, List, [], ◌∷◌, ◌++◌, length, map, Option, None, Some}
use Rattle.wf_ast.specs.Tree.{Entry, Steps, no_steps, more, Body, Arms, no_arms, arm, LoopBody, loop, ParallelBody, parallel, Work, OfBranches, OfLoop, Branches, no_branches, branch, TryBody, try, Except, no_except, except, Flow}
use Rattle.wf_model.specs.NodeKinds.{Handler, Kind, Repeated, Side, View, listed, node_view}
use Rattle.wf_model.specs.NodeKinds as kind
use Rattle.wf_model.specs.Spots.{Part, FlowAt, BodyAt, ArmAt, EntryAt, BranchAt, NoPart, Spot, body_size, step_size, steps_size, part_name, part_next}
use Rattle.wf_model.specs.Table.{innermost}
use Rattle.wf_table.specs.declared.around.Here.{Here}
use Rattle.wf_model.specs.declared.node.Node.{Node}

-- whose list a body stands in, and in how many, when these own the lists around it
pub record StandsIn (h : Here) (os : List ℕ) : Type 0 where
  pub owner : h.owner ≡ innermost os
  pub depth : h.depth ≡ length os

-- ## Numbers of parts, the first of which is n
abbrev pub step_numbers : Steps → ℕ → List ℕ
step_numbers no_steps n = []
step_numbers (more s ss) n = n ∷ step_numbers ss (n + step_size s)

abbrev pub entry_numbers : List Entry → ℕ → List ℕ
entry_numbers [] n = []
entry_numbers (e ∷ es) n = n ∷ entry_numbers es (suc n)

abbrev pub arm_numbers : Arms → ℕ → List ℕ
arm_numbers no_arms n = []
arm_numbers (arm t body next rest) n = n ∷ arm_numbers rest (n + suc (suc (body_size body)))

abbrev pub branch_numbers : Branches → ℕ → List ℕ
branch_numbers no_branches n = []
branch_numbers (branch x ss bs) n = n ∷ branch_numbers bs (n + suc (steps_size ss))

abbrev pub flow_numbers : List Flow → ℕ → List ℕ
flow_numbers [] n = []
flow_numbers (f ∷ fs) n = n ∷ flow_numbers fs (n + suc (steps_size f.steps))

-- ## Kinds of the part of number n, with so many lists around it
abbrev pub loop_for : ℕ → LoopBody → Repeated
loop_for n (loop x i o ss) = record { value = x; index = i; over = o; steps = listed (step_numbers ss (suc n)) 1 }

abbrev pub side_for : ℕ → Work → Side
side_for n (OfBranches bs) = kind.Branches (branch_numbers bs (suc n))
side_for n (OfLoop l) = kind.Iterations (loop_for n l)

abbrev pub parallel_for : ℕ → ParallelBody → Kind
parallel_for n (parallel shared limit w) = kind.Parallel shared limit (side_for n w)

-- its steps begin at n
abbrev pub handler_for : ℕ → ℕ → Except → Option Handler
handler_for n depth no_except = None
handler_for n depth (except x ss) = Some (record { name = x; steps = listed (step_numbers ss n) (suc depth) })

abbrev pub try_for : ℕ → ℕ → TryBody → Kind
try_for n depth (try body policy x) = kind.Try (suc n) policy (handler_for (n + suc (suc (body_size body))) depth x)

abbrev pub body_for : ℕ → ℕ → Body → Kind
body_for n depth Body.Nothing = kind.Nothing
body_for n depth (Body.Assign es) = kind.Assign (entry_numbers es (suc n))
body_for n depth (Body.Call f) = kind.Call f
body_for n depth (Body.Switch arms) = kind.Switch (arm_numbers arms (suc n))
body_for n depth (Body.For l) = kind.For (loop_for n l)
body_for n depth (Body.Parallel p) = parallel_for n p
body_for n depth (Body.Block ss) = kind.Block (listed (step_numbers ss (suc n)) (suc depth))
body_for n depth (Body.Try t) = try_for n depth t
body_for n depth (Body.Raise t) = kind.Raise t
body_for n depth (Body.Return t) = kind.Return t

abbrev pub kind_for : ℕ → ℕ → Part → Kind
kind_for n depth (FlowAt f) = kind.Flow f.params (listed (step_numbers f.steps (suc n)) 1)
kind_for n depth (BodyAt x body next) = body_for n depth body
kind_for n depth (ArmAt t) = kind.Arm t
kind_for n depth (EntryAt e) = kind.Entry e
kind_for n depth (BranchAt x ss) = kind.Branch (listed (step_numbers ss (suc n)) 1)
kind_for n depth NoPart = kind.Nothing

-- ## Nodes
abbrev pub view_for : ℕ → Spot → View
view_for n s = record { kind = kind_for n (length s.owners) s.part; name = part_name s.part; next = part_next s.part; owner = innermost s.owners }

-- a node that is no body
abbrev pub leaf_view : Option ℕ → Kind → View
leaf_view o k = record { kind = k; name = []; next = None; owner = o }

abbrev pub views_for : ℕ → List Spot → List View
views_for n [] = []
views_for n (s ∷ others) = view_for n s ∷ views_for (suc n) others

-- the nodes of these parts more
pub record Adds (old new : List Node) (parts : List Spot) : Type 0 where
  pub views : map node_view new ≡ map node_view old ++ views_for (length old) parts
