-- What a table of nodes says of a program's parts.
--     part_by      the part that a node is
--     Leads        where a jump leads
--     Resolves     each node is the part of its number, and its numbers are those of its parts
use Rattle.std.specs.Prelude.{◌≡◌, ℕ, suc, ◌<◌, List, [], ◌∷◌, length, map, slice_get, Some, None, Option, ◌⊎◌}
use Rattle.wf_ast.specs.Tree.{Param, Step, Steps, no_steps, more, Body, LoopBody, loop, parallel, Work, OfBranches, OfLoop, try, Except, no_except, except, Flow}
use Rattle.wf_model.specs.Unwind.{from_step}
use Rattle.wf_value.specs.Pairs.{Text}
use Rattle.wf_model.specs.NodeKinds as kind
use Rattle.wf_model.specs.NodeKinds.{Handler, Kind, Listed, Repeated, Side, View, node_view}
use Rattle.wf_model.specs.Spots.{Part, FlowAt, BodyAt, ArmAt, EntryAt, BranchAt, Spot, part_at, part_body, part_list, part_next, owners_at, steps_by, arms_by, entries_by, branches_by, from}
use Rattle.wf_model.specs.declared.node.Jump.{Jump}
use Rattle.wf_model.specs.declared.node.Node.{Node}

-- ## The part that a node is
abbrev pub loop_of : List Spot → Repeated → LoopBody
loop_of ns l = loop l.value l.index l.over (steps_by ns l.steps.steps)

abbrev pub work_of : List Spot → Side → Work
work_of ns (kind.Branches numbers) = OfBranches (branches_by ns numbers)
work_of ns (kind.Iterations l) = OfLoop (loop_of ns l)

abbrev pub except_of : List Spot → Option Handler → Except
except_of ns None = no_except
except_of ns (Some x) = except x.name (steps_by ns x.steps.steps)

abbrev pub body_of : List Spot → Kind → Body
body_of ns (kind.Assign numbers) = Body.Assign (entries_by ns numbers)
body_of ns (kind.Call f) = Body.Call f
body_of ns (kind.Switch numbers) = Body.Switch (arms_by ns numbers)
body_of ns (kind.For l) = Body.For (loop_of ns l)
body_of ns (kind.Parallel shared limit w) = Body.Parallel (parallel shared limit (work_of ns w))
body_of ns (kind.Block b) = Body.Block (steps_by ns b.steps)
body_of ns (kind.Try n policy x) = Body.Try (try (part_body (part_at ns n)) policy (except_of ns x))
body_of ns (kind.Raise t) = Body.Raise t
body_of ns (kind.Return t) = Body.Return t
body_of ns k = Body.Nothing

abbrev pub flow_of : List Spot → Text → List Param → Listed → Flow
flow_of ns x params b = record { name = x; params = params; steps = steps_by ns b.steps }

abbrev pub part_by : List Spot → Text → Option Text → Kind → Part
part_by ns x next (kind.Flow params b) = FlowAt (flow_of ns x params b)
part_by ns x next (kind.Arm t) = ArmAt t
part_by ns x next (kind.Entry e) = EntryAt e
part_by ns x next (kind.Branch b) = BranchAt x (steps_by ns b.steps)
part_by ns x next k = BodyAt x (body_of ns k) next

-- ## The list of steps that a node owns
abbrev pub side_list : Side → Option Listed
side_list (kind.Branches numbers) = None
side_list (kind.Iterations l) = Some l.steps

abbrev pub handler_list : Option Handler → Option Listed
handler_list None = None
handler_list (Some x) = Some x.steps

abbrev pub kind_list : Kind → Option Listed
kind_list (kind.Flow params b) = Some b
kind_list (kind.For l) = Some l.steps
kind_list (kind.Parallel shared limit w) = side_list w
kind_list (kind.Block b) = Some b
kind_list (kind.Try n policy x) = handler_list x
kind_list (kind.Branch b) = Some b
kind_list k = None

abbrev pub view_list : Option View → Option Listed
view_list None = None
view_list (Some x) = kind_list x.kind

-- the list that the node of a number owns
abbrev pub list_at : List View → ℕ → Option Listed
list_at views n = view_list (slice_get views n)

-- what owns the lists around a node's own list, as far as a jump may lead, when these own those around the node
abbrev pub outside : Kind → List ℕ → List ℕ
outside (kind.Block b) os = os
outside (kind.Try n policy x) os = os
outside k os = []

-- ## Where parts stand
-- these are below the number
abbrev pub AreBelow : ℕ → List ℕ → Type 0
AreBelow len [] = Unit {0}
AreBelow len (n ∷ others) = (n < len) × AreBelow len others

-- these are above the number
abbrev pub AreAbove : ℕ → List ℕ → Type 0
AreAbove low [] = Unit {0}
AreAbove low (n ∷ others) = (low < n) × AreAbove low others

-- each is above those before it
abbrev pub AreRising : List ℕ → Type 0
AreRising [] = Unit {0}
AreRising (n ∷ others) = AreAbove n others × AreRising others

-- the parts of these numbers have these owners of lists around them
abbrev pub StandIn : List Spot → List ℕ → List ℕ → Type 0
StandIn ns os [] = Unit {0}
StandIn ns os (n ∷ others) = (owners_at ns n ≡ os) × StandIn ns os others

-- so have the bodies of these arms, each of the number behind the arm's
abbrev pub ArmsStandIn : List Spot → ℕ → List ℕ → List ℕ → Type 0
ArmsStandIn ns len os [] = Unit {0}
ArmsStandIn ns len os (n ∷ others) = (owners_at ns (suc n) ≡ os) × (suc n < len) × ArmsStandIn ns len os others

-- the list of the owner of this number: its steps stand in it and in the lists outside
abbrev pub ListStands : List Spot → ℕ → ℕ → List ℕ → Option Listed → Type 0
ListStands ns len i out None = Unit {0}
ListStands ns len i out (Some b) = AreBelow len b.steps × AreRising b.steps × StandIn ns (i ∷ out) b.steps × (b.depth ≡ suc (length out))

abbrev pub PartsStand : List Spot → ℕ → List ℕ → Kind → Type 0
PartsStand ns len os (kind.Assign numbers) = AreBelow len numbers
PartsStand ns len os (kind.Switch numbers) = ArmsStandIn ns len os numbers
PartsStand ns len os (kind.Parallel shared limit (kind.Branches numbers)) = AreBelow len numbers
PartsStand ns len os (kind.Try n policy x) = (n < len) × (owners_at ns n ≡ os)
PartsStand ns len os k = Unit {0}

-- the innermost
abbrev pub innermost : List ℕ → Option ℕ
innermost [] = None
innermost (o ∷ os) = Some o

-- a node is the part of this number
pub record Describes (ns : List Spot) (len i : ℕ) (x : View) : Type 0 where
  pub part : part_at ns i ≡ part_by ns x.name x.next x.kind
  pub next : x.next ≡ part_next (part_at ns i)
  pub owner : x.owner ≡ innermost (owners_at ns i)
  pub list : ListStands ns len i (outside x.kind (owners_at ns i)) (kind_list x.kind)
  pub parts : PartsStand ns len (owners_at ns i) x.kind

-- ## Jumps
-- the list of this owner has the step first, and the jump is to it
pub record LeadsInto (ns : List Spot) (views : List View) (x : Text) (j : Jump) (o : ℕ) (depth : ℕ) : Type 0 where
  pub to : Step
  pub rest : Steps
  pub list : Listed
  pub first : from_step x (part_list (part_at ns o)) ≡ more to rest
  pub owned : list_at views o ≡ Some list
  pub keeps : j.keep ≡ depth
  pub has : (i : ℕ) × (slice_get list.steps i ≡ Some j.to)
  pub only : (i : ℕ) → slice_get list.steps i ≡ Some j.to → from i (part_list (part_at ns o)) ≡ more to rest

-- this list has no such step
abbrev pub Lacks : List Spot → Text → ℕ → Type 0
Lacks ns x o = from_step x (part_list (part_at ns o)) ≡ no_steps

-- the jump is to the first of these lists, innermost first, that has the step; without a jump none has
abbrev pub Leads : List Spot → List View → Text → Option Jump → List ℕ → Type 0
Leads ns views x None [] = Unit {0}
Leads ns views x (Some j) [] = ⊥
Leads ns views x None (o ∷ os) = Lacks ns x o × Leads ns views x None os
Leads ns views x (Some j) (o ∷ os) = LeadsInto ns views x j o (suc (length os)) ⊎ (Lacks ns x o × Leads ns views x (Some j) os)

abbrev pub NextLeads : List Spot → List View → Option Text → Option Jump → List ℕ → Type 0
NextLeads ns views None j os = j ≡ None
NextLeads ns views (Some x) j os = Leads ns views x j os

-- so does each node's
abbrev pub EachLeads : List Spot → List Node → Type 0
EachLeads ns nodes = (i : ℕ) (x : Node) → slice_get nodes i ≡ Some x → NextLeads ns (map node_view nodes) x.next x.jump (owners_at ns i)

-- ## The table
pub record Resolves (ns : List Spot) (nodes : List Node) : Type 0 where
  pub as_long : length nodes ≡ length ns
  pub each : (i : ℕ) (x : Node) → slice_get nodes i ≡ Some x → Describes ns (length nodes) i (node_view x)
  pub jumps : EachLeads ns nodes
