-- When frames fit a table: each number is that of a node of the kind that its frame needs, and each frame stands inside what its node
-- stands in.
--     reach        what owns the lists that a jump may lead to
--     Fits         for frames, innermost first
use Rattle.std.specs.Prelude.{◌≡◌, ℕ, ◌<◌, ◌≤◌, Bool, true, false, List, [], ◌∷◌, length, map, slice_get, is_some, Some, None, Option, option_map}
use Rattle.wf_frames.specs.declared.frames.Frame.{Frame}
use Rattle.wf_frames.specs.declared.frames.Frame.TheVariants as frame
use Rattle.wf_model.specs.NodeKinds as kind
use Rattle.wf_model.specs.NodeKinds.{Kind, Listed, View, node_view}
use Rattle.wf_model.specs.Spots.{Spot, owners_at}
use Rattle.wf_model.specs.Table.{outside, view_list}
use Rattle.wf_model.specs.declared.node.CallNode.{CallNode}
use Rattle.wf_model.specs.declared.node.LoopNode.{LoopNode}
use Rattle.wf_model.specs.declared.node.Node.{Node}
use Rattle.wf_model.specs.declared.node.ParallelNode.{ParallelNode}
use Rattle.wf_model.specs.declared.node.TryNode.{TryNode}
use Rattle.wf_model.specs.declared.node.NodeKind.TheVariants as variant
use Rattle.wf_value.specs.Data.{depth}
use Rattle.wf_value.specs.Plain.{plain}

-- innermost first
abbrev pub reach : List Frame → List ℕ
reach [] = []
reach (frame.Do n at ∷ fs) = n ∷ reach fs
reach (frame.Loop looping ∷ fs) = []
reach (frame.Back call number ∷ fs) = []
reach (frame.Judge judging ∷ fs) = []
reach (f ∷ fs) = reach fs

-- ## Nodes
abbrev pub view_at : List Node → ℕ → Option View
view_at nodes n = option_map node_view (slice_get nodes n)

abbrev pub views : List Node → List View
views nodes = map node_view nodes

-- the list of steps that the node of a number owns
abbrev pub list_at : List Node → ℕ → Option Listed
list_at nodes n = view_list (view_at nodes n)

-- the numbers of an assign's entries
abbrev pub kind_entries : Kind → Option (List ℕ)
kind_entries (kind.Assign numbers) = Some numbers
kind_entries k = None

abbrev pub view_entries : Option View → Option (List ℕ)
view_entries None = None
view_entries (Some x) = kind_entries x.kind

abbrev pub entries_at : List Node → ℕ → Option (List ℕ)
entries_at nodes n = view_entries (view_at nodes n)

-- whether a node says what is next
abbrev pub has_next : Option View → Bool
has_next None = false
has_next (Some x) = is_some x.next

-- the node is this loop
pub record IsLoop (nodes : List Node) (n : ℕ) (b : LoopNode) : Type 0 where
  pub node : Node
  pub at : slice_get nodes n ≡ Some node
  pub is : node.kind ≡ variant.For b

-- this `try`
pub record IsTry (nodes : List Node) (n : ℕ) (t : TryNode) : Type 0 where
  pub node : Node
  pub at : slice_get nodes n ≡ Some node
  pub is : node.kind ≡ variant.Try t

-- this call
pub record IsCall (nodes : List Node) (n : ℕ) (f : CallNode) : Type 0 where
  pub node : Node
  pub at : slice_get nodes n ≡ Some node
  pub is : node.kind ≡ variant.Call f

-- this parallel step
pub record IsParallel (nodes : List Node) (n : ℕ) (p : ParallelNode) : Type 0 where
  pub node : Node
  pub at : slice_get nodes n ≡ Some node
  pub is : node.kind ≡ variant.Parallel p

-- a call that a step makes is its node's
abbrev pub IsCallOf : List Node → Option ℕ → Type 0
IsCallOf nodes None = Unit {0}
IsCallOf nodes (Some n) = (f : CallNode) × IsCall nodes n f

-- the frame's number is that of a node of its kind, and an error on which is decided nests within the limit
abbrev pub HasNode : List Node → Frame → Type 0
HasNode nodes (frame.Do n at) = (b : Listed) × (list_at nodes n ≡ Some b) × (at ≤ length b.steps)
HasNode nodes (frame.Lone n done) = n < length nodes
HasNode nodes (frame.Entries n at) = (numbers : List ℕ) × (entries_at nodes n ≡ Some numbers) × (at ≤ length numbers)
HasNode nodes (frame.Then n) = (n < length nodes) × (has_next (view_at nodes n) ≡ true)
HasNode nodes (frame.Loop looping) = (b : LoopNode) × IsLoop nodes looping.value.node b
HasNode nodes (frame.Try trying) = (t : TryNode) × IsTry nodes trying.value.node t
HasNode nodes (frame.Mark number) = Unit {0}
HasNode nodes (frame.Back call number) = IsCallOf nodes call
HasNode nodes (frame.Judge judging) = ((t : TryNode) × IsTry nodes judging.value.node t) × (depth (plain judging.value.error) ≤ 100)

-- what owns the lists around the node's own one
abbrev pub view_outside : Option View → List ℕ → List ℕ
view_outside None os = []
view_outside (Some x) os = outside x.kind os

abbrev pub outside_at : List Spot → List Node → ℕ → List ℕ
outside_at ns nodes n = view_outside (view_at nodes n) (owners_at ns n)

-- it stands inside what its node stands in, as far as a jump may lead
abbrev pub Nests : List Spot → List Node → Frame → List Frame → Type 0
Nests ns nodes (frame.Do n at) fs = outside_at ns nodes n ≡ reach fs
Nests ns nodes (frame.Lone n done) fs = owners_at ns n ≡ reach fs
Nests ns nodes (frame.Then n) fs = owners_at ns n ≡ reach fs
Nests ns nodes (frame.Try trying) fs = owners_at ns trying.value.node ≡ reach fs
Nests ns nodes (frame.Judge judging) fs = owners_at ns judging.value.node ≡ reach fs
Nests ns nodes f fs = Unit {0}

abbrev pub FrameFits : List Spot → List Node → Frame → List Frame → Type 0
FrameFits ns nodes f fs = HasNode nodes f × Nests ns nodes f fs

abbrev pub Fits : List Spot → List Node → List Frame → Type 0
Fits ns nodes [] = Unit {0}
Fits ns nodes (f ∷ fs) = FrameFits ns nodes f fs × Fits ns nodes fs
