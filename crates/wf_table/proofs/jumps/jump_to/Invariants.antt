use Rattle.std.proofs.Common.{◌≡◌, ℕ, List, length, map, slice_get, Some}
use Rattle.wf_ast.specs.Tree.{Flow}
use Rattle.wf_table.proofs.Jumping.{Outward, rank}
use Rattle.wf_table.proofs.jumps.jump_to.Given as goal
use Rattle.wf_model.specs.NodeKinds.{node_view}
use Rattle.wf_table.specs.Made.{views_for}
use Rattle.wf_table.specs.Named.{Finds}
use Rattle.wf_model.specs.Spots.{owners_at, spots}

abbrev pub invariant-loop-next : goal.invariant-loop-next
invariant-loop-next l = (fs : List Flow) (i : ℕ) → map node_view l.nodes ≡ views_for 0 (spots fs) → length l.lists ≡ length l.nodes → Finds (map node_view l.nodes) l.lists → slice_get l.nodes i ≡ Some l.node
    → Outward fs (map node_view l.nodes) l.name (owners_at (spots fs) i) l.next

abbrev pub decreases-loop-next : goal.decreases-loop-next
decreases-loop-next l = rank l.next
