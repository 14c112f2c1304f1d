use Rattle.std.proofs.Common.{◌≡◌, ℕ, ◌<◌, List, length, map, slice_get, Some}
use Rattle.wf_ast.specs.Tree.{Flow}
use Rattle.wf_table.proofs.jumps.set_jumps.Given as goal
use Rattle.wf_model.specs.NodeKinds.{node_view}
use Rattle.wf_table.specs.Made.{views_for}
use Rattle.wf_model.specs.Spots.{owners_at, spots}
use Rattle.wf_model.specs.Table.{NextLeads}
use Rattle.wf_model.specs.declared.node.Node.{Node}

abbrev pub invariant-loop-index : goal.invariant-loop-index
invariant-loop-index l = record {
  long : length l.nodes.items ≡ length l.initial.nodes.items;
  views : map node_view l.nodes.items ≡ map node_view l.initial.nodes.items;
  jumps : (fs : List Flow) → map node_view l.initial.nodes.items ≡ views_for 0 (spots fs) → (i : ℕ) (x : Node) → i < l.index → slice_get l.nodes.items i ≡ Some x
      → NextLeads (spots fs) (map node_view l.initial.nodes.items) x.next x.jump (owners_at (spots fs) i);
}
