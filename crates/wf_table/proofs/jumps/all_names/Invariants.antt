use Rattle.std.proofs.Common.{◌≡◌, length, map}
use Rattle.wf_table.proofs.jumps.all_names.Given as goal
use Rattle.wf_model.specs.NodeKinds.{node_view}
use Rattle.wf_table.specs.Named.{Finds}

abbrev pub invariant-loop-node : goal.invariant-loop-node
invariant-loop-node l = record {
  long : length l.lists.items ≡ l.node-index;
  finds : Finds (map node_view l.nodes) l.lists.items;
}
