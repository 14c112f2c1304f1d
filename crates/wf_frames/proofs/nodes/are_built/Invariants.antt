use Rattle.std.proofs.Common.{◌≡◌, drop}
use Rattle.std.specs.List.{list_all}
use Rattle.wf_frames.specs.Built.{is_node_built, is_table_built}
use Rattle.wf_frames.proofs.nodes.are_built.Given as goal

-- what is left decides
abbrev pub invariant-loop-node : goal.invariant-loop-node
invariant-loop-node l = list_all (is_node_built l.nodes) (drop l.node-index l.nodes) ≡ is_table_built l.nodes
