use Rattle.std.proofs.Common.{◌≡◌, length}
use Rattle.wf_wants.proofs.Wanted.{Found}
use Rattle.wf_wants.proofs.wants.wants_of.Given as goal

-- what the nodes before this one want
abbrev pub invariant-loop-n : goal.invariant-loop-n
invariant-loop-n g l = record {
  long : length l.wants.items ≡ l.n;
  found : Found g.ns l.nodes l.targets l.n l.wants.items;
}

abbrev pub ghost-node_kind : goal.ghost-node_kind
ghost-node_kind g a = g.ns

abbrev pub ghost-is_entry_at : goal.ghost-is_entry_at
ghost-is_entry_at g a = g.ns
