use Rattle.std.proofs.Common.{◌≡◌, ◌++◌}
use Rattle.wf_assigned.proofs.links.add_links.Given as goal
use Rattle.wf_assigned.specs.Links.{edge_links}

-- those of the numbers so far are there
abbrev pub invariant-loop-number : goal.invariant-loop-number
invariant-loop-number l = l.links.items ≡ l.fn.links.items ++ edge_links l.count l.index l.edge l.number
