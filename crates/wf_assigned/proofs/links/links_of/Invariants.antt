use Rattle.std.proofs.Common.{◌≡◌, ◌++◌, drop}
use Rattle.wf_assigned.proofs.links.links_of.Given as goal
use Rattle.wf_assigned.specs.Links.{links_of}

-- with those of the edges that are left they are all
abbrev pub invariant-loop-index : goal.invariant-loop-index
invariant-loop-index l = l.links.items ++ links_of l.count l.index (drop l.index l.edges) ≡ links_of l.count 0 l.edges
