use Rattle.std.proofs.Common.{◌≡◌, drop}
use Rattle.wf_assigned.proofs.solve.is_settled.Given as goal
use Rattle.wf_assigned.specs.Links.{settled_links}

-- those that are left decide
abbrev pub invariant-loop-link : goal.invariant-loop-link
invariant-loop-link l = settled_links (drop l.link-index l.links) l.written l.words ≡ settled_links l.links l.written l.words
