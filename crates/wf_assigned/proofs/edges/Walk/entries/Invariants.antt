use Rattle.std.proofs.Common.{◌≡◌, ◌+◌, List, drop, map}
use Rattle.wf_assigned.proofs.Laying.{AddsOn}
use Rattle.wf_assigned.proofs.edges.Walk.entries.Given as goal
use Rattle.wf_assigned.specs.Edges.{Block as Around, entries_edges}
use Rattle.wf_assigned.specs.Laid.{site_of}
use Rattle.wf_ast.specs.View.{entry_view}
use Rattle.wf_model.specs.Spots.{entries_size}

-- the numbers of those that are left follow, and so do their edges
abbrev pub invariant-loop-index : goal.invariant-loop-index
invariant-loop-index l = record {
  number : l.number + entries_size (map entry_view (drop l.index l.entries)) ≡ l.first + entries_size (map entry_view l.entries);
  adds : (around : List Around) → AddsOn l.initial.self l.self (entries_edges (map entry_view l.entries) l.first l.assign (site_of l.here around)) (entries_edges (map entry_view (drop l.index l.entries)) l.number l.assign (site_of l.here around));
}
