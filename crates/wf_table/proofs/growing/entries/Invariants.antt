use Rattle.std.proofs.Common.{ℕ, List, drop}
use Rattle.wf_table.proofs.Going.{Going}
use Rattle.wf_table.proofs.Laid.{entry_parts, numbers_of_entries}
use Rattle.wf_table.proofs.growing.entries.Given as goal
use Rattle.wf_table.specs.Made.{StandsIn}

abbrev pub invariant-loop-entry : goal.invariant-loop-entry
invariant-loop-entry l = (os : List ℕ) → StandsIn l.here os
    → Going (entry_parts os) numbers_of_entries l.initial.nodes.items l.nodes.items l.entries (drop l.entry-index l.entries) l.numbers.items
