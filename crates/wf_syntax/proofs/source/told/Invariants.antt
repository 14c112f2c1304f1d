use Rattle.std.proofs.Common.{◌≡◌, ◌++◌, length, reverse}
use Rattle.wf_syntax.proofs.source.told.Given as goal

-- the path so far, and the rest of the way behind it
abbrev pub invariant-each : goal.invariant-each
invariant-each l = l.path ++ reverse l.way.items ≡ reverse l.initial.way.items

abbrev pub decreases-each : goal.decreases-each
decreases-each l = length l.way.items
