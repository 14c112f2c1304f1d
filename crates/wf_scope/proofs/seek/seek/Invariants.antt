use Rattle.std.proofs.Common.{◌≡◌, ◌≤◌, ◌-◌, length, Less, Greater}
use Rattle.std.specs.List.{AllWithin}
use Rattle.wf_value.specs.Maps.{key_cmp}
use Rattle.wf_scope.proofs.seek.seek.Given as goal

-- the name is above those before the part that is left, and below those behind it
abbrev pub invariant-loop-low : goal.invariant-loop-low
invariant-loop-low l = record {
  before : AllWithin (λ p. key_cmp p.0 l.name ≡ Less) l.names 0 l.low;
  behind : AllWithin (λ p. key_cmp p.0 l.name ≡ Greater) l.names l.high (length l.names);
  ordered : l.low ≤ l.high;
  within : l.high ≤ length l.names;
}

abbrev pub decreases-loop-low : goal.decreases-loop-low
decreases-loop-low l = l.high - l.low
