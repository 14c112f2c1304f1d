use Rattle.std.proofs.Common.{◌≡◌, ◌-◌, ◌++◌, drop, length, map, take}
use Rattle.wf_scope.specs.Firsts.{shifted}
use Rattle.wf_scope.proofs.firsts.Firsts.shift.Given as goal

-- the hints before are shifted
abbrev pub invariant-loop-i : goal.invariant-loop-i
invariant-loop-i l = record {
  so_far : l.self.hints ≡ map (shifted l.place) (take l.i l.fn.self.hints) ++ drop l.i l.fn.self.hints;
  long : length l.self.hints ≡ 32;
  all : length l.fn.self.hints ≡ 32;
}

-- those that are left
abbrev pub decreases-loop-i : goal.decreases-loop-i
decreases-loop-i l = 32 - l.i
