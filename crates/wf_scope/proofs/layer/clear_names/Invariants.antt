use Rattle.std.proofs.Common.{◌≡◌, ◌-◌, ◌++◌, drop, length, map, take}
use Rattle.wf_scope.specs.Names.{unbound}
use Rattle.wf_scope.proofs.layer.clear_names.Given as goal

-- the names before have lost their values
abbrev pub invariant-loop-i : goal.invariant-loop-i
invariant-loop-i l = record {
  so_far : l.names.items ≡ map unbound (take l.i l.fn.names.items) ++ drop l.i l.fn.names.items;
  long : length l.names.items ≡ length l.fn.names.items;
}

-- those that are left
abbrev pub decreases-loop-i : goal.decreases-loop-i
decreases-loop-i l = length l.names.items - l.i
