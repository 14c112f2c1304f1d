use Rattle.std.proofs.Common.{◌≤◌, ◌-◌, vec_len}
use Rattle.wf_host.specs.Source.{HoldsRest}
use Rattle.wf_host.proofs.reading.read_up_to.Given as goal

-- what was read is what the source lost, within the limit
abbrev pub invariant-loop-buffer : goal.invariant-loop-buffer
invariant-loop-buffer g l = record {
  read : HoldsRest (g.S.Source.left l.initial.source) (g.S.Source.left l.source) l.out.items;
  later : g.S.Source.faults l.initial.source ≤ g.S.Source.faults l.source;
  within : vec_len l.out ≤ l.limit;
}

abbrev pub decreases-loop-buffer : goal.decreases-loop-buffer
decreases-loop-buffer g l = l.limit - vec_len l.out
