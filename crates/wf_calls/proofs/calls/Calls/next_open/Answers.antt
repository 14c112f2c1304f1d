use Rattle.std.proofs.Common.{arith}
use Rattle.wf_calls.proofs.Scanning.{ended, passed}
use Rattle.wf_calls.proofs.calls.Calls.next_open.Goals as goal

pub loop-place-preserved : goal.loop-place-preserved
loop-place-preserved c =
    passed c.self.inside.calls.items c.args.after c.loop-place.place c.index.result.now c.loop-place.invariant (omega arith) c.index.ensures cc

pub returns-clause-none : goal.returns-clause-none
returns-clause-none c = rw (← c.self.view_is) (ended c.self.inside.calls.items c.args.after c.loop-place.place c.loop-place.invariant (omega arith))
