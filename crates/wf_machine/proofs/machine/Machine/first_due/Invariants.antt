use Rattle.std.proofs.Common.{◌≡◌, drop}
use Rattle.wf_machine.proofs.machine.Machine.first_due.Given as goal
use Rattle.wf_machine.specs.Seen.{shown}
use Rattle.wf_model.specs.Choose.{first_due}

abbrev pub invariant-loop-place : goal.invariant-loop-place
invariant-loop-place l = first_due (shown l.self) l.reading (shown l.self).tasks ≡ first_due (shown l.self) l.reading (drop l.place (shown l.self).tasks)
