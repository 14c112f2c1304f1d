use Rattle.std.proofs.Common.{◌≡◌, drop}
use Rattle.wf_machine.proofs.machine.Machine.least_due.Given as goal
use Rattle.wf_machine.specs.Dues.{sooner}
use Rattle.wf_machine.specs.Seen.{shown}
use Rattle.wf_model.specs.Ready.{dues_in, least_due, least_in}

abbrev pub invariant-loop-place : goal.invariant-loop-place
invariant-loop-place l = sooner l.least (least_in (dues_in (shown l.self) (drop l.place (shown l.self).tasks))) ≡ least_due (shown l.self)
