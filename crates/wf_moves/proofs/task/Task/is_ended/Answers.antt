use Rattle.wf_frames.specs.Frames.{inner}
use Rattle.wf_moves.proofs.Starting.{none_left, one_left}
use Rattle.wf_moves.proofs.task.Task.is_ended.Goals as goal

pub returns-in-None : goal.returns-in-None
returns-in-None c = none_left (inner c.args.self.now.frames) c.in-None.ensures

pub returns-in-Some : goal.returns-in-Some
returns-in-Some c = one_left c.in-Some.field-0.now (inner c.args.self.now.frames) c.in-Some.ensures
