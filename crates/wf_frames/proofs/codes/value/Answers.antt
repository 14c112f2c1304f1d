use Rattle.wf_model.specs.Shapes.{decoded}
use Rattle.wf_frames.proofs.Coded.{coded}
use Rattle.wf_frames.proofs.codes.value.Goals as goal

pub returns : goal.returns
returns g c = c.eval.ensures (decoded c.args.code.now) (coded c.args.code.now c.items-instrs.ensures.code.0 c.items-instrs.ensures.code.1)
