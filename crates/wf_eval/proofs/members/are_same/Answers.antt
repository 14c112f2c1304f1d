use Rattle.wf_eval.proofs.Equal.{same_decided}
use Rattle.wf_eval.proofs.members.are_same.Goals as goal

pub returns : goal.returns
returns c = same_decided c.same.result c.args.v.now c.args.w.now c.same.ensures
