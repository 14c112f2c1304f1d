use Rattle.wf_args.proofs.Spelled
use Rattle.wf_args.proofs.laws.lines_are_spelled.Goals as goal

pub returns : goal.returns
returns c = Spelled.lines_are_spelled
