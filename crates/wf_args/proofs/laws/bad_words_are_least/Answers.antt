use Rattle.wf_args.proofs.Least.{least}
use Rattle.wf_args.proofs.laws.bad_words_are_least.Goals as goal

pub returns : goal.returns
returns c = least
