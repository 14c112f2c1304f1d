use Rattle.wf_syntax_rules.proofs.SmallBackoffs.{small_backoffs}
use Rattle.wf_syntax_rules.proofs.laws.small_backoffs.Goals as goal

pub returns : goal.returns
returns c = small_backoffs
