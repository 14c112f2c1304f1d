use Rattle.wf_syntax_rules.proofs.OneFault.{one_fault}
use Rattle.wf_syntax_rules.proofs.laws.one_fault.Goals as goal

pub returns : goal.returns
returns c = one_fault
