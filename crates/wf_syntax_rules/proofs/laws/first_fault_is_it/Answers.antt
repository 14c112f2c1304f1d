use Rattle.wf_syntax_rules.proofs.Finding.{first_fault_is_it}
use Rattle.wf_syntax_rules.proofs.laws.first_fault_is_it.Goals as goal

pub returns : goal.returns
returns c = first_fault_is_it
