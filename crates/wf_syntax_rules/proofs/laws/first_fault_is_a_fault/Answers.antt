use Rattle.wf_syntax_rules.proofs.Sound.{first_is_a_fault, node_is_sound}
use Rattle.wf_syntax_rules.proofs.laws.first_fault_is_a_fault.Goals as goal

pub returns-clause-first : goal.returns-clause-first
returns-clause-first c = first_is_a_fault

pub returns-clause-nodes : goal.returns-clause-nodes
returns-clause-nodes c = node_is_sound
