use Rattle.wf_syntax_rules.proofs.Programs.{one_program}
use Rattle.wf_syntax_rules.proofs.Sound.{not_both_built}
use Rattle.wf_syntax_rules.proofs.laws.one_program.Goals as goal

pub returns-clause-one : goal.returns-clause-one
returns-clause-one c = one_program c.one_template.ensures.one c.one_target.ensures.one

pub returns-clause-apart : goal.returns-clause-apart
returns-clause-apart c = not_both_built
