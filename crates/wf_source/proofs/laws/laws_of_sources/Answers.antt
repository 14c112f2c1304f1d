use Rattle.wf_source.proofs.Programs as programs
use Rattle.wf_source.proofs.laws.laws_of_sources.Goals as goal

pub returns-clause-one_program : goal.returns-clause-one_program
returns-clause-one_program c = programs.one_program c.one_program.ensures.one

pub returns-clause-one_refusal : goal.returns-clause-one_refusal
returns-clause-one_refusal c = programs.one_refusal c.one_program.ensures.one c.one_fault.ensures c.one_program.ensures.apart

pub returns-clause-not_both : goal.returns-clause-not_both
returns-clause-not_both c = programs.not_both c.one_program.ensures.one c.one_program.ensures.apart

pub returns-clause-short : goal.returns-clause-short
returns-clause-short c = programs.short
