-- Each agreement by its lemma.
use Rattle.wf_fits.proofs.Tested as waits
use Rattle.wf_fits.proofs.TestedParts as law
use Rattle.wf_fits.proofs.tests_agree.Goals as goal

pub returns-clause-tasks : goal.returns-clause-tasks
returns-clause-tasks c = law.tasks_tested

pub returns-clause-waits : goal.returns-clause-waits
returns-clause-waits c = waits.waits_tested

pub returns-clause-limits : goal.returns-clause-limits
returns-clause-limits c = law.limits_tested
