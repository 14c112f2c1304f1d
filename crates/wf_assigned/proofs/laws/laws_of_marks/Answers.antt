-- By their lemmas.
use Rattle.wf_assigned.proofs.Bridge as bridge
use Rattle.wf_assigned.proofs.Exact as exact
use Rattle.wf_assigned.proofs.laws.laws_of_marks.Goals as goal

pub returns-clause-exact : goal.returns-clause-exact
returns-clause-exact c = exact.marks_are_exact

pub returns-clause-bits : goal.returns-clause-bits
returns-clause-bits c = bridge.bits_are_marks
