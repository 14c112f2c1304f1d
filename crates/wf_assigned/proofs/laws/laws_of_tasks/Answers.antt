-- By their lemmas.
use Rattle.wf_assigned.proofs.Seen as seen
use Rattle.wf_assigned.proofs.laws.laws_of_tasks.Goals as goal

pub returns-clause-seen : goal.returns-clause-seen
returns-clause-seen c = seen.sure_is_seen

pub returns-clause-moves : goal.returns-clause-moves
returns-clause-moves c = seen.moves_stand

pub returns-clause-waits : goal.returns-clause-waits
returns-clause-waits c = seen.waits_stand

pub returns-clause-flow : goal.returns-clause-flow
returns-clause-flow c = seen.flow_begins

pub returns-clause-branch : goal.returns-clause-branch
returns-clause-branch c = seen.branch_begins

pub returns-clause-turn : goal.returns-clause-turn
returns-clause-turn c = seen.turn_begins

pub returns-clause-outers : goal.returns-clause-outers
returns-clause-outers c = seen.outers_are_seen
