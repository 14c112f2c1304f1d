-- Each law by its lemma.
use Rattle.wf_model.proofs.Awaited as awaited
use Rattle.wf_model.proofs.Enabled as enabled
use Rattle.wf_model.proofs.laws.laws_of_waits.Goals as goal

pub returns-clause-calls_are_awaited : goal.returns-clause-calls_are_awaited
returns-clause-calls_are_awaited c = awaited.calls_are_awaited

pub returns-clause-root_lives : goal.returns-clause-root_lives
returns-clause-root_lives c = awaited.root_lives

pub returns-clause-waiting_has_a_due : goal.returns-clause-waiting_has_a_due
returns-clause-waiting_has_a_due c = awaited.waiting_has_a_due

pub returns-clause-answers_lead : goal.returns-clause-answers_lead
returns-clause-answers_lead c = enabled.answers_lead

pub returns-clause-sound_at_first : goal.returns-clause-sound_at_first
returns-clause-sound_at_first c = awaited.sound_at_first

pub returns-clause-steps_stay_sound : goal.returns-clause-steps_stay_sound
returns-clause-steps_stay_sound c = awaited.steps_stay_sound

pub returns-clause-sound_is_awaited : goal.returns-clause-sound_is_awaited
returns-clause-sound_is_awaited c = awaited.sound_is_awaited

pub returns-clause-quiet_has_a_due : goal.returns-clause-quiet_has_a_due
returns-clause-quiet_has_a_due c = awaited.quiet_has_a_due
