-- Each law by its lemma.
use Rattle.wf_model.proofs.Awaited as awaited
use Rattle.wf_model.proofs.Bounds as bounds
use Rattle.wf_model.proofs.Weights as weights
use Rattle.wf_model.proofs.laws.laws_of_counts.Goals as goal

pub returns-clause-events_are_counted : goal.returns-clause-events_are_counted
returns-clause-events_are_counted c = weights.events_are_counted awaited.steps_stay_sound

pub returns-clause-tasks_weigh_little : goal.returns-clause-tasks_weigh_little
returns-clause-tasks_weigh_little c = weights.tasks_weigh_little

pub returns-clause-taken_weighs_nothing : goal.returns-clause-taken_weighs_nothing
returns-clause-taken_weighs_nothing c = weights.taken_weighs_nothing

pub returns-clause-events_are_few : goal.returns-clause-events_are_few
returns-clause-events_are_few c = weights.events_are_few awaited.steps_stay_sound

pub returns-clause-runs_are_short : goal.returns-clause-runs_are_short
returns-clause-runs_are_short c = weights.runs_are_short awaited.steps_stay_sound awaited.sound_at_first bounds.runs_are_bounded
