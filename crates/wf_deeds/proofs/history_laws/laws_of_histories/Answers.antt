use Rattle.wf_deeds.proofs.Complete as complete
use Rattle.wf_deeds.proofs.Computed as computed
use Rattle.wf_deeds.proofs.FirstFormat as first_format
use Rattle.wf_deeds.proofs.Histories as histories
use Rattle.wf_deeds.proofs.Playing as playing
use Rattle.wf_deeds.proofs.history_laws.laws_of_histories.Goals as goal

pub returns-clause-computed : goal.returns-clause-computed
returns-clause-computed c = computed.computed c.laws_of_runs.ensures.runs_join

pub returns-clause-complete : goal.returns-clause-complete
returns-clause-complete c = complete.complete c.laws_of_runs.ensures.runs_join

pub returns-clause-least : goal.returns-clause-least
returns-clause-least c = histories.least

pub returns-clause-record_goes_on : goal.returns-clause-record_goes_on
returns-clause-record_goes_on c = histories.record_goes_on

pub returns-clause-front : goal.returns-clause-front
returns-clause-front c = histories.front

pub returns-clause-records_go_on : goal.returns-clause-records_go_on
returns-clause-records_go_on c = histories.records_go_on

pub returns-clause-start : goal.returns-clause-start
returns-clause-start c = histories.start_is_a_history

pub returns-clause-opens : goal.returns-clause-opens
returns-clause-opens c = histories.history_opens

pub returns-clause-plays : goal.returns-clause-plays
returns-clause-plays c = playing.history_plays

pub returns-clause-played : goal.returns-clause-played
returns-clause-played c = playing.played_is_history

pub returns-clause-first_format : goal.returns-clause-first_format
returns-clause-first_format c = first_format.first_format_stays
