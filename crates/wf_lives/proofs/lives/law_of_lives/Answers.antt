use Rattle.wf_lives.proofs.LivesKept as lives
use Rattle.wf_lives.proofs.LivesPrinted as printed
use Rattle.wf_lives.proofs.lives.law_of_lives.Goals as goal

pub returns-clause-files_stay_fit : goal.returns-clause-files_stay_fit
returns-clause-files_stay_fit c = lives.files_stay_fit

pub returns-clause-records_stay : goal.returns-clause-records_stay
returns-clause-records_stay c = lives.records_stay

pub returns-clause-one_line : goal.returns-clause-one_line
returns-clause-one_line c = lives.one_line c.laws_of_runs.ensures.front_is_a_run c.laws_of_runs.ensures.runs_agree c.laws_of_runs.ensures.nothing_follows_an_outcome c.laws_of_histories.ensures.computed

pub returns-clause-one_request : goal.returns-clause-one_request
returns-clause-one_request c = lives.one_request c.laws_of_runs.ensures.requests_stay c.laws_of_histories.ensures.computed

pub returns-clause-closed : goal.returns-clause-closed
returns-clause-closed c = lives.closed c.laws_of_runs.ensures.requests_stay c.laws_of_histories.ensures.computed

pub returns-clause-prints_by_a_cause : goal.returns-clause-prints_by_a_cause
returns-clause-prints_by_a_cause c = printed.prints_by_a_cause

pub returns-clause-prints_one_line : goal.returns-clause-prints_one_line
returns-clause-prints_one_line c =
    printed.prints_one_line (lives.one_line c.laws_of_runs.ensures.front_is_a_run c.laws_of_runs.ensures.runs_agree c.laws_of_runs.ensures.nothing_follows_an_outcome c.laws_of_histories.ensures.computed)
