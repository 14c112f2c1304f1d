-- Each law by its lemma.
use Rattle.wf_model.proofs.Bounds as bounds
use Rattle.wf_model.proofs.Calls as calls
use Rattle.wf_model.proofs.Requests as requests
use Rattle.wf_model.proofs.laws.laws_of_calls.Goals as goal

pub returns-clause-calls_go_on : goal.returns-clause-calls_go_on
returns-clause-calls_go_on c = calls.calls_go_on

pub returns-clause-answers_close : goal.returns-clause-answers_close
returns-clause-answers_close c = calls.answers_close

pub returns-clause-requests_are_asked : goal.returns-clause-requests_are_asked
returns-clause-requests_are_asked c = requests.requests_are_asked bounds.runs_are_bounded
