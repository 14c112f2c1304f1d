use Rattle.wf_http_serve.proofs.AskedStay as asked
use Rattle.wf_http_serve.proofs.laws.asked_stays.Goals as goal

pub returns-clause-stays : goal.returns-clause-stays
returns-clause-stays c = asked.asked_stays

pub returns-clause-one : goal.returns-clause-one
returns-clause-one c = asked.fronts_ask_one
