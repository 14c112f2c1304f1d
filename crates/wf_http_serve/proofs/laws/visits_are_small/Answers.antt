use Rattle.wf_http_serve.proofs.SmallVisits as small
use Rattle.wf_http_serve.proofs.laws.visits_are_small.Goals as goal

pub returns-clause-small : goal.returns-clause-small
returns-clause-small c = small.visits_are_small

pub returns-clause-lone : goal.returns-clause-lone
returns-clause-lone c = small.lone_values_are_small
