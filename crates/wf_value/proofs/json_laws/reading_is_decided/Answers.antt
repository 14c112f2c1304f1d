use Rattle.wf_value.proofs.JsonCases.{case_of}
use Rattle.wf_value.proofs.json_laws.reading_is_decided.Goals as goal

pub returns-clause-one : goal.returns-clause-one
returns-clause-one c = case_of
