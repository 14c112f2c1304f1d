use Rattle.wf_tree.proofs.JsonCases.{case_of, apart, as_values}
use Rattle.wf_tree.proofs.json_laws.reading_is_decided.Goals as goal

pub returns-clause-one : goal.returns-clause-one
returns-clause-one c = case_of

pub returns-clause-apart : goal.returns-clause-apart
returns-clause-apart c = apart

pub returns-clause-as_values : goal.returns-clause-as_values
returns-clause-as_values c = as_values
