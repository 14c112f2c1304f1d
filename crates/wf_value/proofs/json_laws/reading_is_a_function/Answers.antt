use Rattle.wf_value.proofs.JsonCases.{value_found, found_value}
use Rattle.wf_value.proofs.json_laws.reading_is_a_function.Goals as goal

pub returns : goal.returns
returns c = λ b d. (value_found b d, found_value b d)
