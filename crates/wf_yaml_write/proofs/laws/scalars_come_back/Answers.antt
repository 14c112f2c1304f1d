use Rattle.wf_yaml_write.proofs.NumberBack.{number_back}
use Rattle.wf_yaml_write.proofs.DecimalBack.{decimal_back}
use Rattle.wf_yaml_write.proofs.WordsBack.{words_back}
use Rattle.wf_yaml_write.proofs.laws.scalars_come_back.Goals as goal

pub returns : goal.returns
returns c = record { numbers = number_back; decimals = decimal_back; words = words_back }
