use Rattle.wf_yaml_write.proofs.TextBack.{text_back, key_back, utf8_kept}
use Rattle.wf_yaml_write.proofs.laws.texts_come_back.Goals as goal

pub returns : goal.returns
returns c = record { texts = text_back; keys = key_back; utf8 = utf8_kept }
