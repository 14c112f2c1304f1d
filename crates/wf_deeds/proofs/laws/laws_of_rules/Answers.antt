use Rattle.wf_deeds.proofs.Quiet as quiet
use Rattle.wf_deeds.proofs.laws.laws_of_rules.Goals as goal

pub returns : goal.returns
returns c = record { only_readings = quiet.only_readings }
