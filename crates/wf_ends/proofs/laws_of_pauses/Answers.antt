use Rattle.wf_ends.proofs.Pauses as pauses
use Rattle.wf_ends.proofs.laws_of_pauses.Goals as goal

pub returns : goal.returns
returns c = record { idly = pauses.pauses_are_idle c.laws_of_histories.ensures.computed c.laws_of_waiting.ensures.idly }
