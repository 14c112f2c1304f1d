use Rattle.wf_deeds.proofs.Waits as waits
use Rattle.wf_deeds.proofs.waiting_laws.laws_of_waiting.Goals as goal

pub returns : goal.returns
returns c = record { idly = waits.sessions_wait_idly c.laws_of_counts.ensures.runs_are_short }
