use Rattle.wf_host.proofs.Owned as owned
use Rattle.wf_host.proofs.laws.laws_of_hearing.Goals as goal

pub returns : goal.returns
returns c = record { heard_is_started = owned.heard_is_started }
