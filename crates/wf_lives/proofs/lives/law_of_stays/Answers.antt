use Rattle.wf_lives.proofs.LivesPrinted.{pairs_are_stays}
use Rattle.wf_lives.proofs.lives.law_of_stays.Goals as goal

pub returns : goal.returns
returns g c = pairs_are_stays (g.H.Host.world c.args.host.now)
