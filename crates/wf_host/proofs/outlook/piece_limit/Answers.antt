use Rattle.std.proofs.Common.{refl}
use Rattle.wf_host.specs.Ahead.{piece_limit}
use Rattle.wf_host.proofs.outlook.piece_limit.Goals as goal

pub returns : goal.returns
unfolding piece_limit
returns c = refl
