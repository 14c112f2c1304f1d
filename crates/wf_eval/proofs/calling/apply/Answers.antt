use Rattle.std.proofs.Common.{arith}
use Rattle.wf_eval.specs.Sight.{seen}
use Rattle.wf_eval.proofs.Library.{too_many}
use Rattle.wf_eval.proofs.calling.apply.Goals as goal

pub returns-in-len4-up : goal.returns-in-len4-up
returns-in-len4-up g c = too_many (seen (g.K.Look.sight c.args.look.now) c.args.now) c.args.f c.args.args.now (omega (arith, c.in-len4-up.len_at_least))
