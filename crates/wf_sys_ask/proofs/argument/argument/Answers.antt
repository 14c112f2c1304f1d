use Rattle.std.proofs.Common.{ap, sym, ◌∙◌}
use Rattle.wf_sys_ask.proofs.Answered.{pairs_listed}
use Rattle.wf_value.specs.Maps.{value_at}
use Rattle.wf_sys_ask.proofs.argument.argument.Goals as goal

pub returns : goal.returns
returns c = c.get.ensures.value ∙ sym (ap (value_at c.args.name.now) (pairs_listed c.args.args.now))
