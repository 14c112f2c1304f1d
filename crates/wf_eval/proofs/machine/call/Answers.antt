use Rattle.std.proofs.Common.{rules, ◌≡◌, ◌+◌, ◌<◌, [], length}
use Rattle.wf_eval.specs.Sight.{seen}
use Rattle.wf_eval.specs.Steps.{tops}
use Rattle.wf_eval.proofs.Arguments.{too_few_args, called}
use Rattle.wf_eval.proofs.machine.call.Goals as goal

pub returns-in_default : goal.returns-in_default
returns-in_default g c =
    let few : length c.args.stack.now.items < c.args.count = search rules in
    too_few_args (seen (g.K.Look.sight c.args.look.now) c.args.now) c.args.f c.args.count c.args.stack.now.items [] few

pub returns : goal.returns
returns g c =
    let count : c.in-Some.below + c.args.count ≡ length c.args.stack.now.items = search rules in
    called (seen (g.K.Look.sight c.args.look.now) c.args.now) c.args.f c.args.count c.in-Some.below c.args.stack.now.items c.split_off.new.self.items c.in_ok-args.args.items c.as_slice.result.now c.apply.result c.settle.result (tops c.settle.new.stack.items)
    count c.in_ok-args.ensures.items c.in_ok-args.ensures.tail c.as_slice.ensures.value c.apply.ensures c.settle.ensures
