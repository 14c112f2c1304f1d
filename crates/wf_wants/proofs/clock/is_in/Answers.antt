use Rattle.std.proofs.Common.{sym, ◌∙◌}
use Rattle.wf_wants.proofs.Timed.{told_nowhere, told_there}
use Rattle.wf_wants.proofs.clock.is_in.Goals as goal

pub returns-then-is_call : goal.returns-then-is_call
returns-then-is_call c =
    let items = c.items-i-items in
    told_there c.args.code.now items.result.now c.loop-i.i-index items.ensures.code.0 items.ensures.items items.ensures.code.1 c.loop-i.invariant c.i-item.result c.loop-i-test.true c.i-item.is (sym c.is_call.ensures ∙ c.if-is_call.true)

pub returns : goal.returns
returns c =
    let items = c.items-i-items in
    told_nowhere c.args.code.now items.result.now c.loop-i.i-index items.ensures.code.0 items.ensures.items items.ensures.code.1 c.loop-i.invariant c.loop-i-test.false
