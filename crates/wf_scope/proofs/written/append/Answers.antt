use Rattle.wf_scope.proofs.Writing.{item_more}
use Rattle.wf_scope.proofs.written.append.Goals as goal

pub loop-item-preserved : goal.loop-item-preserved
loop-item-preserved c =
    item_more c.args.list.now c.loop-item.list c.push.new.self c.args.items.now c.loop-item.item-index c.item-item.result c.in_ok-copy.field-0 c.loop-item-test.true c.item-item.is c.in_ok-copy.ensures c.in_ok-push.ensures c.loop-item.invariant
