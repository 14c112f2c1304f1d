use Rattle.wf_value.specs.Plain.{plain}
use Rattle.wf_lib_data.proofs.Places.{item_behind}
use Rattle.wf_lib_data.proofs.lists.behind.Goals as goal

pub loop-item-preserved : goal.loop-item-preserved
loop-item-preserved c =
    item_behind (plain c.args.first.now) c.loop-item.list c.push-in-loop-item.new.self c.args.items.now c.loop-item.item-index c.item-item.result c.in_ok-copy-2.field-0 c.loop-item-test.true c.item-item.is c.in_ok-copy-2.ensures c.in_ok-push-2.ensures c.loop-item.invariant
