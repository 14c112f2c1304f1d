use Rattle.wf_value.proofs.Measured.{item_measured}
use Rattle.wf_value.proofs.items.push.Goals as goal

pub returns-clause-measure : goal.returns-clause-measure
returns-clause-measure c = item_measured c.args.items.now.measure c.of_value.result c.with_item-measure.result c.args.items.now.values.items c.push.new.self.items c.args.item c.requires c.of_value.ensures c.with_item-measure.ensures.size c.with_item-measure.ensures.depth c.in_ok-push.ensures.items
