use Rattle.wf_assigned.proofs.Ways.{one_link_more}
use Rattle.wf_assigned.proofs.links.add_links.Goals as goal

pub loop-number-preserved : goal.loop-number-preserved
loop-number-preserved c = one_link_more _ _ _ c.args.count c.args.index c.args.edge.now c.loop-number.number c.in_ok-link.link c.loop-number.invariant c.in_ok-link.ensures c.in_ok-add.ensures
