use Rattle.std.proofs.Common.{◌++◌, append-nil, sym, ap, ◌∙◌}
use Rattle.wf_assigned.proofs.Ways.{one_edge_more}
use Rattle.wf_assigned.proofs.links.links_of.Goals as goal
use Rattle.wf_assigned.specs.Links.{links_of}
use Rattle.wf_lemmas.proofs.Lists.{drop_end, item_at}

pub loop-index-preserved : goal.loop-index-preserved
loop-index-preserved c =
    one_edge_more c.loop-index.links.items c.add_links.new.links.items _ c.args.count c.loop-index.index c.index-edges-index.result _ _
    (item_at c.args.edges.now c.loop-index.index c.index-edges-index.result c.loop-index-test.true c.index-edges-index.is) c.loop-index.invariant c.in_ok-add_links.ensures

pub returns : goal.returns
returns c =
    sym (append-nil c.loop-index.links.items)
    ∙ ap (λ z. c.loop-index.links.items ++ links_of c.args.count c.loop-index.index z) (sym (drop_end c.args.edges.now c.loop-index.index c.loop-index-test.false)) ∙ c.loop-index.invariant
