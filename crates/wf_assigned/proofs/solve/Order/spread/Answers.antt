-- By the lemma on a word that is raised.
use Rattle.std.proofs.Common.{arith, refl, sym, subst}
use Rattle.std.proofs.lemmas.Option.{slice_get_read}
use Rattle.wf_assigned.proofs.Ways.{link_at, raise_ways}
use Rattle.wf_assigned.proofs.solve.Order.spread.Goals as goal
use Rattle.wf_assigned.specs.Links.{AreWays}

pub loop-index-preserved : goal.loop-index-preserved
loop-index-preserved c = λ count a.
    let links = c.args.links.now in
    let written = c.args.written.now in
    let link = c.in-Some.link.now in
    subst (AreWays count links written) (sym c.raise_along.ensures)
    (raise_ways count links written link c.loop-index.words (λ i. omega (arith, c.type_inv.written i)) (link_at links _ link (slice_get_read links _ _ link refl c.in-Some.ensures.lookup.3.0 c.in-Some.ensures.lookup.1))
    (c.loop-index.invariant count a))
