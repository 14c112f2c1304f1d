use Rattle.std.proofs.Common.{ap, sym, ◌∙◌, subst}
use Rattle.wf_value.specs.Maps.{IsInOrder, place_of}
use Rattle.wf_value.proofs.Order.{in_order_plain}
use Rattle.wf_value.proofs.PairTrees.{plain_place}
use Rattle.wf_value.proofs.value.Map.place.Goals as goal

pub returns-clause-place : goal.returns-clause-place
returns-clause-place c =
    let k = c.args.key.now in
    let ps = c.self.inside.entries.value.pairs.items in
    c.seek.ensures.place ∙ ap (place_of k) (c.as_slice.ensures.value ∙ ap (λ e. e.pairs.items) c.deref.ensures) ∙ sym (plain_place k ps) ∙ ap (place_of k) c.self.view_is

pub returns-clause-order : goal.returns-clause-order
returns-clause-order c = subst IsInOrder c.self.view_is (in_order_plain c.self.inside.entries.value.pairs.items c.self.invariant.0)
