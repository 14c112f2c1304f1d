use Rattle.std.proofs.Common.{◌+◌, ◌≡◌, ◌≤◌, ap, arith, take, ◌∙◌}
use Rattle.std.proofs.lemmas.Option.{get_or_from_slice_get}
use Rattle.wf_value.specs.Data.{pairs_of, pairs_size}
use Rattle.wf_scope.specs.Layers.{Layer}
use Rattle.wf_scope.specs.Views.{layer_view, views}
use Rattle.wf_scope.proofs.Lives.{live_below, live_read, spared_end, straight_behind, straight_fewer}
use Rattle.wf_scope.proofs.layers.Layers.end.Goals as goal

pub invariant_of-self-clause-numbered : goal.invariant_of-self-clause-numbered
invariant_of-self-clause-numbered c =
    let a = c.args.self.now in
    let xs = a.all.items in
    let i = c.args.place in
    let m = c.min-self.result in
    let less : m ≤ i = omega (arith, c.min-self.ensures) in
    let fewer : m ≤ a.straight = omega (arith, c.min-self.ensures) in
    straight_behind m 0 i xs c.clear.new.self less ∙ straight_fewer m a.straight 0 xs fewer a.numbered

pub invariant_of-self-clause-spared : goal.invariant_of-self-clause-spared
invariant_of-self-clause-spared c =
    let a = c.args.self.now in
    let i = c.args.place in
    let below = live_below a.count i a.all.items c.requires a.within in
    let last : a.count ≡ i + 1 = omega (arith, below, c.if-place-self.false) in
    spared_end a.count i a.all.items c.clear.new.self a.spared last (omega (arith, below, a.within)) c.clear.ensures

pub returns-clause-counted : goal.returns-clause-counted
returns-clause-counted c = λ l at.
    let a = c.args.self.now in
    let xs = a.all.items in
    let i = c.args.place in
    let here = c.index_mut-layer.result.now in
    let same : layer_view here ≡ l = live_read a.count i xs c.requires a.within here c.index_mut-layer.ensures.value ∙ get_or_from_slice_get (views (take a.count xs)) i l (layer_view here) at in
    here.sum ∙ ap (λ (y : Layer). pairs_size (pairs_of y.vars)) same
