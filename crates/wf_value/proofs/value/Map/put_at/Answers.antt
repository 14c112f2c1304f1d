use Rattle.std.proofs.Common.{ap, sym, ◌∙◌}
use Rattle.std.specs.Result.{is_ok}
use Rattle.wf_value.specs.Maps.{place_of, with_value}
use Rattle.wf_value.specs.Plain.{plain}
use Rattle.wf_value.proofs.Order.{in_order_kept, in_order_with_value}
use Rattle.wf_value.proofs.PairTrees.{plain_kept, plain_old, plain_place, plain_with_value}
use Rattle.wf_value.proofs.value.Map.put_at.Goals as goal

pub put_pair-requires-clause-place : goal.put_pair-requires-clause-place
put_pair-requires-clause-place c = c.requires ∙ ap (place_of c.args.key.now) (sym c.self.view_is) ∙ plain_place c.args.key.now c.self.inside.entries.value.pairs.items

pub invariant_of-self : goal.invariant_of-self
invariant_of-self c = (in_order_kept (is_ok c.put_pair.result) _ _ _ c.put_pair.ensures.after c.self.invariant.0 (in_order_with_value c.args.key.now c.args.value _ c.self.invariant.0), c.put_pair.ensures.measure)

pub returns-clause-after : goal.returns-clause-after
returns-clause-after c =
    let ps = c.self.inside.entries.value.pairs.items in
    plain_kept (is_ok c.put_pair.result) ps _ _ _ _ c.put_pair.ensures.after c.self.view_is (plain_with_value c.args.key.now c.args.value ps ∙ ap (λ ds. with_value c.args.key.now (plain c.args.value) ds) c.self.view_is)

pub returns-clause-old : goal.returns-clause-old
returns-clause-old c = plain_old c.put_pair.result c.args.key.now c.self.inside.entries.value.pairs.items c.args.self.now c.put_pair.ensures.old c.self.view_is
