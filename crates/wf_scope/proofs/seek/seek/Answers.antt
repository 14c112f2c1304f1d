use Rattle.std.proofs.Common.{◌≡◌, ◌+◌, ◌-◌, ◌/◌, ◌<◌, get_or, length, Less, Equal, Greater, sym, ap, ◌∙◌, arith}
use Rattle.wf_value.specs.Maps.{key_cmp}
use Rattle.wf_value.proofs.Searches.{all_before, all_behind, found, holds_at, missing}
use Rattle.wf_scope.proofs.seek.seek.Goals as goal

pub loop-low-preserved-in-Less : goal.loop-low-preserved-in-Less
loop-low-preserved-in-Less c =
    let ps = c.args.names.now in
    let k = c.args.name.now in
    let m = c.loop-low.low + (c.loop-low.high - c.loop-low.low) / 2 in
    let lt : m < length ps = omega (arith, c.loop-low.invariant.within) in
    let less : key_cmp (get_or ps m c.index-names-middle.result).0 k ≡ Less = ap (λ x. key_cmp x k) (sym c.as_str.ensures) ∙ sym c.key_order.ensures ∙ c.in-Less.is in
    record {
      before = all_before k ps m c.requires lt (holds_at k (λ p. key_cmp p.0 k ≡ Less) ps m c.index-names-middle.result lt less);
      behind = c.loop-low.invariant.behind;
      ordered = omega arith;
      within = c.loop-low.invariant.within;
    }

pub loop-low-preserved : goal.loop-low-preserved
loop-low-preserved c =
    let ps = c.args.names.now in
    let k = c.args.name.now in
    let m = c.loop-low.low + (c.loop-low.high - c.loop-low.low) / 2 in
    let lt : m < length ps = omega (arith, c.loop-low.invariant.within) in
    let greater : key_cmp (get_or ps m c.index-names-middle.result).0 k ≡ Greater = ap (λ x. key_cmp x k) (sym c.as_str.ensures) ∙ sym c.key_order.ensures ∙ c.in-Greater.is in
    record {
      before = c.loop-low.invariant.before;
      behind = all_behind k ps m c.requires lt (holds_at k (λ p. key_cmp p.0 k ≡ Greater) ps m c.index-names-middle.result lt greater);
      ordered = omega arith;
      within = omega (arith, c.loop-low.invariant.within);
    }

pub returns-in-Equal-clause-place : goal.returns-in-Equal-clause-place
returns-in-Equal-clause-place c =
    let ps = c.args.names.now in
    let k = c.args.name.now in
    let m = c.loop-low.low + (c.loop-low.high - c.loop-low.low) / 2 in
    let lt : m < length ps = omega (arith, c.loop-low.invariant.within) in
    let same : key_cmp (get_or ps m c.index-names-middle.result).0 k ≡ Equal = ap (λ x. key_cmp x k) (sym c.as_str.ensures) ∙ sym c.key_order.ensures ∙ c.in-Equal.is in
    sym (found k ps m c.requires lt (holds_at k (λ p. key_cmp p.0 k ≡ Equal) ps m c.index-names-middle.result lt same))

pub returns-clause-place : goal.returns-clause-place
returns-clause-place c =
    let ps = c.args.names.now in
    let low = c.loop-low.low in
    sym (missing c.args.name.now ps low (omega (arith, c.loop-low.invariant.within)) c.loop-low.invariant.before (λ j d here within. c.loop-low.invariant.behind j d (omega arith) within))
