use Rattle.std.proofs.Common.{ap, subst, sym}
use Rattle.wf_value.proofs.Order.{in_order_empty}
use Rattle.wf_value.specs.Data.{pairs_of, pairs_size}
use Rattle.wf_scope.specs.Firsts.{Covers}
use Rattle.wf_scope.specs.Names.{bound_of}
use Rattle.wf_scope.proofs.layer.Layer.fresh.Goals as goal

pub invariant_of-result : goal.invariant_of-result
invariant_of-result c =
    let none = c.in_ok-vars.ensures.items in
    record {
      order = in_order_empty c.in_ok-vars.vars.items none;
      sum = sym (ap (λ es. pairs_size (pairs_of (bound_of es))) none);
      covering = subst (λ es. Covers c.none.result.hints es) (sym none) tt;
    }
