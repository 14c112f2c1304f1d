use Rattle.std.proofs.Common.{ap, subst, sym, ◌∙◌}
use Rattle.std.specs.List.Sorted.{IsStrictlySortedBy}
use Rattle.std.specs.Map.{keys_of}
use Rattle.wf_value.specs.Data.{pairs_of, pairs_size}
use Rattle.wf_value.specs.Maps.{key_cmp}
use Rattle.wf_scope.specs.Firsts.{Covers}
use Rattle.wf_scope.specs.Names.{bound_of}
use Rattle.wf_scope.proofs.Named.{cover_unbound, keys_unbound, none_bound}
use Rattle.wf_scope.proofs.layer.Layer.clear.Goals as goal

pub invariant_of-self : goal.invariant_of-self
invariant_of-self c =
    let l = c.args.self.now in
    let es = l.vars.items in
    let now = c.clear_names.ensures in
    record {
      order = subst (λ ks. IsStrictlySortedBy key_cmp ks) (sym (ap keys_of now ∙ keys_unbound es)) l.order;
      sum = sym (ap (λ ns. pairs_size (pairs_of (bound_of ns))) now ∙ ap (λ ps. pairs_size (pairs_of ps)) (none_bound es));
      covering = subst (λ ns. Covers l.firsts.hints ns) (sym now) (cover_unbound l.firsts.hints es l.covering);
    }
