use Rattle.std.proofs.Common.{◌<◌, List, Some, ap, arith, subst, sym, ◌∙◌}
use Rattle.std.specs.Prelude.{slice_index}
use Rattle.wf_value.proofs.Order.{in_order_with_value}
use Rattle.wf_value.specs.Data.{Data, pairs_of, pairs_size}
use Rattle.wf_value.specs.Maps.{IsInOrder}
use Rattle.wf_value.specs.Pairs.{Text}
use Rattle.wf_value.specs.Plain.{plain}
use Rattle.wf_scope.specs.Firsts.{Covers}
use Rattle.wf_scope.specs.Names.{bound_of}
use Rattle.wf_scope.specs.Views.{layer_view}
use Rattle.wf_scope.proofs.Hints.{cover_put}
use Rattle.wf_scope.proofs.Named.{bound_with, in_order_bound}
use Rattle.wf_scope.proofs.Totals.{put_size, variable_within}
use Rattle.wf_scope.proofs.layer.Layer.put.Goals as goal

pub overflow_sub-self : goal.overflow_sub-self
overflow_sub-self c =
    let l = c.args.self.now in
    omega (arith, c.requires.old, l.sum, variable_within c.args.name.now (bound_of l.vars.items))

pub invariant_of-self-2 : goal.invariant_of-self-2
invariant_of-self-2 c =
    let l = c.args.self.now in
    let es = l.vars.items in
    let k = c.args.name.now in
    let v = c.args.value in
    let now = c.in_ok-put_named.ensures in
    let size = ap (λ ps. pairs_size (pairs_of ps)) (ap bound_of now ∙ bound_with k v es l.order) in
    let within = variable_within k (bound_of es) in
    let there = subst (λ n. 0 < slice_index c.put.new.self.hints n) c.requires.class c.put.ensures.there in
    record {
      order = subst IsInOrder (sym now) (in_order_with_value k (Some v) es l.order);
      sum = omega (arith, size, put_size k (plain v) (bound_of es) (in_order_bound es l.order), within, c.requires.old, l.sum, c.requires.new);
      covering = subst (λ ns. Covers c.put.new.self.hints ns) (sym now) (cover_put l.firsts.hints c.put.new.self.hints c.put.ensures.others k (Some v) there es l.covering);
    }

pub returns : goal.returns
returns c =
    let l = c.args.self.now in
    let bound = ap bound_of c.in_ok-put_named.ensures ∙ bound_with c.args.name.now c.args.value l.vars.items l.order in
    ap (λ (ps : List (Text × Data)). record (layer_view l) { vars = ps }) bound
