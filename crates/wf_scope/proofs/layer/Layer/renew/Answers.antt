use Rattle.std.proofs.Common.{FitsSigned, rules, sym, w64, ◌∙◌}
use Rattle.std.proofs.lemmas.Int.{to_z-of_z}
use Rattle.wf_value.specs.Data.{integer}
use Rattle.wf_scope.specs.Views.{layer_view}
use Rattle.wf_scope.proofs.Renewed.{renewed, renewed_view}
use Rattle.wf_scope.proofs.layer.Layer.renew.Goals as goal

pub invariant_of-self : goal.invariant_of-self
invariant_of-self c =
    let l = c.args.self.now in
    let fits : FitsSigned w64 c.args.n = search rules in
    let after = simp to_z-of_z at c.put_whole.ensures.after in
    let e = renewed c.put_whole.result l.firsts.hints c.args.name.now c.args.n l.vars.items c.put_whole.new.names.items l.order l.covering after c.put_whole.ensures.whole in
    record {
      order = e.order;
      sum = l.sum ∙ sym e.size;
      covering = e.covering;
    }

pub returns-clause-after : goal.returns-clause-after
returns-clause-after c =
    let l = c.args.self.now in
    let fits : FitsSigned w64 c.args.n = search rules in
    let after = simp to_z-of_z at c.put_whole.ensures.after in
    let e = renewed c.put_whole.result l.firsts.hints c.args.name.now c.args.n l.vars.items c.put_whole.new.names.items l.order l.covering after c.put_whole.ensures.whole in
    renewed_view c.put_whole.result (layer_view l) c.args.name.now (integer c.args.n) _ e.now
