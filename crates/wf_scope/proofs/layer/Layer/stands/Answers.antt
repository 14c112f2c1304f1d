use Rattle.std.proofs.Common.{List, ap, sym, ◌∙◌}
use Rattle.wf_value.specs.Data.{Data}
use Rattle.wf_value.specs.Pairs.{Text}
use Rattle.wf_scope.specs.Layers.{new_layer}
use Rattle.wf_scope.specs.Names.{bound_of}
use Rattle.wf_scope.proofs.Named.{none_counted}
use Rattle.wf_scope.proofs.layer.Layer.stands.Goals as goal

pub returns : goal.returns
returns c =
    let l = c.args.self.now in
    ap (λ (ps : List (Text × Data)). record (new_layer c.args.number c.args.outer c.args.depth) { vars = ps }) (none_counted (bound_of l.vars.items) (sym l.sum ∙ c.requires))
