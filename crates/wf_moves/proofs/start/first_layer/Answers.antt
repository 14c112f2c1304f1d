use Rattle.std.proofs.Common.{map, ap, ◌∙◌, None}
use Rattle.wf_ast.specs.View.{param_view}
use Rattle.wf_moves.proofs.Starting.{first_begun, first_linked}
use Rattle.wf_moves.specs.Tasks.{argued}
use Rattle.wf_scope.specs.Layers.{fresh, opened}
use Rattle.wf_value.specs.Plain.{plain}
use Rattle.wf_moves.proofs.start.first_layer.Goals as goal

pub returns-clause-begins : goal.returns-clause-begins
returns-clause-begins g c =
    let n = c.in_ok-layer.layer.number in
    let ps = map param_view c.args.params.now in
    let v = plain c.args.argument in
    first_begun g.around c.args.scopes.now c.bind_argument.new.scopes n ps v c.requires (c.in_ok-layer.ensures.number ∙ ap fresh c.requires.empty)
    (c.in_ok-bind_argument.ensures.bound ∙ ap (argued n ps v) (c.in_ok-layer.ensures.opened ∙ ap (opened None 0) c.requires.empty))

pub returns-clause-linked : goal.returns-clause-linked
returns-clause-linked g c =
    let n = c.in_ok-layer.layer.number in
    let ps = map param_view c.args.params.now in
    let v = plain c.args.argument in
    first_linked g.around c.args.scopes.now c.bind_argument.new.scopes n ps v c.requires (c.in_ok-layer.ensures.number ∙ ap fresh c.requires.empty)
    (c.in_ok-bind_argument.ensures.bound ∙ ap (argued n ps v) (c.in_ok-layer.ensures.opened ∙ ap (opened None 0) c.requires.empty)) (c.in_ok-bind_argument.ensures.limit ∙ c.in_ok-layer.ensures.limit)
