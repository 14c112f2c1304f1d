use Rattle.std.proofs.Common.{[], ◌∷◌, codes, map, sym, ap, ◌∙◌}
use Rattle.wf_ast.specs.Accept.{params_many}
use Rattle.wf_ast.specs.Blocks.{at_if, first}
use Rattle.wf_ast.specs.Nodes.{below}
use Rattle.wf_ast.specs.View.{param_view, params_view}
use Rattle.wf_check_scopes.proofs.Most.{path_alone}
use Rattle.wf_diagnostics.proofs.Told.{no_fault, tells_as, tells_keyed}
use Rattle.wf_check_scopes.proofs.limits.many_in_flow.Goals as goal
use Rattle.wf_diagnostics.specs.Said.{as_said}
use Rattle.wf_diagnostics.specs.declared.kind.CheckKind.TheVariants as kinds

pub returns : goal.returns
returns c =
    let f = c.args.flow.now in
    let xs = c.items-params.result.now in
    tells_as c.keyed.result _ _
    (λ path. ap (as_said kinds.TooMany) (
    path_alone (params_many (map param_view xs) (below path (codes "params")) 0)
    ∙ ap (λ l. first (params_many l (below path (codes "params")) 0 ∷ [])) c.items-params.ensures.view
    ∙ sym (λ i. first (
    (ap (λ b. at_if b path) (sym c.is_long.ensures) ∙ no_fault kinds.TooMany (at_if c.is_long.result path) (c.in-Ok.ensures path)) i
    ∷ (ap (λ b. at_if b (below path (codes "params"))) (sym c.has_too_many.ensures) ∙ no_fault kinds.TooMany (at_if c.has_too_many.result (below path (codes "params"))) (c.in-Ok-speak_at.ensures path)) i
    ∷ params_many (params_view f.params) (below path (codes "params")) 0 ∷ []))))
    (tells_keyed (codes "params") c.many_params-found.result c.keyed.result (λ path. as_said kinds.TooMany (params_many (map param_view xs) path 0)) c.keyed.ensures c.many_params-found.ensures)
