use Rattle.std.proofs.Common.{◌≡◌, Some, None, sym, ap, subst, ◌∙◌}
use Rattle.std.specs.Prelude.{option_map}
use Rattle.wf_lemmas.proofs.Results.{with_ok}
use Rattle.wf_ast.specs.Flows.{flow}
use Rattle.wf_frames.specs.Bound.{bindings_of}
use Rattle.wf_frames.specs.Frames.{body_result}
use Rattle.wf_frames.specs.Owned.{beside, control_of, local_of}
use Rattle.wf_model.specs.Calls.{calls_with, given}
use Rattle.wf_moves.proofs.Calling.{begun, call_given, call_lacks, flow_param_list}
use Rattle.wf_moves.specs.Moved.{IsMove}
use Rattle.wf_moves.specs.Tasks.{flow_at}
use Rattle.wf_model.specs.Spots.{Part, part_at, part_body}
use Rattle.wf_model.specs.declared.node.NodeKind.TheVariants as kind
use Rattle.wf_frames.proofs.Parts.{as_part}
use Rattle.wf_frames.specs.Steps.{calls_by}
use Rattle.wf_value.specs.Data.{pairs_of}
use Rattle.wf_moves.proofs.call.call_flow.Goals as goal

pub params-requires : goal.params-requires
params-requires g c =
    let f = c.requires.1.1 in
    let t = begun g.around.flows g.around.spots c.args.nodes.now c.args.flow f.0.name c.requires.0.resolves f.2 in
    (c.requires.0, t.is)

pub begin-requires : goal.begin-requires
begin-requires g c =
    let f = c.requires.1.1 in
    let t = begun g.around.flows g.around.spots c.args.nodes.now c.args.flow f.0.name c.requires.0.resolves f.2 in
    (c.requires.0, (c.requires.1.0, ((f.0, f.1), t.is)))

pub returns-in-Some-clause-moved : goal.returns-in-Some-clause-moved
returns-in-Some-clause-moved g c =
    let f = c.requires.1.1 in
    let t = begun g.around.flows g.around.spots c.args.nodes.now c.args.flow f.0.name c.requires.0.resolves f.2 in
    let k = control_of g.around c.args.frames.now in
    let args = pairs_of c.args.args.now in
    let body = ap part_body (as_part g.around.spots c.args.nodes.now c.args.n f.1.node (kind.Call f.0) c.requires.0.resolves f.1.at f.1.is) in
    let params = c.params.ensures ∙ flow_param_list (part_at g.around.spots (c.args.flow)) t.workflow t.part in
    let values : given t.workflow.params args ≡ Some (bindings_of c.in-Some.bindings) = ap (λ ps. given ps args) (sym params) ∙ sym c.in_ok-bindings.ensures ∙ ap (option_map bindings_of) c.in-Some.is in
    with_ok _ _ c.begin.result
    (λ w h s d agrees.
    subst (λ b. IsMove s (calls_by s b args k (beside d g.around c.args.frames.now c.args.scopes.now)) w (local_of g.around c.begin.new.frames c.begin.new.scopes)) (sym body)
    (call_given s f.0.result f.0.name args t.workflow k (beside d g.around c.args.frames.now c.args.scopes.now) w (local_of g.around c.begin.new.frames c.begin.new.scopes) (ap (λ fs. flow fs f.0.name) agrees.2 ∙ t.named) (bindings_of c.in-Some.bindings) values
    (subst (λ (p : Part). IsMove s (calls_with s (flow_at p) f.0.result (Some (bindings_of c.in-Some.bindings)) k (beside d g.around c.args.frames.now c.args.scopes.now)) w (local_of g.around c.begin.new.frames c.begin.new.scopes)) t.part
    (subst (λ b. IsMove s (calls_with s (flow_at (part_at g.around.spots (c.args.flow))) (body_result b) (Some (bindings_of c.in-Some.bindings)) k (beside d g.around c.args.frames.now c.args.scopes.now)) w (local_of g.around c.begin.new.frames c.begin.new.scopes)) body (h s d agrees)))))
    c.begin.ensures.moved

pub returns-in-None-clause-moved : goal.returns-in-None-clause-moved
returns-in-None-clause-moved g c s d agrees =
    let f = c.requires.1.1 in
    let t = begun g.around.flows g.around.spots c.args.nodes.now c.args.flow f.0.name c.requires.0.resolves f.2 in
    let k = control_of g.around c.args.frames.now in
    let l = beside d g.around c.args.frames.now c.args.scopes.now in
    let args = pairs_of c.args.args.now in
    let body = ap part_body (as_part g.around.spots c.args.nodes.now c.args.n f.1.node (kind.Call f.0) c.requires.0.resolves f.1.at f.1.is) in
    let params = c.params.ensures ∙ flow_param_list (part_at g.around.spots (c.args.flow)) t.workflow t.part in
    let values : given t.workflow.params args ≡ None = ap (λ ps. given ps args) (sym params) ∙ sym c.in_ok-bindings.ensures ∙ ap (option_map bindings_of) c.in-None.is in
    subst (λ b. IsMove s (calls_by s b args k l) c.goes.result (local_of g.around c.goes.new.frames c.goes.new.scopes)) (sym body)
    (call_lacks s f.0.result f.0.name args t.workflow k l c.goes.result (local_of g.around c.goes.new.frames c.goes.new.scopes) (ap (λ fs. flow fs f.0.name) agrees.2 ∙ t.named) values)
