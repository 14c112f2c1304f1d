use Rattle.std.proofs.Common.{Ok, Err, ap, sym, subst, ◌∙◌}
use Rattle.std.specs.Prelude.{is_some}
use Rattle.wf_lemmas.proofs.Results.{with_ok}
use Rattle.wf_ast.specs.Apply.{View}
use Rattle.wf_ast.specs.Flows.{flow}
use Rattle.wf_frames.specs.Frames.{body_result}
use Rattle.wf_frames.specs.Owned.{beside, control_of, held_by, local_of}
use Rattle.wf_moves.proofs.Raised.{raised, raised_left}
use Rattle.wf_value.specs.Errors.{error_map}
use Rattle.wf_eval.specs.Answers.{Gives}
use Rattle.wf_model.specs.Layers.{view}
use Rattle.wf_model.specs.Leave.{gives}
use Rattle.wf_moves.proofs.Answering.{function_failed, function_gave}
use Rattle.wf_moves.specs.Moved.{IsMove}
use Rattle.wf_model.specs.Spots.{part_body}
use Rattle.wf_model.specs.declared.node.NodeKind.TheVariants as kind
use Rattle.wf_frames.specs.Functions.{answer_of}
use Rattle.wf_frames.proofs.Parts.{as_part}
use Rattle.wf_frames.proofs.Performed.{with_both}
use Rattle.wf_frames.specs.Steps.{calls_by}
use Rattle.wf_value.specs.Data.{pairs_of}
use Rattle.wf_value.specs.Plain.{plain}
use Rattle.wf_moves.proofs.call.evaluates.Goals as goal

pub returns-in-Ok-clause-moved : goal.returns-in-Ok-clause-moved
returns-in-Ok-clause-moved g c =
    let f = c.requires.1.1 in
    let k = control_of g.around c.args.frames.now in
    let args = pairs_of c.args.args.now in
    let body = ap part_body (as_part g.around.spots c.args.nodes.now c.args.n f.1.node (kind.Call f.0) c.requires.0.resolves f.1.at f.1.is) in
    with_ok _ _ c.give.result
    (λ w h s d sees agrees.
    let l = beside d g.around c.args.frames.now c.args.scopes.now in
    let m = local_of g.around c.give.new.frames c.give.new.scopes in
    subst (λ b. IsMove s (calls_by s b args k l) w m) (sym body)
    (function_gave s f.0.result f.0.name args c.args.function.now k l w m (ap (λ fs. is_some (flow fs f.0.name)) agrees.2 ∙ f.2.free) f.2.named
    c.in-Ok.value (subst (λ (v : View). Gives (Ok c.in-Ok.value) (answer_of v c.args.function.now args)) (sym (c.seen-look.ensures s sees)) c.in-Ok.ensures)
    (subst (λ b. IsMove s (gives s (body_result b) (plain c.in-Ok.value) k l) w m) body (h s d agrees))))
    c.give.ensures.moved

pub returns-in-Err-clause-moved : goal.returns-in-Err-clause-moved
returns-in-Err-clause-moved g c =
    let f = c.requires.1.1 in
    let k = control_of g.around c.args.frames.now in
    let args = pairs_of c.args.args.now in
    let body = ap part_body (as_part g.around.spots c.args.nodes.now c.args.n f.1.node (kind.Call f.0) c.requires.0.resolves f.1.at f.1.is) in
    with_both _ _ c.fails.result
    (λ w h t s d sees agrees.
    let l = beside d g.around c.args.frames.now c.args.scopes.now in
    let m = local_of g.around c.args.frames.now c.args.scopes.now in
    subst (λ b. IsMove s (calls_by s b args k l) w m) (sym body)
    (function_failed s f.0.result f.0.name args c.args.function.now k l w m (ap (λ fs. is_some (flow fs f.0.name)) agrees.2 ∙ f.2.free) f.2.named
    t.0 (subst (λ r. Gives (Err r) (answer_of (view s l) c.args.function.now args)) t.1 (subst (λ (v : View). Gives (Err c.in-Err.raise) (answer_of v c.args.function.now args)) (sym (c.seen-look.ensures s sees)) c.in-Err.ensures)) (raised s k d (held_by g.around c.args.frames.now c.args.scopes.now) (error_map t.0) w (h t.0 t.1))))
    c.fails.ensures.raised c.fails.ensures.error

pub returns-in-Err-clause-left : goal.returns-in-Err-clause-left
returns-in-Err-clause-left g c = with_both _ _ c.fails.result (λ w h t. raised_left c.args.nodes.now c.args.frames.now (error_map t.0) w (h t.0 t.1)) c.fails.ensures.raised c.fails.ensures.error
