use Rattle.std.proofs.Common.{◌∷◌, List, ℕ, Some, true, refl, sym, ap, subst, ◌∙◌, arith}
use Rattle.std.specs.Prelude.{Option}
use Rattle.wf_lemmas.proofs.Results.{with_ok}
use Rattle.wf_frames.specs.Bound.{bindings_of}
use Rattle.wf_frames.specs.Frames.{body_result, control, inner, own}
use Rattle.wf_frames.specs.Held.{standing}
use Rattle.wf_frames.specs.Owned.{IsLinked, control_of, held_by, held_of, local_of, own_of}
use Rattle.wf_frames.specs.Turns.{Enters, with_own}
use Rattle.wf_frames.specs.declared.frames.Frame.TheVariants as frame
use Rattle.wf_model.specs.Local.{goes}
use Rattle.wf_moves.proofs.Calling.{call_deep, call_entered, call_fits, call_owned, call_refused, flow_part_at, flow_steps}
use Rattle.wf_moves.proofs.Raised.{raised, raised_left}
use Rattle.wf_moves.specs.Moved.{IsMove}
use Rattle.wf_moves.specs.Tasks.{flow_at}
use Rattle.wf_model.specs.Spots.{part_at, part_body}
use Rattle.wf_scope.specs.Store.{layers_of}
use Rattle.wf_frames.specs.Tasks.{Own}
use Rattle.wf_value.specs.Errors.{error_map}
use Rattle.wf_value.specs.declared.Tag.TheVariants.{RecursionError, ResourceLimitError}
use Rattle.wf_moves.proofs.call.begin.Goals as goal

pub returns-then-calls-ge-CALL_LIMIT-clause-moved : goal.returns-then-calls-ge-CALL_LIMIT-clause-moved
returns-then-calls-ge-CALL_LIMIT-clause-moved g c =
    with_ok _ _ c.raises_tag.result
    (λ w m s d agrees. call_deep g.around.spots s (flow_at (part_at g.around.spots c.args.flow)) (body_result (part_body (part_at g.around.spots c.args.n))) (bindings_of c.args.bindings) (inner c.args.frames.now) d (held_by g.around c.args.frames.now c.args.scopes.now)
    w (local_of g.around c.args.frames.now c.args.scopes.now) (omega (arith, c.if-calls-ge-CALL_LIMIT.true, c.calls.ensures)) (raised s (control_of g.around c.args.frames.now) d (held_by g.around c.args.frames.now c.args.scopes.now) (error_map RecursionError) w m))
    c.raises_tag.ensures

pub returns-in-None-clause-moved : goal.returns-in-None-clause-moved
returns-in-None-clause-moved g c =
    with_ok _ _ c.raises_tag-in-None.result
    (λ w m s d agrees. call_refused g.around.spots s (flow_at (part_at g.around.spots c.args.flow)) (body_result (part_body (part_at g.around.spots c.args.n))) (bindings_of c.args.bindings) (inner c.args.frames.now) d (held_by g.around c.args.frames.now c.args.scopes.now)
    (held_by g.around c.args.frames.now c.enter_call.new.scopes) w (local_of g.around c.args.frames.now c.enter_call.new.scopes) (omega (arith, c.if-calls-ge-CALL_LIMIT.false, c.calls.ensures))
    (subst (λ (o : Option ℕ). Enters true s o (held_by g.around c.args.frames.now c.args.scopes.now) (bindings_of c.args.bindings) (held_of g.around.keys (with_own true o (own_of c.args.frames.now)) (layers_of c.enter_call.new.scopes))) c.in-None.is (c.in_ok-layer.ensures.entered s agrees))
    (raised s (control_of g.around c.args.frames.now) d (held_by g.around c.args.frames.now c.enter_call.new.scopes) (error_map ResourceLimitError) w m))
    c.raises_tag-in-None.ensures

pub goes-requires : goal.goes-requires
goes-requires g c =
    let layer = c.in-Some.layer in
    let fs = inner c.args.frames.now in
    let owned_is = call_owned c.args.frames.now.first c.push-in-Some.new.self.first c.args.flow layer (Some c.args.n) fs (inner c.push.new.self) (inner c.push-in-Some.new.self) c.in_ok-push-in-Some.ensures.pushed c.in_ok-push-in-Some-2.ensures.pushed (c.in_ok-push-in-Some-2.ensures.first ∙ c.in_ok-push-in-Some.ensures.first) in
    let call = c.requires.1.1.0 in (
      c.requires.0,
      record {
        fits = call_fits g.around.spots c.args.nodes.now c.args.n c.args.flow layer call.0 fs (inner c.push.new.self) (inner c.push-in-Some.new.self) call.1 c.requires.1.1.1 c.in_ok-push-in-Some.ensures.pushed c.in_ok-push-in-Some-2.ensures.pushed c.requires.1.0.fits;
        linked = subst (λ (os : List Own). IsLinked g.around os c.enter_call.new.scopes) (sym owned_is)
            (subst (λ (o : Option ℕ). IsLinked g.around (with_own true o (own_of c.args.frames.now)) c.enter_call.new.scopes) c.in-Some.is c.in_ok-layer.ensures.linked);
      },
    )

pub returns-in_ok-push-in-Some-2-clause-moved : goal.returns-in_ok-push-in-Some-2-clause-moved
returns-in_ok-push-in-Some-2-clause-moved g c s d agrees =
    let layer = c.in-Some.layer in
    let fs = inner c.args.frames.now in
    let new = inner c.push-in-Some.new.self in
    let owned_is = call_owned c.args.frames.now.first c.push-in-Some.new.self.first c.args.flow layer (Some c.args.n) fs (inner c.push.new.self) (inner c.push-in-Some.new.self) c.in_ok-push-in-Some.ensures.pushed c.in_ok-push-in-Some-2.ensures.pushed (c.in_ok-push-in-Some-2.ensures.first ∙ c.in_ok-push-in-Some.ensures.first) in
    let part = flow_part_at g.around.spots c.args.nodes.now c.args.flow c.requires.0.resolves c.requires.1.1.1 in
    call_entered g.around.spots s (flow_at (part_at g.around.spots c.args.flow)) (body_result (part_body (part_at g.around.spots c.args.n))) (bindings_of c.args.bindings) fs d (held_by g.around c.args.frames.now c.args.scopes.now)
    c.args.n c.args.flow layer (held_of g.around.keys (own layer true ∷ own_of c.args.frames.now) (layers_of c.enter_call.new.scopes)) c.goes.result (local_of g.around c.goes.new.frames c.goes.new.scopes) new
    (omega (arith, c.if-calls-ge-CALL_LIMIT.false, c.calls.ensures))
    (subst (λ (o : Option ℕ). Enters true s o (held_by g.around c.args.frames.now c.args.scopes.now) (bindings_of c.args.bindings) (held_of g.around.keys (with_own true o (own_of c.args.frames.now)) (layers_of c.enter_call.new.scopes))) c.in-Some.is (c.in_ok-layer.ensures.entered s agrees))
    (flow_steps (part_at g.around.spots c.args.flow) part.0 part.1) refl
    (c.in_ok-push-in-Some-2.ensures.pushed ∙ ap (λ gs. frame.Do c.args.flow 0 ∷ gs) c.in_ok-push-in-Some.ensures.pushed)
    (subst (λ (os : List Own). IsMove s (goes (control g.around.spots new) (standing d (held_of g.around.keys os (layers_of c.enter_call.new.scopes)))) c.goes.result (local_of g.around c.goes.new.frames c.goes.new.scopes)) owned_is (c.goes.ensures.moved s d))

pub returns-then-calls-ge-CALL_LIMIT-clause-left : goal.returns-then-calls-ge-CALL_LIMIT-clause-left
returns-then-calls-ge-CALL_LIMIT-clause-left g c = with_ok _ _ c.raises_tag.result (λ w p. raised_left c.args.nodes.now c.args.frames.now (error_map RecursionError) w p) c.raises_tag.ensures

pub returns-in-None-clause-left : goal.returns-in-None-clause-left
returns-in-None-clause-left g c = with_ok _ _ c.raises_tag-in-None.result (λ w p. raised_left c.args.nodes.now c.args.frames.now (error_map ResourceLimitError) w p) c.raises_tag-in-None.ensures
