use Rattle.std.proofs.Common.{◌≡◌, ◌∷◌, [], ℕ, List, Some, inl, None, refl, true, sym, ap, subst, ◌∙◌}
use Rattle.std.specs.Prelude.{Option}
use Rattle.wf_ast.specs.View.{param_view}
use Rattle.wf_frames.specs.Bound.{bindings_of}
use Rattle.wf_frames.specs.Frames.{control, inner, own}
use Rattle.wf_frames.specs.Held.{standing}
use Rattle.wf_frames.specs.Owned.{IsLinked, control_of, held_by, held_of, local_of, own_of}
use Rattle.wf_frames.specs.Turns.{Enters, with_own}
use Rattle.wf_frames.specs.declared.frames.Frame.TheVariants as frame
use Rattle.wf_frames.specs.declared.frames.Judging.{Judging}
use Rattle.wf_model.specs.Local.{goes}
use Rattle.wf_model.specs.Unwind.{unwind}
use Rattle.wf_moves.proofs.Calling.{begun}
use Rattle.wf_moves.proofs.Retrying.{ask_fits, ask_owned, asked_entered, asked_refused, params_are}
use Rattle.wf_moves.specs.Retries.{IsLed}
use Rattle.wf_model.specs.Spots.{part_list}
use Rattle.wf_scope.specs.Store.{layers_of}
use Rattle.wf_frames.specs.Tasks.{Own}
use Rattle.wf_value.specs.Data.{Data}
use Rattle.wf_value.specs.Pairs.{Text}
use Rattle.wf_value.specs.Plain.{plain}
use Rattle.wf_moves.proofs.judging.question.Goals as goal

pub returns-in_ok-map_of-in-None-clause-moved : goal.returns-in_ok-map_of-in-None-clause-moved
returns-in_ok-map_of-in-None-clause-moved g c last s d same agrees =
    let f = c.requires.1.0 in
    let b = begun g.around.flows g.around.spots c.args.nodes.now c.args.flow f.0 c.requires.0.resolves f.2 in
    let one = params_are g.around.spots c.args.flow b.workflow (param_view c.args.param.now ∷ []) b.part (sym c.requires.1.1.1.1.1.0) in
    let h = held_by g.around c.args.frames.now c.args.scopes.now in
    let m = held_by g.around c.args.frames.now c.enter_call.new.scopes in
    let entered = subst (λ (o : Option ℕ). Enters true s o h (bindings_of c.in_ok-bindings.bindings) (held_of g.around.keys (with_own true o (own_of c.args.frames.now)) (layers_of c.enter_call.new.scopes))) c.in-None.is (c.in_ok-layer.ensures.entered s agrees) in
    inl (asked_refused g.around c.args.tried (plain c.args.error) c.requires.1.0.0 c.requires.1.0.1 s agrees b.workflow b.named (param_view c.args.param.now) one (inner c.args.frames.now) d h m c.requires.1.1.1.1.1.1
    (subst (λ (xs : List (Text × Data)). Enters true s None h xs m) c.in_ok-bindings.ensures entered)
    ∙ ap (λ (v : Data). unwind s (control_of g.around c.args.frames.now) (standing d m) v) (sym c.in_ok-map_of-in-None.ensures.error))

pub lead_on-requires : goal.lead_on-requires
lead_on-requires g c =
    let f = c.requires.1.0 in
    let b = begun g.around.flows g.around.spots c.args.nodes.now c.args.flow f.0 c.requires.0.resolves f.2 in
    let layer = c.in-Some.layer in
    let fs = inner c.args.frames.now in
    let layer_is : c.in_ok-boxed-in-Some.field-0.value.layer ≡ layer = ap (λ (x : Judging). x.layer) c.in_ok-boxed-in-Some.ensures in
    let owned_is = ask_owned c.args.frames.now.first c.push-in-Some.new.self.first c.args.flow layer c.in_ok-boxed-in-Some.field-0 fs (inner c.push.new.self) (inner c.push-in-Some.new.self) layer_is c.in_ok-push-in-Some.ensures.pushed c.in_ok-push-in-Some-2.ensures.pushed (c.in_ok-push-in-Some-2.ensures.first ∙ c.in_ok-push-in-Some.ensures.first) in (
      c.requires.0,
      record {
        fits = ask_fits g.around.spots c.args.nodes.now c.args.tried c.in_ok-boxed-in-Some.field-0 c.args.flow layer c.args.error fs (inner c.push.new.self) (inner c.push-in-Some.new.self) c.requires.1.1.1.0 c.requires.1.1.1.1.0 b.is c.in_ok-boxed-in-Some.ensures c.in_ok-push-in-Some.ensures.pushed c.in_ok-push-in-Some-2.ensures.pushed c.requires.1.1.0.fits;
        linked = subst (λ (os : List Own). IsLinked g.around os c.enter_call.new.scopes) (sym owned_is)
            (subst (λ (o : Option ℕ). IsLinked g.around (with_own true o (own_of c.args.frames.now)) c.enter_call.new.scopes) c.in-Some.is c.in_ok-layer.ensures.linked);
      },
    )

pub returns-in_ok-push-in-Some-2-clause-moved : goal.returns-in_ok-push-in-Some-2-clause-moved
returns-in_ok-push-in-Some-2-clause-moved g c last s d same agrees =
    let f = c.requires.1.0 in
    let b = begun g.around.flows g.around.spots c.args.nodes.now c.args.flow f.0 c.requires.0.resolves f.2 in
    let one = params_are g.around.spots c.args.flow b.workflow (param_view c.args.param.now ∷ []) b.part (sym c.requires.1.1.1.1.1.0) in
    let layer = c.in-Some.layer in
    let fs = inner c.args.frames.now in
    let new = inner c.push-in-Some.new.self in
    let h = held_by g.around c.args.frames.now c.args.scopes.now in
    let m = held_of g.around.keys (own layer true ∷ own_of c.args.frames.now) (layers_of c.enter_call.new.scopes) in
    let layer_is : c.in_ok-boxed-in-Some.field-0.value.layer ≡ layer = ap (λ (x : Judging). x.layer) c.in_ok-boxed-in-Some.ensures in
    let owned_is = ask_owned c.args.frames.now.first c.push-in-Some.new.self.first c.args.flow layer c.in_ok-boxed-in-Some.field-0 fs (inner c.push.new.self) new layer_is c.in_ok-push-in-Some.ensures.pushed c.in_ok-push-in-Some-2.ensures.pushed (c.in_ok-push-in-Some-2.ensures.first ∙ c.in_ok-push-in-Some.ensures.first) in
    let entered = subst (λ (o : Option ℕ). Enters true s o h (bindings_of c.in_ok-bindings.bindings) (held_of g.around.keys (with_own true o (own_of c.args.frames.now)) (layers_of c.enter_call.new.scopes))) c.in-Some.is (c.in_ok-layer.ensures.entered s agrees) in
    subst (λ x. IsLed g.around x c.lead_on.result (local_of g.around c.lead_on.new.frames c.lead_on.new.scopes))
    (sym (asked_entered g.around c.args.tried (plain c.args.error) c.requires.1.0.0 c.requires.1.0.1 s agrees b.workflow b.named (param_view c.args.param.now) one fs d h c.in_ok-boxed-in-Some.field-0 c.args.error c.args.flow layer m new
    c.requires.1.1.1.1.1.1 refl (ap part_list b.part)
    (subst (λ (xs : List (Text × Data)). Enters true s (Some layer) h xs m) c.in_ok-bindings.ensures entered)
    c.in_ok-boxed-in-Some.ensures (c.in_ok-push-in-Some-2.ensures.pushed ∙ ap (λ gs. frame.Do c.args.flow 0 ∷ gs) c.in_ok-push-in-Some.ensures.pushed)))
    (subst (λ (os : List Own). IsLed g.around (goes (control g.around.spots new) (standing d (held_of g.around.keys os (layers_of c.enter_call.new.scopes)))) c.lead_on.result (local_of g.around c.lead_on.new.frames c.lead_on.new.scopes)) owned_is (c.lead_on.ensures.moved d))
