use Rattle.std.proofs.Common.{◌∷◌, [], ℕ, false, List, Some, None, sym, ap, subst, ◌∙◌, pos}
use Rattle.std.specs.Prelude.{Option}
use Rattle.wf_frames.specs.Frames.{control, inner, own}
use Rattle.wf_frames.specs.Held.{standing}
use Rattle.wf_frames.specs.Owned.{IsLinked, beside, control_of, held_by, held_of, own_of}
use Rattle.wf_frames.specs.Turns.{Enters, names_of, with_own}
use Rattle.wf_frames.specs.declared.frames.Frame.TheVariants as frame
use Rattle.wf_model.specs.Unwind.{unwind}
use Rattle.wf_model.specs.Local.{goes}
use Rattle.wf_moves.proofs.Unwinding.{handled_in, handled_out, handler_fits, handler_owned}
use Rattle.wf_scope.specs.Store.{layers_of}
use Rattle.wf_frames.specs.Tasks.{Own}
use Rattle.wf_value.specs.Data.{Data}
use Rattle.wf_value.specs.Pairs.{Text}
use Rattle.wf_value.specs.Plain.{plain}
use Rattle.wf_moves.proofs.unwind.handle.Goals as goal

pub returns-in_ok-push-in-Some-2-clause-stands : goal.returns-in_ok-push-in-Some-2-clause-stands
returns-in_ok-push-in-Some-2-clause-stands g c =
    let y = c.requires.1.1.0 in
    let fs = inner c.args.frames.now in
    let layer = c.in-Some.layer in
    let owned_is = handler_owned c.args.frames.now.first c.push-in-Some.new.self.first c.args.n layer fs (inner c.push.new.self) (inner c.push-in-Some.new.self) c.in_ok-push-in-Some.ensures.pushed c.in_ok-push-in-Some-2.ensures.pushed (c.in_ok-push-in-Some-2.ensures.first ∙ c.in_ok-push-in-Some.ensures.first) in
    record {
      fits = handler_fits g.around.spots c.args.nodes.now c.requires.0 c.args.n y.0 layer fs (inner c.push.new.self) (inner c.push-in-Some.new.self) c.requires.1.1.1 c.in_ok-push-in-Some.ensures.pushed c.in_ok-push-in-Some-2.ensures.pushed c.requires.1.0.fits;
      linked = subst (λ (os : List Own). IsLinked g.around os c.enter.new.scopes) (sym owned_is)
          (subst (λ (o : Option ℕ). IsLinked g.around (with_own false o (own_of c.args.frames.now)) c.enter.new.scopes) c.in-Some.is c.in_ok-layer.ensures.linked);
    }

pub returns-in_ok-push-in-Some-2-clause-moved : goal.returns-in_ok-push-in-Some-2-clause-moved
returns-in_ok-push-in-Some-2-clause-moved g c s d agrees =
    let y = c.requires.1.1.0 in
    let fs = inner c.args.frames.now in
    let layer = c.in-Some.layer in
    let h = held_by g.around c.args.frames.now c.args.scopes.now in
    let new = inner c.push-in-Some.new.self in
    let owned_is = handler_owned c.args.frames.now.first c.push-in-Some.new.self.first c.args.n layer fs (inner c.push.new.self) new c.in_ok-push-in-Some.ensures.pushed c.in_ok-push-in-Some-2.ensures.pushed (c.in_ok-push-in-Some-2.ensures.first ∙ c.in_ok-push-in-Some.ensures.first) in
    let entered = subst (λ (o : Option ℕ). Enters false s o h (names_of c.args.except.now.name (plain c.args.error) None (pos 0)) (held_of g.around.keys (with_own false o (own_of c.args.frames.now)) (layers_of c.enter.new.scopes))) c.in-Some.is (c.in_ok-layer.ensures.entered s agrees) in
    let named = subst (λ (x : Text). Enters false s (Some layer) h ((x, plain c.args.error) ∷ []) (held_of g.around.keys (own layer false ∷ own_of c.args.frames.now) (layers_of c.enter.new.scopes))) (ap (λ x. x.name) (sym y.1)) entered in
    handled_in g.around.spots c.args.nodes.now c.requires.0 c.args.n y.0 s d (plain c.args.error) layer fs new h (held_of g.around.keys (own layer false ∷ own_of c.args.frames.now) (layers_of c.enter.new.scopes))
    (unwind s (control_of g.around c.args.frames.now) (beside d g.around c.args.frames.now c.args.scopes.now)) named
    (c.in_ok-push-in-Some-2.ensures.pushed ∙ ap (λ gs. frame.Do c.args.n 0 ∷ gs) c.in_ok-push-in-Some.ensures.pushed)
    ∙ ap (λ (os : List Own). goes (control g.around.spots new) (standing d (held_of g.around.keys os (layers_of c.enter.new.scopes)))) (sym owned_is)

pub returns-in_ok-map_of-in-None-clause-moved : goal.returns-in_ok-map_of-in-None-clause-moved
returns-in_ok-map_of-in-None-clause-moved g c s d agrees =
    let y = c.requires.1.1.0 in
    let fs = inner c.args.frames.now in
    let h = held_by g.around c.args.frames.now c.args.scopes.now in
    let m = held_by g.around c.args.frames.now c.enter.new.scopes in
    let entered = subst (λ (o : Option ℕ). Enters false s o h (names_of c.args.except.now.name (plain c.args.error) None (pos 0)) (held_of g.around.keys (with_own false o (own_of c.args.frames.now)) (layers_of c.enter.new.scopes))) c.in-None.is (c.in_ok-layer.ensures.entered s agrees) in
    let named = subst (λ (x : Text). Enters false s None h ((x, plain c.args.error) ∷ []) m) (ap (λ x. x.name) (sym y.1)) entered in
    handled_out g.around.spots c.args.nodes.now c.requires.0 c.args.n y.0 s d (plain c.args.error) fs h m named
    ∙ ap (λ (v : Data). unwind s (control_of g.around c.args.frames.now) (standing d m) v) (sym c.in_ok-map_of-in-None.ensures.error)
