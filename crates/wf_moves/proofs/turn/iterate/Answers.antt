use Rattle.std.proofs.Common.{◌≡◌, ℕ, List, ◌∷◌, false, refl, sym, ap, ◌∙◌, subst, pos}
use Rattle.std.specs.Prelude.{Option}
use Rattle.wf_lemmas.proofs.Results.{with_ok}
use Rattle.wf_frames.specs.Frames.{control, inner, own, owned}
use Rattle.wf_frames.specs.Held.{standing}
use Rattle.wf_frames.specs.Owned.{IsLinked, control_of, held_by, held_of, local_of, own_of}
use Rattle.wf_frames.specs.Turns.{Enters, names_of, with_own}
use Rattle.wf_frames.specs.declared.frames.Frame.{Frame}
use Rattle.wf_frames.specs.declared.frames.Frame.TheVariants as frame
use Rattle.wf_model.specs.Leave.{raises}
use Rattle.wf_model.specs.Local.{goes}
use Rattle.wf_moves.proofs.Raised.{raised}
use Rattle.wf_moves.proofs.Turning.{taken_off, turn_entered, turn_fits, turn_owned, turn_refused, turning_moves, turning_outside, turning_owned, turning_there}
use Rattle.wf_moves.specs.Moved.{IsMove}
use Rattle.wf_scope.specs.Store.{layers_of}
use Rattle.wf_frames.specs.Tasks.{Own}
use Rattle.wf_value.specs.Plain.{plain}
use Rattle.wf_value.specs.Errors.{error_map}
use Rattle.wf_value.specs.declared.Tag.TheVariants.{ResourceLimitError}
use Rattle.wf_moves.proofs.turn.iterate.Goals as goal

pub loop_node-body-requires : goal.loop_node-body-requires
loop_node-body-requires g c = turning_there g.around.spots c.args.nodes.now c.args.turn c.requires.1.1.0 (inner c.args.frames.now) c.requires.1.1.1 c.requires.1.0.fits

pub returns-in_default-clause-moved : goal.returns-in_default-clause-moved
returns-in_default-clause-moved g c =
    let t = c.args.turn in
    let is = c.loop_node-body.ensures in
    let fs = inner c.args.frames.now in
    let left = inner c.pop.new.self in
    let ls = layers_of c.enter.new.scopes in
    let h = held_by g.around c.args.frames.now c.args.scopes.now in
    let names = names_of c.loop_node-body.result.now.value (plain t.value) c.loop_node-body.result.now.index (pos t.index) in
    let e = error_map ResourceLimitError in
    let l = local_of g.around c.pop.new.self c.enter.new.scopes in
    with_ok _ _ c.raises_tag.result
    (λ w m old x s d agrees.
    let off = taken_off fs left x.outside (frame.Loop x.behind) c.pop.result x.is c.pop.ensures.popped c.pop.ensures.none in
    let own : own_of c.pop.new.self ≡ own_of c.args.frames.now =
    ap (λ (k : ℕ). owned k left) c.pop.ensures.first ∙ ap (owned c.args.frames.now.first) off ∙ sym (turning_owned g.around.spots c.args.nodes.now t old fs x c.args.frames.now.first) in
    turning_moves g.around.spots c.args.nodes.now t old fs x s d h w l
    (turn_refused g.around.spots t.node x.before.value.left t.index x.outside s d h c.args.nodes.now is.node c.loop_node-body.result.now c.requires.0.resolves is.at is.is (plain t.value) x.behind.value.left x.turns.next
    (held_by g.around c.args.frames.now c.enter.new.scopes) w l
    (subst (λ (o : Option ℕ). Enters false s o h names (held_of g.around.keys (with_own false o (own_of c.args.frames.now)) ls)) c.in_default.is (c.in_ok-entered.ensures.entered s agrees))
    (subst (λ (os : List Own). IsMove s (raises s (control g.around.spots x.outside) (standing d (held_of g.around.keys os ls)) e) w l) own
    (subst (λ (ys : List Frame). IsMove s (raises s (control g.around.spots ys) (standing d (held_of g.around.keys (own_of c.pop.new.self) ls)) e) w l) off
    (raised s (control_of g.around c.pop.new.self) d (held_by g.around c.pop.new.self c.enter.new.scopes) e w m)))))
    c.raises_tag.ensures

pub goes-requires : goal.goes-requires
goes-requires g c =
    let t = c.args.turn in
    let x = c.requires.1.1.1 in
    let old = c.requires.1.1.0 in
    let fs = inner c.args.frames.now in
    let layer = c.in-Some.layer in
    let owned_is = turn_owned c.args.frames.now.first c.push-2.new.self.first t.node layer x.behind x.outside fs (inner c.push.new.self) (inner c.push-2.new.self)
    x.is c.in_ok-push.ensures.pushed c.in_ok-push-2.ensures.pushed (c.in_ok-push-2.ensures.first ∙ c.in_ok-push.ensures.first)
    ∙ ap (λ (os : List Own). own layer false ∷ os) (sym (turning_owned g.around.spots c.args.nodes.now t old fs x c.args.frames.now.first)) in (
      c.requires.0,
      record {
        fits = turn_fits g.around.spots c.args.nodes.now t.node layer x.behind c.loop_node-body.result.now x.outside fs (inner c.push.new.self) (inner c.push-2.new.self) c.loop_node-body.ensures x.turns.node
            x.is c.in_ok-push.ensures.pushed c.in_ok-push-2.ensures.pushed (turning_outside g.around.spots c.args.nodes.now t old fs x c.requires.1.0.fits);
        linked = subst (λ os. IsLinked g.around os c.enter.new.scopes) (sym owned_is)
            (subst (λ o. IsLinked g.around (with_own false o (own_of c.args.frames.now)) c.enter.new.scopes) c.in-Some.is c.in_ok-entered.ensures.linked);
      },
    )

pub returns-clause-moved : goal.returns-clause-moved
returns-clause-moved g c old x s d agrees =
    let t = c.args.turn in
    let is = c.loop_node-body.ensures in
    let fs = inner c.args.frames.now in
    let layer = c.in-Some.layer in
    let h = held_by g.around c.args.frames.now c.args.scopes.now in
    let names = names_of c.loop_node-body.result.now.value (plain t.value) c.loop_node-body.result.now.index (pos t.index) in
    let l = local_of g.around c.goes.new.frames c.goes.new.scopes in
    let owned_is = turn_owned c.args.frames.now.first c.push-2.new.self.first t.node layer x.behind x.outside fs (inner c.push.new.self) (inner c.push-2.new.self)
    x.is c.in_ok-push.ensures.pushed c.in_ok-push-2.ensures.pushed (c.in_ok-push-2.ensures.first ∙ c.in_ok-push.ensures.first)
    ∙ ap (λ (os : List Own). own layer false ∷ os) (sym (turning_owned g.around.spots c.args.nodes.now t old fs x c.args.frames.now.first)) in
    turning_moves g.around.spots c.args.nodes.now t old fs x s d h c.goes.result l
    (turn_entered g.around.spots t.node x.before.value.left t.index x.outside s d h c.args.nodes.now is.node c.loop_node-body.result.now c.requires.0.resolves is.at is.is (plain t.value) x.behind.value.left x.turns.next
    x.behind layer (held_of g.around.keys (own layer false ∷ own_of c.args.frames.now) (layers_of c.enter.new.scopes)) c.goes.result l (inner c.push-2.new.self)
    (subst (λ (o : Option ℕ). Enters false s o h names (held_of g.around.keys (with_own false o (own_of c.args.frames.now)) (layers_of c.enter.new.scopes))) c.in-Some.is (c.in_ok-entered.ensures.entered s agrees))
    x.turns.node refl x.turns.index (c.in_ok-push-2.ensures.pushed ∙ ap (λ ys. frame.Do t.node 0 ∷ ys) (c.in_ok-push.ensures.pushed ∙ ap (λ ys. frame.Mark layer ∷ ys) x.is))
    (subst (λ (os : List Own). IsMove s (goes (control g.around.spots (inner c.push-2.new.self)) (standing d (held_of g.around.keys os (layers_of c.enter.new.scopes)))) c.goes.result l) owned_is (c.goes.ensures.moved s d)))
