use Rattle.std.proofs.Common.{◌≡◌, ℕ, List, sym, ap, subst, ◌∙◌}
use Rattle.wf_lemmas.proofs.Results.{with_ok}
use Rattle.wf_frames.specs.Fits.{Fits}
use Rattle.wf_frames.specs.Frames.{control, inner, owned}
use Rattle.wf_frames.specs.Held.{standing}
use Rattle.wf_frames.specs.Loops.{TakesTurn}
use Rattle.wf_frames.specs.Owned.{IsLinked, control_of, held_by, held_of, local_of, own_of}
use Rattle.wf_frames.specs.Tasks.{Own}
use Rattle.wf_frames.specs.declared.frames.Frame.{Frame}
use Rattle.wf_frames.specs.declared.frames.Frame.TheVariants as frame
use Rattle.wf_model.specs.Local as model
use Rattle.wf_model.specs.Move.{moves}
use Rattle.wf_moves.proofs.Turning.{spent_outside, spent_owned, taken_off, turn_ended, turning_fits}
use Rattle.wf_moves.specs.Moved.{IsMove}
use Rattle.wf_scope.specs.Store.{layers_of}
use Rattle.wf_moves.proofs.turn.turn.Goals as goal

pub iterate-requires : goal.iterate-requires
iterate-requires g c =
    let old = inner c.args.frames.now in
    let new = inner c.turn.new.self in
    let x = subst (λ o. TakesTurn o old new) c.in-Some.is c.in_ok-turn.ensures.turned in (
      c.requires.0,
      (
        record {
          fits = turning_fits g.around.spots c.args.nodes.now c.in-Some.turn old new x c.requires.1.0.fits;
          linked = subst (λ (os : List Own). IsLinked g.around os c.args.scopes.now) (sym c.in_ok-turn.ensures.own) c.requires.1.0.linked;
        },
        (old, x),
      ),
    )

pub goes-requires : goal.goes-requires
goes-requires g c =
    let old = inner c.args.frames.now in
    let new = inner c.turn.new.self in
    let left = inner c.pop.new.self in
    let x = subst (λ o. TakesTurn o old new) c.in-None.is c.in_ok-turn.ensures.turned in
    let off = taken_off new left x.outside (frame.Loop x.behind) c.pop.result x.is c.pop.ensures.popped c.pop.ensures.none in
    let own : own_of c.pop.new.self ≡ own_of c.args.frames.now =
    ap (λ (k : ℕ). owned k left) c.pop.ensures.first ∙ ap (owned c.turn.new.self.first) off ∙ sym (spent_owned g.around.spots c.args.nodes.now old new x c.turn.new.self.first) ∙ c.in_ok-turn.ensures.own in (
      c.requires.0,
      record {
        fits = subst (Fits g.around.spots c.args.nodes.now) (sym off) (spent_outside g.around.spots c.args.nodes.now old new x c.requires.1.0.fits);
        linked = subst (λ (os : List Own). IsLinked g.around os c.args.scopes.now) (sym own) c.requires.1.0.linked;
      },
    )

pub returns-in-None-clause-moved : goal.returns-in-None-clause-moved
returns-in-None-clause-moved g c s d agrees =
    let old = inner c.args.frames.now in
    let new = inner c.turn.new.self in
    let left = inner c.pop.new.self in
    let ls = layers_of c.args.scopes.now in
    let h = held_by g.around c.args.frames.now c.args.scopes.now in
    let l = local_of g.around c.goes.new.frames c.goes.new.scopes in
    let x = subst (λ o. TakesTurn o old new) c.in-None.is c.in_ok-turn.ensures.turned in
    let off = taken_off new left x.outside (frame.Loop x.behind) c.pop.result x.is c.pop.ensures.popped c.pop.ensures.none in
    let own : own_of c.pop.new.self ≡ own_of c.args.frames.now =
    ap (λ (k : ℕ). owned k left) c.pop.ensures.first ∙ ap (owned c.turn.new.self.first) off ∙ sym (spent_owned g.around.spots c.args.nodes.now old new x c.turn.new.self.first) ∙ c.in_ok-turn.ensures.own in
    subst (λ (fs : List Frame). IsMove s (moves s (control g.around.spots fs) (standing d h)) c.goes.result l) (sym x.was)
    (turn_ended g.around.spots x.before.value.node x.before.value.left x.before.value.index x.outside s d h c.goes.result l x.turns.none
    (subst (λ (os : List Own). IsMove s (model.goes (control g.around.spots x.outside) (standing d (held_of g.around.keys os ls))) c.goes.result l) own
    (subst (λ (fs : List Frame). IsMove s (model.goes (control g.around.spots fs) (standing d (held_of g.around.keys (own_of c.pop.new.self) ls))) c.goes.result l) off (c.goes.ensures.moved s d))))

pub returns-in-Some-clause-moved : goal.returns-in-Some-clause-moved
returns-in-Some-clause-moved g c =
    let old = inner c.args.frames.now in
    let new = inner c.turn.new.self in
    let l = local_of g.around c.iterate.new.frames c.iterate.new.scopes in
    let x = subst (λ o. TakesTurn o old new) c.in-Some.is c.in_ok-turn.ensures.turned in
    with_ok _ _ c.iterate.result
    (λ w h s d agrees. subst (λ (os : List Own). IsMove s (moves s (control_of g.around c.args.frames.now) (standing d (held_of g.around.keys os (layers_of c.args.scopes.now)))) w l) c.in_ok-turn.ensures.own (h old x s d agrees))
    c.iterate.ensures.moved
