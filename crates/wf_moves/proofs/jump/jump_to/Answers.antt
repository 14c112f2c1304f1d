use Rattle.std.proofs.Common.{ap, refl, sym, ◌∙◌}
use Rattle.wf_frames.proofs.Owning.{own_pushed}
use Rattle.wf_frames.specs.Fits.{Fits}
use Rattle.wf_frames.specs.Frames.{control, inner}
use Rattle.wf_frames.specs.Held.{standing}
use Rattle.wf_frames.specs.Owned.{IsLinked, held_by, held_of}
use Rattle.wf_frames.specs.declared.frames.Frame.TheVariants as frame
use Rattle.wf_model.specs.Unwind.{Stands}
use Rattle.wf_moves.proofs.Jumps.{before_fits, stands_before}
use Rattle.wf_scope.specs.Store.{layers_of}
use Rattle.std.proofs.Common.{subst}
use Rattle.wf_moves.proofs.jump.jump_to.Goals as goal

pub returns-clause-found : goal.returns-clause-found
returns-clause-found g c x w d =
    let mid = c.leave_to.new.frames in
    let same = own_pushed mid.first c.push.new.self.first (frame.Do c.in-Some.list c.place_of-place.result) (inner mid) (inner c.push.new.self) c.in_ok-push.ensures.first refl c.in_ok-push.ensures.pushed in
    stands_before g.around.spots c.args.nodes.now x c.args.jump c.in-Some.list c.place_of-place.result _ c.as_slice.result.now (inner c.args.frames.now) (inner mid)
    (held_by g.around c.args.frames.now c.args.scopes.now) (held_by g.around mid c.leave_to.new.scopes) (c.in-Some.ensures.found x w) c.block.ensures c.as_slice.ensures.value c.place_of-place.ensures d
    ∙ ap (λ fs. Stands (control g.around.spots fs) (standing d (held_by g.around mid c.leave_to.new.scopes))) (sym c.in_ok-push.ensures.pushed)
    ∙ ap (λ os. Stands (control g.around.spots (inner c.push.new.self)) (standing d (held_of g.around.keys os (layers_of c.leave_to.new.scopes)))) (sym same)

pub returns-clause-stands : goal.returns-clause-stands
returns-clause-stands g c =
    let mid = c.leave_to.new.frames in
    let same = own_pushed mid.first c.push.new.self.first (frame.Do c.in-Some.list c.place_of-place.result) (inner mid) (inner c.push.new.self) c.in_ok-push.ensures.first refl c.in_ok-push.ensures.pushed in
    let need = c.requires.1.1 in
    record {
      fits = subst (Fits g.around.spots c.args.nodes.now) (sym c.in_ok-push.ensures.pushed)
          (before_fits g.around.spots c.args.nodes.now need.0 c.args.jump c.in-Some.list c.place_of-place.result _ c.as_slice.result.now (inner c.args.frames.now) (inner mid)
          (held_by g.around c.args.frames.now c.args.scopes.now) (held_by g.around mid c.leave_to.new.scopes) (c.in-Some.ensures.found need.0 need.1) c.block.ensures c.as_slice.ensures.value c.place_of-place.ensures c.in-Some.ensures.inside c.in-Some.ensures.stands.fits);
      linked = subst (λ os. IsLinked g.around os c.leave_to.new.scopes) (sym same) c.in-Some.ensures.stands.linked;
    }

pub unreachable-requires : goal.unreachable-requires
unreachable-requires g c = let need = c.requires.1.1 in c.in_default.ensures.found need.0 need.1
