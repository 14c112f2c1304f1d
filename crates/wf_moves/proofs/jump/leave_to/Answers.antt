use Rattle.std.proofs.Common.{[], sym, ◌∙◌}
use Rattle.wf_frames.specs.Frames.{inner}
use Rattle.wf_frames.specs.Owned.{held_by}
use Rattle.wf_moves.proofs.Jumps.{turned, found_in, no_top, target_left}
use Rattle.wf_moves.proofs.Leaving.{fits_after, top_node}
use Rattle.wf_moves.proofs.jump.leave_to.Goals as goal

pub target-requires : goal.target-requires
target-requires g c = top_node g.around.spots c.args.nodes.now c.in-Some.frame.now (inner c.loop-frame.frames) c.in-Some.ensures c.loop-frame.invariant.stands.fits

pub returns-in-Some-target-clause-list : goal.returns-in-Some-target-clause-list
returns-in-Some-target-clause-list g c =
    (target_left g.around.spots c.args.nodes.now [] c.args.jump c.requires.0.resolves c.in-Some.frame.now c.in-Some-target.list c.leave.result (inner c.loop-frame.frames) (inner c.leave.new.frames)
    (held_by g.around c.loop-frame.frames c.loop-frame.scopes) (held_by g.around c.leave.new.frames c.leave.new.scopes) c.in-Some.ensures (sym c.target.ensures ∙ c.in-Some-target.is) c.leave.ensures.left c.loop-frame.invariant.stands.fits).0

pub returns-in-Some-target-clause-inside : goal.returns-in-Some-target-clause-inside
returns-in-Some-target-clause-inside g c =
    (target_left g.around.spots c.args.nodes.now [] c.args.jump c.requires.0.resolves c.in-Some.frame.now c.in-Some-target.list c.leave.result (inner c.loop-frame.frames) (inner c.leave.new.frames)
    (held_by g.around c.loop-frame.frames c.loop-frame.scopes) (held_by g.around c.leave.new.frames c.leave.new.scopes) c.in-Some.ensures (sym c.target.ensures ∙ c.in-Some-target.is) c.leave.ensures.left c.loop-frame.invariant.stands.fits).1

pub returns-in-Some-target-clause-found : goal.returns-in-Some-target-clause-found
returns-in-Some-target-clause-found g c x w =
    let q = c.loop-frame.invariant.found x w in
    found_in g.around.spots c.args.nodes.now x c.args.jump c.requires.0.resolves c.in-Some.frame.now c.in-Some-target.list c.leave.result (inner c.args.frames.now) (inner c.loop-frame.frames) (inner c.leave.new.frames)
    (held_by g.around c.args.frames.now c.args.scopes.now) (held_by g.around c.loop-frame.frames c.loop-frame.scopes) (held_by g.around c.leave.new.frames c.leave.new.scopes)
    c.in-Some.ensures (sym c.target.ensures ∙ c.in-Some-target.is) c.leave.ensures.left c.loop-frame.invariant.stands.fits q.1 q.0

pub returns-in-Some-target-clause-stands : goal.returns-in-Some-target-clause-stands
returns-in-Some-target-clause-stands g c = record {
  fits = fits_after g.around.spots c.args.nodes.now c.leave.result (inner c.loop-frame.frames) (inner c.leave.new.frames) (held_by g.around c.loop-frame.frames c.loop-frame.scopes) (held_by g.around c.leave.new.frames c.leave.new.scopes) c.leave.ensures.left c.loop-frame.invariant.stands.fits;
  linked = c.leave.ensures.linked;
}

pub loop-frame-preserved : goal.loop-frame-preserved
loop-frame-preserved g c = record {
  stands = record {
    fits = fits_after g.around.spots c.args.nodes.now c.leave-in-Some.result (inner c.loop-frame.frames) (inner c.leave-in-Some.new.frames) (held_by g.around c.loop-frame.frames c.loop-frame.scopes) (held_by g.around c.leave-in-Some.new.frames c.leave-in-Some.new.scopes) c.leave-in-Some.ensures.left c.loop-frame.invariant.stands.fits;
    linked = c.leave-in-Some.ensures.linked;
  };
  found = λ x w. (
      let q = c.loop-frame.invariant.found x w in
      let t = turned g.around.spots c.args.nodes.now x c.args.jump c.requires.0.resolves c.in-Some.frame.now c.leave-in-Some.result (inner c.loop-frame.frames) (inner c.leave-in-Some.new.frames)
      (held_by g.around c.loop-frame.frames c.loop-frame.scopes) (held_by g.around c.leave-in-Some.new.frames c.leave-in-Some.new.scopes) c.in-Some.ensures (sym c.target.ensures ∙ c.in_default-target.is) c.leave-in-Some.ensures.left c.loop-frame.invariant.stands.fits q.1 in
      (λ d. q.0 d ∙ t.goes d, t.leads)
      );
}

pub returns-clause-found : goal.returns-clause-found
returns-clause-found g c x w = no_top g.around.spots c.args.nodes.now x c.args.jump c.requires.0.resolves (inner c.loop-frame.frames) c.in_default.ensures (c.loop-frame.invariant.found x w).1
