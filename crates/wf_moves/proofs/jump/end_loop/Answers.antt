use Rattle.std.proofs.Common.{sym, subst}
use Rattle.wf_frames.specs.Frames.{inner}
use Rattle.wf_frames.specs.Owned.{held_by, local_of}
use Rattle.wf_model.specs.Leave.{breaks}
use Rattle.wf_moves.proofs.Jumps.{broken}
use Rattle.wf_moves.proofs.Leaving.{fits_after}
use Rattle.wf_moves.specs.Moved.{IsMove}
use Rattle.wf_moves.proofs.jump.end_loop.Goals as goal

pub goes-requires : goal.goes-requires
goes-requires g c = (
  c.requires.0,
  record {
    fits = fits_after g.around.spots c.args.nodes.now c.leave.result (inner c.leave_to_loop.new.frames) (inner c.leave.new.frames) (held_by g.around c.leave_to_loop.new.frames c.leave_to_loop.new.scopes) (held_by g.around c.leave.new.frames c.leave.new.scopes) c.leave.ensures.left
        (c.leave_to_loop.ensures.fits c.args.nodes.now c.requires.1.fits);
    linked = c.leave.ensures.linked;
  },
)

pub returns-clause-moved : goal.returns-clause-moved
returns-clause-moved g c s d =
    subst (λ f. IsMove s (breaks f) c.goes.result (local_of g.around c.goes.new.frames c.goes.new.scopes)) (sym (c.leave_to_loop.ensures.found d))
    (broken s g.around.spots c.leave.result (inner c.leave_to_loop.new.frames) (inner c.leave.new.frames) d (held_by g.around c.leave_to_loop.new.frames c.leave_to_loop.new.scopes) (held_by g.around c.leave.new.frames c.leave.new.scopes) c.goes.result (local_of g.around c.goes.new.frames c.goes.new.scopes)
    c.leave_to_loop.ensures.top c.leave.ensures.left (c.goes.ensures.moved s))
