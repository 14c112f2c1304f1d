use Rattle.std.proofs.Common.{sym, subst}
use Rattle.wf_frames.specs.Frames.{inner}
use Rattle.wf_frames.specs.Owned.{beside, held_by, local_of}
use Rattle.wf_model.specs.Leave.{continues}
use Rattle.wf_moves.proofs.Jumps.{continued}
use Rattle.wf_moves.specs.Moved.{IsMove}
use Rattle.wf_moves.proofs.jump.go_on_loop.Goals as goal

pub goes-requires : goal.goes-requires
goes-requires g c = (c.requires.0, record { fits = c.leave_to_loop.ensures.fits c.args.nodes.now c.requires.1.fits; linked = c.leave_to_loop.ensures.linked })

pub returns-clause-moved : goal.returns-clause-moved
returns-clause-moved g c s d =
    subst (λ f. IsMove s (continues s (beside d g.around c.args.frames.now c.args.scopes.now) f) c.goes.result (local_of g.around c.goes.new.frames c.goes.new.scopes)) (sym (c.leave_to_loop.ensures.found d))
    (continued g.around.spots s (inner c.leave_to_loop.new.frames) d (held_by g.around c.args.frames.now c.args.scopes.now) (held_by g.around c.leave_to_loop.new.frames c.leave_to_loop.new.scopes) c.goes.result (local_of g.around c.goes.new.frames c.goes.new.scopes) c.goes.ensures.through (c.goes.ensures.moved s) c.leave_to_loop.ensures.outside)
