use Rattle.std.proofs.Common.{◌∙◌, sym}
use Rattle.wf_frames.specs.Frames.{inner}
use Rattle.wf_frames.specs.Owned.{held_by}
use Rattle.wf_moves.proofs.Jumps.{loop_turned}
use Rattle.wf_moves.proofs.jump.leave_to_loop.Goals as goal

pub loop-frame-preserved : goal.loop-frame-preserved
loop-frame-preserved g c =
    let t = loop_turned c.in-Some.frame.now c.leave.result (inner c.loop-frame.frames) (inner c.leave.new.frames) (held_by g.around c.loop-frame.frames c.loop-frame.scopes) (held_by g.around c.leave.new.frames c.leave.new.scopes) c.in-Some.ensures (sym c.is_loop.ensures ∙ c.if-is_loop.false) c.leave.ensures.left in
    record {
      linked = c.leave.ensures.linked;
      outside = t.outside ∙ c.loop-frame.invariant.outside;
      fits = λ nodes f. t.fits g.around.spots nodes (c.loop-frame.invariant.fits nodes f);
      found = λ d. c.loop-frame.invariant.found d ∙ t.goes g.around.spots d;
    }
