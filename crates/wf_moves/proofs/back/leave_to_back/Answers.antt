use Rattle.std.proofs.Common.{◌∙◌, sym}
use Rattle.wf_frames.specs.Frames.{inner}
use Rattle.wf_frames.specs.Owned.{beside, held_by}
use Rattle.wf_moves.proofs.Returning.{back_here, back_nowhere, back_turned}
use Rattle.wf_moves.proofs.back.leave_to_back.Goals as goal

pub loop-frame-preserved : goal.loop-frame-preserved
loop-frame-preserved g c =
    let t = back_turned c.in-Some.frame.now c.leave.result (inner c.loop-frame.frames) (inner c.leave.new.frames) (held_by g.around c.loop-frame.frames c.loop-frame.scopes) (held_by g.around c.leave.new.frames c.leave.new.scopes) c.in-Some.ensures (sym c.is_back.ensures ∙ c.if-is_back.false) c.leave.ensures.left in
    record {
      linked = c.leave.ensures.linked;
      outside = t.outside ∙ c.loop-frame.invariant.outside;
      fits = λ nodes f. t.fits g.around.spots nodes (c.loop-frame.invariant.fits nodes f);
      found = λ d. c.loop-frame.invariant.found d ∙ t.goes g.around.spots d;
    }

pub returns-clause-found : goal.returns-clause-found
returns-clause-found g c d =
    c.loop-frame.invariant.found d ∙ back_nowhere g.around.spots (inner c.loop-frame.frames) (beside d g.around c.loop-frame.frames c.loop-frame.scopes) c.in_default.ensures

pub returns-then-is_back-clause-found : goal.returns-then-is_back-clause-found
returns-then-is_back-clause-found g c d =
    c.loop-frame.invariant.found d
    ∙ (back_here g.around.spots c.in-Some.frame.now (inner c.loop-frame.frames) (beside d g.around c.loop-frame.frames c.loop-frame.scopes) c.in-Some.ensures (sym c.is_back.ensures ∙ c.if-is_back.true)).0
