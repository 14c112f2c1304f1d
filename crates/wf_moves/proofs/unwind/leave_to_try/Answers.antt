use Rattle.std.proofs.Common.{◌≡◌, false, None, Some, refl, sym, ◌∙◌, arith}
use Rattle.std.specs.Prelude.{Option, is_some}
use Rattle.wf_frames.specs.Frames.{inner}
use Rattle.wf_frames.specs.Owned.{beside, held_by}
use Rattle.wf_moves.proofs.Leaving.{fits_after}
use Rattle.wf_moves.proofs.Unwinding.{caught_on, caught_out, fewer_by, passes_on, some_at, some_fewer}
use Rattle.wf_moves.specs.declared.unwind.Tried.{Tried}
use Rattle.wf_moves.proofs.unwind.leave_to_try.Goals as goal

not_there : (o : Option Tried) → is_some o ≡ false → o ≡ None
not_there None h = refl
not_there (Some n) h = absurd (cc h)

pub returns-then-is_some-clause-found : goal.returns-then-is_some-clause-found
returns-then-is_some-clause-found g c s d e =
    c.loop-frame.invariant.found s d e
    ∙ caught_on g.around.spots c.in-Some.frame.now c.tried_of-found.result c.leave.result (inner c.loop-frame.frames) (inner c.leave.new.frames) (held_by g.around c.loop-frame.frames c.loop-frame.scopes) (held_by g.around c.leave.new.frames c.leave.new.scopes)
    c.in-Some.ensures (sym c.is_some.ensures ∙ c.if-is_some.true) c.tried_of-found.ensures c.leave.ensures.left s d e

pub returns-then-is_some-clause-at : goal.returns-then-is_some-clause-at
returns-then-is_some-clause-at g c nodes fits =
    some_at g.around.spots nodes c.in-Some.frame.now c.tried_of-found.result c.leave.result (inner c.loop-frame.frames) (inner c.leave.new.frames) (held_by g.around c.loop-frame.frames c.loop-frame.scopes) (held_by g.around c.leave.new.frames c.leave.new.scopes)
    c.in-Some.ensures (sym c.is_some.ensures ∙ c.if-is_some.true) c.tried_of-found.ensures c.leave.ensures.left (c.loop-frame.invariant.fits nodes fits)

pub returns-then-is_some-clause-fits : goal.returns-then-is_some-clause-fits
returns-then-is_some-clause-fits g c nodes fits =
    fits_after g.around.spots nodes c.leave.result (inner c.loop-frame.frames) (inner c.leave.new.frames) (held_by g.around c.loop-frame.frames c.loop-frame.scopes) (held_by g.around c.leave.new.frames c.leave.new.scopes) c.leave.ensures.left (c.loop-frame.invariant.fits nodes fits)

pub returns-then-is_some-clause-fewer : goal.returns-then-is_some-clause-fewer
returns-then-is_some-clause-fewer g c =
    some_fewer c.tried_of-found.result (inner c.leave.new.frames) (inner c.loop-frame.frames) (inner c.args.frames.now)
    (fewer_by c.leave.result c.in-Some.frame.now (inner c.loop-frame.frames) (inner c.leave.new.frames) (held_by g.around c.loop-frame.frames c.loop-frame.scopes) (held_by g.around c.leave.new.frames c.leave.new.scopes) c.in-Some.ensures c.leave.ensures.left) c.loop-frame.invariant.fewer

pub returns-clause-found : goal.returns-clause-found
returns-clause-found g c s d e =
    c.loop-frame.invariant.found s d e ∙ caught_out g.around.spots (inner c.loop-frame.frames) (beside d g.around c.loop-frame.frames c.loop-frame.scopes) c.in_default.ensures s e

pub loop-frame-preserved : goal.loop-frame-preserved
loop-frame-preserved g c = record {
  linked = c.leave.ensures.linked;
  found = λ s d e. c.loop-frame.invariant.found s d e
      ∙ passes_on g.around.spots c.in-Some.frame.now c.leave.result (inner c.loop-frame.frames) (inner c.leave.new.frames) (held_by g.around c.loop-frame.frames c.loop-frame.scopes) (held_by g.around c.leave.new.frames c.leave.new.scopes)
      c.in-Some.ensures (sym c.tried_of-found.ensures ∙ not_there c.tried_of-found.result (sym c.is_some.ensures ∙ c.if-is_some.false)) c.leave.ensures.left s d e;
  fits = λ nodes fits.
      fits_after g.around.spots nodes c.leave.result (inner c.loop-frame.frames) (inner c.leave.new.frames) (held_by g.around c.loop-frame.frames c.loop-frame.scopes) (held_by g.around c.leave.new.frames c.leave.new.scopes) c.leave.ensures.left (c.loop-frame.invariant.fits nodes fits);
  fewer = (
      let less = fewer_by c.leave.result c.in-Some.frame.now (inner c.loop-frame.frames) (inner c.leave.new.frames) (held_by g.around c.loop-frame.frames c.loop-frame.scopes) (held_by g.around c.leave.new.frames c.leave.new.scopes) c.in-Some.ensures c.leave.ensures.left in
      omega (arith, less, c.loop-frame.invariant.fewer)
      );
}
