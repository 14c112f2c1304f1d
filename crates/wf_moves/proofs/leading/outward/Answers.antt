use Rattle.std.proofs.Common.{length, sym, ap, subst, ◌∙◌, arith}
use Rattle.wf_frames.specs.Frames.{inner}
use Rattle.wf_frames.specs.Owned.{beside, control_of, local_of}
use Rattle.wf_model.specs.Unwind.{unwind}
use Rattle.wf_moves.proofs.Deciding.{breaks_on, ended_out, led_or_broken}
use Rattle.wf_moves.specs.Retries.{IsDecided, IsDecidedSo, IsLed, Rests, caught_at, decide_at}
use Rattle.wf_moves.specs.declared.finish.End.TheVariants as end
use Rattle.wf_moves.specs.declared.leading.Led.TheVariants as led
use Rattle.wf_frames.specs.Steps.{IsOrBreaks}
use Rattle.wf_value.specs.Plain.{plain}
use Rattle.wf_moves.proofs.leading.outward.Goals as goal

pub decide-requires : goal.decide-requires
decide-requires g c = (
  c.requires.0,
  (
    c.requires.1.0,
    (
      record { fits = c.leave_to_try.ensures.fits c.args.nodes.now c.loop-tried.invariant.stands.fits; linked = c.leave_to_try.ensures.linked },
      (c.in-Some.ensures.at c.args.nodes.now c.loop-tried.invariant.stands.fits, c.loop-tried.invariant.shallow),
    ),
  ),
)

pub returns-in-Led-clause-moved : goal.returns-in-Led-clause-moved
returns-in-Led-clause-moved g c s d last agrees =
    led_or_broken g.around _ _ c.in-Led.led (local_of g.around c.decide.new.frames c.decide.new.scopes) (c.loop-tried.invariant.found s d last agrees)
    (subst (λ m. IsLed g.around m c.in-Led.led (local_of g.around c.decide.new.frames c.decide.new.scopes)) (sym (c.leave_to_try.ensures.found s d (plain c.loop-tried.error) ∙ ap (λ o. caught_at g.around.spots o s (plain c.loop-tried.error) (control_of g.around c.leave_to_try.new.frames) (beside d g.around c.leave_to_try.new.frames c.leave_to_try.new.scopes)) c.in-Some.is))
    (subst (λ x. IsDecided g.around s d (decide_at g.around.spots c.in-Some.tried s (plain c.loop-tried.error) (control_of g.around c.leave_to_try.new.frames) (beside d g.around c.leave_to_try.new.frames c.leave_to_try.new.scopes)) x c.decide.new.frames c.decide.new.scopes) c.in-Led.is (c.in_ok-another.ensures.moved s d last agrees)))

pub loop-tried-preserved : goal.loop-tried-preserved
loop-tried-preserved g c = record {
  stands = c.in_ok-another.ensures.stands;
  found = λ s d last agrees.
      breaks_on _ _ _ (c.loop-tried.invariant.found s d last agrees)
      (subst (λ m. IsOrBreaks m (unwind s (control_of g.around c.decide.new.frames) (beside d g.around c.decide.new.frames c.decide.new.scopes) (plain c.in-Raises.another))) (sym (c.leave_to_try.ensures.found s d (plain c.loop-tried.error) ∙ ap (λ o. caught_at g.around.spots o s (plain c.loop-tried.error) (control_of g.around c.leave_to_try.new.frames) (beside d g.around c.leave_to_try.new.frames c.leave_to_try.new.scopes)) c.in-Some.is))
      (subst (λ x. IsDecided g.around s d (decide_at g.around.spots c.in-Some.tried s (plain c.loop-tried.error) (control_of g.around c.leave_to_try.new.frames) (beside d g.around c.leave_to_try.new.frames c.leave_to_try.new.scopes)) x c.decide.new.frames c.decide.new.scopes) c.in-Raises.is (c.in_ok-another.ensures.moved s d last agrees)));
  shallow = subst (λ x. IsDecidedSo c.args.nodes.now x c.decide.new.frames) c.in-Raises.is c.in_ok-another.ensures.left;
}

pub loop-tried-smaller : goal.loop-tried-smaller
loop-tried-smaller g c =
    let same = ap length (subst (λ x. Rests x (inner c.leave_to_try.new.frames) (inner c.decide.new.frames)) c.in-Raises.is c.in_ok-another.ensures.same) in
    omega (arith, c.in-Some.ensures.fewer, same)

pub returns-clause-moved : goal.returns-clause-moved
returns-clause-moved g c s d last agrees =
    led_or_broken g.around _ _ (led.Ended (end.Error c.loop-tried.error)) (local_of g.around c.leave_to_try.new.frames c.leave_to_try.new.scopes) (c.loop-tried.invariant.found s d last agrees)
    (ended_out g.around _ s d c.leave_to_try.new.frames c.leave_to_try.new.scopes c.loop-tried.error c.in_default.ensures.none
    (c.leave_to_try.ensures.found s d (plain c.loop-tried.error) ∙ ap (λ o. caught_at g.around.spots o s (plain c.loop-tried.error) (control_of g.around c.leave_to_try.new.frames) (beside d g.around c.leave_to_try.new.frames c.leave_to_try.new.scopes)) c.in_default.is)
    c.loop-tried.invariant.shallow)
