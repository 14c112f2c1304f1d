use Rattle.std.proofs.Common.{Some, sym, ap, ◌∙◌}
use Rattle.wf_frames.specs.declared.frames.Frame.{Frame}
use Rattle.wf_frames.specs.declared.frames.Judging.{Judging}
use Rattle.wf_moves.specs.Retries.{asked_by_frame}
use Rattle.wf_moves.proofs.leading.asked_on.Goals as goal

pub returns : goal.returns
returns c = record {
  held = c.in-Judge.judging;
  top = c.in-Some.ensures ∙ ap (λ (f : Frame). Some f) c.in-Judge.is;
  tried = ap asked_by_frame (sym c.deref-judging.ensures);
  error_is = ap (λ (x : Judging). x.error) (sym c.deref-judging.ensures) ∙ sym c.in_ok-error.ensures;
}
