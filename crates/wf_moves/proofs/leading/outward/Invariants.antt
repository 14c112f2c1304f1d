use Rattle.std.proofs.Common.{◌≡◌, ◌≤◌, List, length}
use Rattle.wf_frames.specs.Frames.{inner}
use Rattle.wf_frames.specs.Owned.{beside, control_of}
use Rattle.wf_frames.specs.Stands.{Stands}
use Rattle.wf_frames.specs.Turns.{Agrees}
use Rattle.wf_model.specs.Config.{Item}
use Rattle.wf_model.specs.Local.{Scene}
use Rattle.wf_model.specs.Unwind.{unwind}
use Rattle.wf_frames.specs.Steps.{IsOrBreaks}
use Rattle.wf_value.specs.Data.{depth}
use Rattle.wf_value.specs.Plain.{plain}
use Rattle.wf_moves.proofs.leading.outward.Given as goal

abbrev pub ghost-leave_to_try : goal.ghost-leave_to_try
ghost-leave_to_try g a = g.around

abbrev pub ghost-decide : goal.ghost-decide
ghost-decide g a = g.around

abbrev pub invariant-loop-tried : goal.invariant-loop-tried
invariant-loop-tried g l = record {
  stands : Stands g.around l.nodes l.frames l.scopes;
  found : (s : Scene) (c : List Item) → s.last ≡ l.last → Agrees s g.around
      → IsOrBreaks (unwind s (control_of g.around l.fn.frames) (beside c g.around l.fn.frames l.fn.scopes) (plain l.fn.error)) (unwind s (control_of g.around l.frames) (beside c g.around l.frames l.scopes) (plain l.error));
  shallow : depth (plain l.error) ≤ 100;
}

abbrev pub decreases-loop-tried : goal.decreases-loop-tried
decreases-loop-tried g l = length (inner l.frames)
