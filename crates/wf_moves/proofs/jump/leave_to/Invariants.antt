use Rattle.std.proofs.Common.{◌≡◌, List, length, Some}
use Rattle.wf_frames.specs.Fits.{reach, views}
use Rattle.wf_frames.specs.Frames.{inner}
use Rattle.wf_frames.specs.Owned.{beside, control_of}
use Rattle.wf_frames.specs.Stands.{Stands}
use Rattle.wf_model.specs.Config.{Item}
use Rattle.wf_model.specs.Unwind.{to_step}
use Rattle.wf_model.specs.Table.{Leads}
use Rattle.wf_value.specs.Pairs.{Text}
use Rattle.wf_moves.proofs.jump.leave_to.Given as goal

abbrev pub ghost-leave : goal.ghost-leave
ghost-leave g a = g.around

abbrev pub invariant-loop-frame : goal.invariant-loop-frame
invariant-loop-frame g l = record {
  stands : Stands g.around l.nodes l.frames l.scopes;
  found : (x : Text) → Leads g.around.spots (views l.nodes) x (Some l.jump) (reach (inner l.fn.frames)) → ((c : List Item) → to_step x (control_of g.around l.fn.frames) (beside c g.around l.fn.frames l.fn.scopes) ≡ to_step x (control_of g.around l.frames) (beside c g.around l.frames l.scopes)) × Leads g.around.spots (views l.nodes) x (Some l.jump) (reach (inner l.frames));
}

abbrev pub decreases-loop-frame : goal.decreases-loop-frame
decreases-loop-frame g l = length (inner l.frames)
