use Rattle.std.proofs.Common.{◌≡◌, List, length}
use Rattle.wf_frames.specs.Frames.{inner}
use Rattle.wf_frames.specs.Owned.{beside, control_of}
use Rattle.wf_frames.specs.Stands.{Stands}
use Rattle.wf_model.specs.Config.{Item}
use Rattle.wf_model.specs.Local as local
use Rattle.wf_moves.proofs.finish.settle.Given as goal

abbrev pub ghost-leave : goal.ghost-leave
ghost-leave g a = g.around

abbrev pub invariant-loop-frame : goal.invariant-loop-frame
invariant-loop-frame g l = record {
  stands : Stands g.around l.nodes l.frames l.scopes;
  left : (c : List Item) → local.settle (control_of g.around l.fn.frames) (beside c g.around l.fn.frames l.fn.scopes) ≡ local.settle (control_of g.around l.frames) (beside c g.around l.frames l.scopes);
}

abbrev pub decreases-loop-frame : goal.decreases-loop-frame
decreases-loop-frame g l = length (inner l.frames)
