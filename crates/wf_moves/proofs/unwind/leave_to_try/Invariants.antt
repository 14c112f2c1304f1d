use Rattle.std.proofs.Common.{◌≡◌, ◌≤◌, List, length}
use Rattle.wf_frames.specs.Fits.{Fits}
use Rattle.wf_frames.specs.Frames.{inner}
use Rattle.wf_frames.specs.Owned.{IsLinked, beside, control_of, own_of}
use Rattle.wf_model.specs.Config.{Item}
use Rattle.wf_model.specs.Local.{Scene}
use Rattle.wf_model.specs.Unwind.{unwind}
use Rattle.wf_model.specs.declared.node.Node.{Node}
use Rattle.wf_value.specs.Data.{Data}
use Rattle.wf_moves.proofs.unwind.leave_to_try.Given as goal

abbrev pub ghost-leave : goal.ghost-leave
ghost-leave g a = g.around

abbrev pub invariant-loop-frame : goal.invariant-loop-frame
invariant-loop-frame g l = record {
  linked : IsLinked g.around (own_of l.frames) l.scopes;
  found : (s : Scene) (c : List Item) (e : Data) → unwind s (control_of g.around l.fn.frames) (beside c g.around l.fn.frames l.fn.scopes) e ≡ unwind s (control_of g.around l.frames) (beside c g.around l.frames l.scopes) e;
  fits : (nodes : List Node) → Fits g.around.spots nodes (inner l.fn.frames) → Fits g.around.spots nodes (inner l.frames);
  fewer : length (inner l.frames) ≤ length (inner l.fn.frames);
}

abbrev pub decreases-loop-frame : goal.decreases-loop-frame
decreases-loop-frame g l = length (inner l.frames)
