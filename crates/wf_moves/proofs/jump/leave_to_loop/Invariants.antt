use Rattle.std.proofs.Common.{◌≡◌, List, length}
use Rattle.wf_frames.specs.Fits.{Fits}
use Rattle.wf_frames.specs.Frames.{inner}
use Rattle.wf_frames.specs.Owned.{IsLinked, beside, control_of, held_by, own_of}
use Rattle.wf_model.specs.Config.{Item}
use Rattle.wf_model.specs.Unwind.{to_loop}
use Rattle.wf_model.specs.declared.node.Node.{Node}
use Rattle.wf_moves.proofs.jump.leave_to_loop.Given as goal

abbrev pub ghost-leave : goal.ghost-leave
ghost-leave g a = g.around

abbrev pub invariant-loop-frame : goal.invariant-loop-frame
invariant-loop-frame g l = record {
  linked : IsLinked g.around (own_of l.frames) l.scopes;
  outside : (held_by g.around l.frames l.scopes).outside ≡ (held_by g.around l.fn.frames l.fn.scopes).outside;
  fits : (nodes : List Node) → Fits g.around.spots nodes (inner l.fn.frames) → Fits g.around.spots nodes (inner l.frames);
  found : (c : List Item) → to_loop (control_of g.around l.fn.frames) (beside c g.around l.fn.frames l.fn.scopes) ≡ to_loop (control_of g.around l.frames) (beside c g.around l.frames l.scopes);
}

abbrev pub decreases-loop-frame : goal.decreases-loop-frame
decreases-loop-frame g l = length (inner l.frames)
