use Rattle.std.proofs.Common.{◌≡◌, ◌≤◌, Some, drop, length, map}
use Rattle.wf_ast.specs.View.{param_view}
use Rattle.wf_frames.specs.Bound.{bindings_of}
use Rattle.wf_model.specs.Calls.{given}
use Rattle.wf_value.specs.Data.{pairs_of}
use Rattle.wf_frames.proofs.bindings.Bindings.given.Given as goal

-- those behind this place are there
abbrev pub invariant-loop-at : goal.invariant-loop-at
invariant-loop-at l = record {
  given : given (map param_view (drop l.at l.params)) (pairs_of l.args) ≡ Some (bindings_of l.bindings);
  within : l.at ≤ length l.params;
}

abbrev pub decreases-loop-at : goal.decreases-loop-at
decreases-loop-at l = l.at
