use Rattle.std.proofs.Common.{◌≡◌, ◌||◌, drop, map}
use Rattle.wf_ast.specs.Blocks.{has_step}
use Rattle.wf_ast.specs.Tree.{steps}
use Rattle.wf_ast.specs.View.{step_view}
use Rattle.wf_symbols.proofs.tables.own_names.Given as goal
use Rattle.wf_symbols.specs.Names.{names_of}
use Rattle.wf_value.specs.HttpRequest.{is_among}
use Rattle.wf_value.specs.Pairs.{Text}

-- those so far and those of what is left are all
abbrev pub invariant-loop-step : goal.invariant-loop-step
invariant-loop-step l = (x : Text) → (has_step x (steps (map step_view (drop l.step-index l.step-items))) || is_among x (names_of l.names)) ≡ has_step x (steps (map step_view l.step-items))
