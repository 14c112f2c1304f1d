use Rattle.std.proofs.Common.{◌≡◌, drop, map}
use Rattle.wf_assigned.proofs.blocks.step_numbers.Given as goal
use Rattle.wf_assigned.specs.Edges.{number_in}
use Rattle.wf_assigned.specs.Numbers.{number_of}
use Rattle.wf_ast.specs.Tree as t
use Rattle.wf_ast.specs.View.{step_view}
use Rattle.wf_value.specs.HttpUrl.{first_of_two}
use Rattle.wf_value.specs.Pairs.{Text}

-- those so far, or else those that are left
abbrev pub invariant-loop-step : goal.invariant-loop-step
invariant-loop-step l = (x : Text) → first_of_two (number_of l.numbers x) (number_in x (t.steps (map step_view (drop l.step-index l.steps))) l.number) ≡ number_in x (t.steps (map step_view l.steps)) l.first
