use Rattle.std.proofs.Common.{◌≡◌, map, take}
use Rattle.wf_ast.specs.View.{param_view, params_view}
use Rattle.wf_table.proofs.copies.params.Given as goal

abbrev pub invariant-loop-x : goal.invariant-loop-x
invariant-loop-x l = params_view l.copy ≡ map param_view (take l.x-index l.x-items)
