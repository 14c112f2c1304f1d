use Rattle.std.proofs.Common.{map, take}
use Rattle.wf_ast.specs.View.{expr_view}
use Rattle.wf_table.proofs.growing.places.Given as goal
use Rattle.wf_model.specs.Compiles.{Reads, code_list}

abbrev pub invariant-loop-place : goal.invariant-loop-place
invariant-loop-place l = Reads (code_list l.initial.codes) (code_list l.codes) (map expr_view (take l.place-index l.places))
