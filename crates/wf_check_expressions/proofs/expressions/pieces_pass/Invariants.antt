use Rattle.std.proofs.Common.{◌≡◌, drop, map}
use Rattle.std.specs.List.{list_all}
use Rattle.wf_ast.specs.View.{part_view}
use Rattle.wf_check_expressions.proofs.expressions.pieces_pass.Given as goal
use Rattle.wf_check_expressions.specs.Expressions.{is_part_fine}
use Rattle.wf_check_expressions.specs.Tests.{sees}
use Rattle.wf_symbols.specs.Around.{layer_view}

-- what is left tells
abbrev pub invariant-loop-piece : goal.invariant-loop-piece
invariant-loop-piece l = list_all (is_part_fine (sees (map layer_view l.layers))) (map part_view l.pieces) ≡ list_all (is_part_fine (sees (map layer_view l.layers))) (map part_view (drop l.piece-index l.pieces))
