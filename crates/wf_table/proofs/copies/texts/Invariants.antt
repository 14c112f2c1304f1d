use Rattle.std.proofs.Common.{◌≡◌, take}
use Rattle.wf_ast.specs.View.{texts_view}
use Rattle.wf_table.proofs.copies.texts.Given as goal

abbrev pub invariant-loop-x : goal.invariant-loop-x
invariant-loop-x l = texts_view l.copy ≡ take l.x-index l.x-items
