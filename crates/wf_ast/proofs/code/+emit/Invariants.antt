use Rattle.std.proofs.Common.{◌≡◌, ◌++◌, drop, map}
use Rattle.wf_ast.specs.Tree.{exprs}
use Rattle.wf_ast.specs.View.{expr_view}
use Rattle.wf_ast.specs.Instrs.{instrs}
use Rattle.wf_ast.specs.Machine.{all_code}
use Rattle.wf_ast.proofs.code.+emit.Given as goal

-- what is written so far, and the code of what is left
abbrev pub invariant-emit_all-loop-e : goal.invariant-emit_all-loop-e
invariant-emit_all-loop-e l =
    instrs l.items.items ++ all_code (exprs (map expr_view (drop l.e-index l.es))) ≡ instrs l.fn.items.items ++ all_code (exprs (map expr_view l.es))
