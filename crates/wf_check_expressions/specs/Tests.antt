-- What is asked of each expression of a node.
use Rattle.std.specs.Prelude.{Bool, List}
use Rattle.std.specs.List.{list_all}
use Rattle.wf_ast.specs.Accept.{is_visible}
use Rattle.wf_ast.specs.Nodes.{Names}
use Rattle.wf_ast.specs.Reads.{expr_reads}
use Rattle.wf_ast.specs.Tree.{Expr}

-- each name that the expression reads is visible
abbrev pub sees : List Names → Expr → Bool
sees ls e = list_all (λ x. is_visible x ls) (expr_reads e)
