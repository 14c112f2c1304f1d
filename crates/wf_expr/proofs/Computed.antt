-- The parser computes.
use Rattle.std.proofs.Common.{◌≡◌, pos, refl, codes}
use Rattle.std.specs.Prelude.{Ok, Err}
use Rattle.std.specs.Str.{chars}
use Rattle.wf_ast.specs.Tree.{Expr}
use Rattle.wf_ast.specs.declared.expr.Op.TheVariants as op
use Rattle.wf_expr.specs.Parser.{parse}
use Rattle.wf_expr.specs.declared.fault.ExprFault.TheVariants as fault
use Rattle.wf_span.specs.Lexer.{lex_within}
use Rattle.wf_value.specs.Data.{integer}

pub sum : parse (codes "a + 2 * b") ≡ Ok (Expr.Bin op.Add (Expr.Name (codes "a")) (Expr.Bin op.Mul (Expr.Lit (integer (pos 2))) (Expr.Name (codes "b"))))
unfolding parse lex_within chars
sum = refl

pub long : parse (codes "not (alpha.beta[gamma + 10] == \"a text of some length\" and len(delta) <= 12345678) or ") ≡ Err (fault.Syntax 86)
unfolding parse lex_within chars
long = refl
