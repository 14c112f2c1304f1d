-- The program of a tree computes.
use Rattle.std.proofs.Common.{◌≡◌, pos, [], ◌∷◌, None, codes, refl}
use Rattle.std.specs.Prelude.{Ok, Err}
use Rattle.std.specs.Str.{chars}
use Rattle.wf_ast.specs.Tree as t
use Rattle.wf_ast.specs.declared.expr.Op.TheVariants as op
use Rattle.wf_expr.specs.Parser.{parse, parse_target}
use Rattle.wf_expr.specs.declared.fault.ExprFault.TheVariants as fault
use Rattle.wf_syntax_rules.specs.Built.{built}
use Rattle.wf_syntax_rules.specs.First.{fault_within}
use Rattle.wf_syntax_rules.specs.Made.{body_within}
use Rattle.wf_syntax_rules.specs.Rows.{one, source, in_step}
use Rattle.wf_syntax_rules.specs.declared.fault.SyntaxKind.TheVariants.{Expression}
use Rattle.wf_span.specs.Lexer.{lex_within}
use Rattle.wf_expr.specs.Templates.{template_of}
use Rattle.wf_tree.specs.Trees.{text}
use Rattle.wf_value.specs.Data as values
use Rattle.wf_value.specs.declared.path.PathPart.TheVariants.{Key}

abbrev flow : t.Body → t.Program
flow b = record { flows = record { name = codes "main"; params = []; steps = t.more (t.step (codes "a") b None) t.no_steps } ∷ [] }

pub returns_sum : built (source (one (codes "return") (text (codes "${x + 1}")))) ≡ Ok (flow (t.Body.Return (t.Whole (t.Bin op.Add (t.Name (codes "x")) (t.Lit (values.integer (pos 1)))))))
unfolding built fault_within body_within template_of parse parse_target lex_within chars
returns_sum = refl

pub returns_nothing : built (source (one (codes "return") (text (codes "${x +}")))) ≡ Err (Expression (fault.Syntax 3), in_step (Key (codes "return") ∷ []))
unfolding built fault_within body_within template_of parse parse_target lex_within chars
returns_nothing = refl
