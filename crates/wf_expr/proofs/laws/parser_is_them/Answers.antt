use Rattle.wf_expr.proofs.Parsed.{parser_is_them, target_parser_is_them}
use Rattle.wf_expr.proofs.laws.parser_is_them.Goals as goal

pub returns-clause-expression : goal.returns-clause-expression
returns-clause-expression c = parser_is_them

pub returns-clause-target : goal.returns-clause-target
returns-clause-target c = target_parser_is_them
