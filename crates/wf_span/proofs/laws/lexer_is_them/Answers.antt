use Rattle.wf_span.proofs.Lexing.{lexer_is_them}
use Rattle.wf_span.proofs.laws.lexer_is_them.Goals as goal

pub returns : goal.returns
returns c = lexer_is_them
