use Rattle.std.proofs.Common.{sym}
use Rattle.wf_expr.proofs.Texts.{all_tokens, few_bytes, few_tokens, has_symbols}
use Rattle.wf_expr.proofs.source.text_symbols.Goals as goal

pub tokens-requires : goal.tokens-requires
tokens-requires c = few_bytes _ c.utf8.src (sym c.if-is_long.ensures)

pub symbols_of-requires-clause-range : goal.symbols_of-requires-clause-range
symbols_of-requires-clause-range c = few_tokens _ _ (few_bytes _ c.utf8.src (sym c.if-is_long.ensures)) c.in-Ok.ensures

pub symbols_of-requires-clause-tokens : goal.symbols_of-requires-clause-tokens
symbols_of-requires-clause-tokens c = all_tokens 0 _ _ c.in-Ok.ensures

pub returns-in_ok-symbols_of-in-Ok : goal.returns-in_ok-symbols_of-in-Ok
returns-in_ok-symbols_of-in-Ok c = has_symbols _ _ _ c.utf8.src (sym c.if-is_long.ensures) c.in-Ok.ensures c.in_ok-symbols_of-in-Ok.ensures
