use Rattle.std.proofs.Common.{◌≡◌, ◌++◌, ◌-◌, drop, length, map}
use Rattle.wf_expr.specs.Kinds.{placed_of}
use Rattle.wf_expr.specs.Symbols.{placed_symbols}
use Rattle.wf_expr.proofs.lexed.symbols_of.Given as goal
use Rattle.wf_span.specs.Lexed.{token_list}

abbrev pub invariant-next : goal.invariant-next
invariant-next l = map placed_of l.symbols.items ++ placed_symbols (drop l.i (token_list l.tokens)) ≡ placed_symbols (token_list l.tokens)

abbrev pub decreases-next : goal.decreases-next
decreases-next l = length (token_list l.tokens) - l.i
