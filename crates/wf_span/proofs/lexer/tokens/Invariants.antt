use Rattle.std.proofs.Common.{◌≡◌, ◌+◌, ◌++◌, List, length, map}
use denote.Text.{Utf8}
use denote.Shadow.{shadow}
use Rattle.wf_span.specs.declared.token.LexFault.{LexFault}
use Rattle.wf_span.specs.Tokens.{PlacedToken, TokensFrom, FaultFrom}
use Rattle.wf_span.specs.Lexed.{placed_token}
use Rattle.wf_span.proofs.lexer.tokens.Given as goal

-- whatever tokens follow here, and whatever fault, follow the tokens so far in the source
abbrev pub invariant-lex : goal.invariant-lex
invariant-lex l = record {
  utf8 : shadow (Utf8 l.rest);
  place : l.at + length l.rest ≡ length l.fn.src;
  kept : (ts : List PlacedToken) → TokensFrom l.at l.rest ts → TokensFrom 0 l.fn.src (map placed_token l.items.items ++ ts);
  faults : (ts : List PlacedToken) (fault : LexFault) → FaultFrom l.at l.rest ts fault → FaultFrom 0 l.fn.src (map placed_token l.items.items ++ ts) fault;
}

abbrev pub decreases-lex : goal.decreases-lex
decreases-lex l = length l.rest
