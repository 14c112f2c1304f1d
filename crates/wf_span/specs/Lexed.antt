-- Tokens without where they lie in memory.
use Rattle.std.specs.Prelude.{List, map}
use Rattle.wf_span.specs.Tokens.{PlacedToken}
use Rattle.wf_span.specs.declared.token.Token.{Token}
use Rattle.wf_span.specs.declared.token.Tokens.{Tokens}

abbrev pub placed_token : Token → PlacedToken
placed_token t = record { kind = t.kind; text = t.text.now; at = t.at }

abbrev pub token_list : Tokens → List PlacedToken
token_list ts = map placed_token ts.items.items
