use Rattle.std.proofs.Common.{◌+◌, ◌∷◌, option_map, drop, sym, ap, ◌∙◌, arith}
use Rattle.wf_expr.proofs.Next.{glued_next, none_next, plain_next, token_at, within}
use Rattle.wf_expr.specs.Symbols.{placed_symbols}
use Rattle.wf_span.specs.Lexed.{placed_token, token_list}
use Rattle.wf_expr.proofs.lexed.next_symbol.Goals as goal

pub returns-then-glued : goal.returns-then-glued
returns-then-glued c =
    let h = ap (option_map placed_token) (sym c.in-Some.is) ∙ c.get.ensures in
    let n = within (token_list c.args.tokens.now) c.args.i (placed_token c.in-Some.token) h in
    (glued_next (token_list c.args.tokens.now) c.args.i (placed_token c.in-Some.token) (option_map placed_token c.get-in-Some.result) (option_map placed_token c.get-in-Some-2.result) h c.get-in-Some.ensures c.get-in-Some-2.ensures (sym c.glued.ensures ∙ c.if-glued.true), omega (arith), n)

pub kind-requires : goal.kind-requires
kind-requires c = token_at (token_list c.args.tokens.now) c.args.i (placed_token c.in-Some.token) c.requires.tokens (ap (option_map placed_token) (sym c.in-Some.is) ∙ c.get.ensures)

pub overflow_add-result-in-Some : goal.overflow_add-result-in-Some
overflow_add-result-in-Some c =
    let n = within (token_list c.args.tokens.now) c.args.i (placed_token c.in-Some.token) (ap (option_map placed_token) (sym c.in-Some.is) ∙ c.get.ensures) in
    omega (arith, n, c.requires.range)

pub returns-in-None : goal.returns-in-None
returns-in-None c = none_next (token_list c.args.tokens.now) c.args.i (ap (option_map placed_token) (sym c.in-None.is) ∙ c.get.ensures)

pub returns-in_ok-kind-in-Some : goal.returns-in_ok-kind-in-Some
returns-in_ok-kind-in-Some c =
    let h = ap (option_map placed_token) (sym c.in-Some.is) ∙ c.get.ensures in
    let n = within (token_list c.args.tokens.now) c.args.i (placed_token c.in-Some.token) h in
    let p = plain_next (token_list c.args.tokens.now) c.args.i (placed_token c.in-Some.token) (option_map placed_token c.get-in-Some.result) (option_map placed_token c.get-in-Some-2.result) h c.get-in-Some.ensures c.get-in-Some-2.ensures (sym c.glued.ensures ∙ c.if-glued.false) in
    (p ∙ ap (λ s. record { sym = s; at = c.in-Some.token.at } ∷ placed_symbols (drop (c.args.i + 1) (token_list c.args.tokens.now))) (sym c.in_ok-kind-in-Some.ensures), omega (arith), n)
