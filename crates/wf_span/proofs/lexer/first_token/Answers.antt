use Rattle.std.proofs.Common.{ℕ, refl, sym, ap, subst, ◌∙◌, arith}
use Rattle.std.specs.Str.{IsCharBoundary}
use Rattle.wf_span.specs.Tokens.{no_token, bad_escape, open_text}
use Rattle.wf_span.specs.Scans.{piece_at}
use Rattle.wf_span.specs.declared.piece.Begins.TheVariants as b
use Rattle.wf_span.proofs.Longest.{piece_is, longest_cut, escape_within}
use Rattle.wf_span.proofs.Boundaries.{token_ends, cut_behind}
use Rattle.wf_span.proofs.lexer.first_token.Goals as goal

pub split_at-requires : goal.split_at-requires
split_at-requires c =
    let m = piece_is c.args.source.now (b.Token c.in-Token.kind c.in-Token.length) c.requires.some c.requires.no_blank (sym c.in-Token.is ∙ c.piece.ensures ∙ ap piece_at c.as_bytes.ensures.value) in
    subst (λ (n : ℕ). IsCharBoundary c.args.source.now n) m.2 (cut_behind c.args.source.now m.0 m.1 c.utf8.source m.3.whole (token_ends c.in-Token.kind m.0 m.3.token))

pub overflow_cast-result : goal.overflow_cast-result
overflow_cast-result c =
    let m = piece_is c.args.source.now (b.Bad c.in-Bad.place) c.requires.some c.requires.no_blank (sym c.in-Bad.is ∙ c.piece.ensures ∙ ap piece_at c.as_bytes.ensures.value) in
    omega (arith, escape_within c.args.source.now c.in-Bad.place m, c.requires.range)

pub overflow_add-result : goal.overflow_add-result
overflow_add-result c =
    let m = piece_is c.args.source.now (b.Bad c.in-Bad.place) c.requires.some c.requires.no_blank (sym c.in-Bad.is ∙ c.piece.ensures ∙ ap piece_at c.as_bytes.ensures.value) in
    omega (arith, escape_within c.args.source.now c.in-Bad.place m, c.requires.range)

pub returns-in-Token : goal.returns-in-Token
returns-in-Token c =
    let m = piece_is c.args.source.now (b.Token c.in-Token.kind c.in-Token.length) c.requires.some c.requires.no_blank (sym c.in-Token.is ∙ c.piece.ensures ∙ ap piece_at c.as_bytes.ensures.value) in
    (refl, longest_cut c.args.source.now c.in-Token.kind c.in-Token.length c.split_at.result.0.now c.split_at.result.1.now m c.split_at.ensures.front c.split_at.ensures.back)

pub returns-in-Nothing : goal.returns-in-Nothing
returns-in-Nothing c = no_token (piece_is c.args.source.now b.Nothing c.requires.some c.requires.no_blank (sym c.in-Nothing.is ∙ c.piece.ensures ∙ ap piece_at c.as_bytes.ensures.value))

pub returns-in-Bad : goal.returns-in-Bad
returns-in-Bad c = bad_escape c.in-Bad.place (piece_is c.args.source.now (b.Bad c.in-Bad.place) c.requires.some c.requires.no_blank (sym c.in-Bad.is ∙ c.piece.ensures ∙ ap piece_at c.as_bytes.ensures.value))

pub returns-in-Open : goal.returns-in-Open
returns-in-Open c = open_text (piece_is c.args.source.now b.Open c.requires.some c.requires.no_blank (sym c.in-Open.is ∙ c.piece.ensures ∙ ap piece_at c.as_bytes.ensures.value))
