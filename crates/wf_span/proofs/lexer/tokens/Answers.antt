use Rattle.std.proofs.Common.{◌≡◌, ℕ, ◌+◌, ◌++◌, List, [], ◌∷◌, length, map, drop, sym, ap, subst, ◌∙◌, arith, append-nil, length-append, rules}
use Rattle.std.proofs.lemmas.Bool.{eqb-true}
use Rattle.std.proofs.lemmas.Result.{err_from_is_err_and}
use Rattle.std.specs.Str.{IsCharBoundary}
use Rattle.wf_span.specs.Tokens.{PlacedToken, TokensFrom, FaultFrom, FaultAt, IsLongest, Leads, is_blank}
use Rattle.wf_span.specs.Scans.{count_while}
use Rattle.wf_span.specs.Lexed.{placed_token}
use Rattle.wf_span.proofs.Boundaries.{cut_blanks}
use Rattle.wf_span.proofs.Sequence.{leads, no_blank_left, blanks_within, all_blank, fault_here, is_first, one_more}
use Rattle.wf_span.proofs.lexer.tokens.Goals as goal

pub split_at-requires : goal.split_at-requires
split_at-requires c =
    let n : c.blank_length-blanks.result ≡ count_while is_blank c.lex.rest.now = c.blank_length-blanks.ensures ∙ ap (count_while is_blank) c.as_bytes.ensures.value in
    subst (λ (i : ℕ). IsCharBoundary c.lex.rest.now i) (sym n) (cut_blanks c.lex.rest.now c.lex.invariant.utf8)

pub returns-then-is_empty : goal.returns-then-is_empty
returns-then-is_empty c =
    let n : c.blank_length-blanks.result ≡ count_while is_blank c.lex.rest.now = c.blank_length-blanks.ensures ∙ ap (count_while is_blank) c.as_bytes.ensures.value in
    let back : c.split_at.result.1.now ≡ drop (count_while is_blank c.lex.rest.now) c.lex.rest.now = c.split_at.ensures.back ∙ ap (λ i. drop i c.lex.rest.now) n in
    subst (λ (ts : List PlacedToken). TokensFrom 0 c.args.src.now ts) (append-nil (map placed_token c.lex.items.items)) (c.lex.invariant.kept [] (all_blank c.lex.rest.now (omega (arith, ap length back, eqb-true (length c.split_at.result.1.now) 0 (sym c.if-is_empty.ensures)))))

pub first_token-requires-clause-no_blank : goal.first_token-requires-clause-no_blank
first_token-requires-clause-no_blank c =
    let n : c.blank_length-blanks.result ≡ count_while is_blank c.lex.rest.now = c.blank_length-blanks.ensures ∙ ap (count_while is_blank) c.as_bytes.ensures.value in
    let back : c.split_at.result.1.now ≡ drop (count_while is_blank c.lex.rest.now) c.lex.rest.now = c.split_at.ensures.back ∙ ap (λ i. drop i c.lex.rest.now) n in
    ap (count_while is_blank) back ∙ no_blank_left c.lex.rest.now

pub returns-in_err-token : goal.returns-in_err-token
returns-in_err-token c =
    let n : c.blank_length-blanks.result ≡ count_while is_blank c.lex.rest.now = c.blank_length-blanks.ensures ∙ ap (count_while is_blank) c.as_bytes.ensures.value in
    let back : c.split_at.result.1.now ≡ drop (count_while is_blank c.lex.rest.now) c.lex.rest.now = c.split_at.ensures.back ∙ ap (λ i. drop i c.lex.rest.now) n in
    let here : FaultAt (c.lex.at + count_while is_blank c.lex.rest.now) (drop (count_while is_blank c.lex.rest.now) c.lex.rest.now) c.in_err-token.field-0.0 =
    subst (λ (i : ℕ). FaultAt (c.lex.at + i) (drop (count_while is_blank c.lex.rest.now) c.lex.rest.now) c.in_err-token.field-0.0) n (subst (λ (s : List ℕ). FaultAt (c.lex.at + c.blank_length-blanks.result) s c.in_err-token.field-0.0) back c.in_err-token.ensures) in
    let p = err_from_is_err_and c.from_residual.result c.from_residual.ensures.1 in
    rw (p.1, p.2) (is_first c.args.src.now (map placed_token c.lex.items.items ++ []) c.in_err-token.field-0.0 (c.lex.invariant.faults [] c.in_err-token.field-0.0 (fault_here c.lex.at c.lex.rest.now c.in_err-token.field-0.0 here)))

pub lex-preserved : goal.lex-preserved
lex-preserved c =
    let n : c.blank_length-blanks.result ≡ count_while is_blank c.lex.rest.now = c.blank_length-blanks.ensures ∙ ap (count_while is_blank) c.as_bytes.ensures.value in
    let back : c.split_at.result.1.now ≡ drop (count_while is_blank c.lex.rest.now) c.lex.rest.now = c.split_at.ensures.back ∙ ap (λ i. drop i c.lex.rest.now) n in
    let found = c.in_ok-token.ensures in
    let t : PlacedToken = placed_token c.in_ok-token.token in
    let lead : Leads c.lex.at c.lex.rest.now t c.in_ok-token.behind.now = leads c.lex.at c.lex.rest.now t c.in_ok-token.behind.now (found.0 ∙ ap (λ i. c.lex.at + i) n) (subst (λ (s : List ℕ). IsLongest s t.kind t.text c.in_ok-token.behind.now) back found.1) in
    let more : c.push.new.self.items ≡ c.lex.items.items ++ c.in_ok-token.token ∷ [] = search rules in
    let after : (ts : List PlacedToken) → map placed_token c.push.new.self.items ++ ts ≡ map placed_token c.lex.items.items ++ t ∷ ts = λ ts. ap (λ l. map placed_token l ++ ts) more ∙ one_more c.lex.items.items c.in_ok-token.token ts in
    record {
      utf8 = search rules;
      place = omega (arith, c.lex.invariant.place, n, blanks_within c.lex.rest.now, ap length back, ap length found.1.whole, length-append t.text c.in_ok-token.behind.now);
      kept = λ ts h. subst (λ (l : List PlacedToken). TokensFrom 0 c.args.src.now l) (sym (after ts)) (c.lex.invariant.kept (t ∷ ts) (c.in_ok-token.behind.now, lead, subst (λ (i : ℕ). TokensFrom (i + length t.text) c.in_ok-token.behind.now ts) (sym found.0) h));
      faults = λ ts fault h. subst (λ (l : List PlacedToken). FaultFrom 0 c.args.src.now l fault) (sym (after ts)) (c.lex.invariant.faults (t ∷ ts) fault (c.in_ok-token.behind.now, lead, subst (λ (i : ℕ). FaultFrom (i + length t.text) c.in_ok-token.behind.now ts fault) (sym found.0) h));
    }
