-- From a text to its tokens and symbols, and back.
use Rattle.std.proofs.Common.{◌≡◌, ◌<◌, ◌≤◌, ◌+◌, ◌*◌, ℕ, true, false, List, [], ◌∷◌, length, nat_lt, sym, ap, ◌∙◌, arith}
use Rattle.std.proofs.lemmas.Bool.{ltb-false, true≢false}
use Rattle.std.proofs.lemmas.List.{length-append}
use Rattle.std.proofs.lemmas.Str.{encodes-chars, length-encode, len_utf8_bounds}
use Rattle.std.specs.Char.{encode_utf8}
use Rattle.std.specs.List.{AllByRecursion}
use Rattle.std.specs.Str.{IsUtf8, chars, encode_utf8_all}
use Rattle.wf_expr.specs.Judging.{HasSymbols}
use Rattle.wf_expr.specs.Parsing.{IsShort}
use Rattle.wf_expr.specs.Symbols.{Placed, placed_symbols}
use Rattle.wf_expr.specs.Taking.{IsToken}
use Rattle.wf_span.specs.Tokens.{PlacedToken, TokensFrom, is_token}
use Rattle.wf_span.specs.declared.token.TokenKind.{TokenKind}
use Rattle.wf_value.specs.Pairs.{Text}

-- ## Tokens
pub all_tokens : (at : ℕ) (source : List ℕ) (ts : List PlacedToken) → TokensFrom at source ts → AllByRecursion IsToken ts
all_tokens at source [] h = tt
all_tokens at source (t ∷ ts) h = (h.1.longest.token, all_tokens (t.at + length t.text) h.0 ts h.2)

some_bytes : (k : TokenKind) (text : List ℕ) → is_token k text ≡ true → 0 < length text
some_bytes k [] h = absurd (true≢false (sym h))
some_bytes k (b ∷ r) h = omega arith

few : (at : ℕ) (source : List ℕ) (ts : List PlacedToken) → TokensFrom at source ts → length ts ≤ length source
few at source [] h = omega arith
few at source (t ∷ ts) h =
    let l = h.1 in
    let a = ap length l.whole ∙ length-append l.blanks l.after_blanks in
    let b = ap length l.longest.whole ∙ length-append t.text h.0 in
    let c = some_bytes t.kind t.text l.longest.token in
    let d = few (t.at + length t.text) h.0 ts h.2 in
    omega (arith, a, b, c, d)

pub few_tokens : (source : List ℕ) (ts : List PlacedToken) → length source < 4294967296 → TokensFrom 0 source ts → length ts < 4294967296
few_tokens source ts h k = let d = few 0 source ts k in omega (arith, h, d)

-- ## Characters
encoded_length : (cs : List ℕ) → length (encode_utf8_all cs) ≤ 4 * length cs
encoded_length [] = omega arith
encoded_length (c ∷ cs) =
    let a = length-append (encode_utf8 c) (encode_utf8_all cs) in
    let b = length-encode c in
    let d = (len_utf8_bounds c).1 in
    let e = encoded_length cs in
    omega (arith, a, b, d, e)

short_bytes : (bs : List ℕ) → IsUtf8 bs → IsShort bs → length bs < 4294967296
short_bytes bs u h =
    let a = ap length (encodes-chars bs u) in
    let b = encoded_length (chars bs) in
    omega (arith, a, b, h)

pub few_bytes : (bs : List ℕ) → IsUtf8 bs → nat_lt 400 (length (chars bs)) ≡ false → length bs < 4294967296
few_bytes bs u h = short_bytes bs u (ltb-false 400 (length (chars bs)) h)

-- ## Answers
pub has_symbols : (source : Text) (ts : List PlacedToken) (ps : List Placed) → IsUtf8 source → nat_lt 400 (length (chars source)) ≡ false → TokensFrom 0 source ts → ps ≡ placed_symbols ts → HasSymbols source ps
has_symbols source ts ps u h t e = record { short = ltb-false 400 (length (chars source)) h; range = few_bytes source u h; tokens = ts; lexed = t; read = e }
