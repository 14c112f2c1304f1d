-- Where a source may be cut: behind an ASCII byte.
use Rattle.std.proofs.Common.{◌≡◌, ℕ, ◌<◌, List, [], ◌∷◌, ◌++◌, length, get_or, Bool, true, false, ◌==◌, refl, ap, subst, ◌∙◌, arith, append_assoc, length-append}
use Rattle.std.specs.List.{list_all}
use Rattle.std.specs.Str.{IsUtf8, IsCharBoundary}
use Rattle.std.proofs.Math.Seq.{get_or-append_seam}
use Rattle.std.proofs.lemmas.Str.{IsCharBoundary-after_ascii, IsCharBoundary-start}
use Rattle.std.proofs.lemmas.Bool.{eqb-true, false≢true}
use Rattle.wf_lemmas.proofs.Bools.{and_left, and_right}
use Rattle.wf_span.specs.Tokens.{is_blank, is_digit, is_letter, is_name_byte, is_quote, is_escaped, is_mark, is_closed, is_token}
use Rattle.wf_span.specs.Scans.{count_while}
use Rattle.wf_span.specs.declared.token.TokenKind.{TokenKind}
use Rattle.wf_span.specs.declared.token.TokenKind.TheVariants.{Name, Number, Text, Mark}
use Rattle.wf_span.proofs.Classes.{quote_ascii, blank_ascii, digit_ascii, letter_ascii, name_ascii, mark_ascii, pair_ascii}
use Rattle.wf_span.proofs.Texts.{closed_rest, closed_behind}
use Rattle.wf_span.proofs.Longest.{run}

-- the last byte is an ASCII character
abbrev pub EndsAscii : List ℕ → Type 0
EndsAscii bs = (front : List ℕ) × (last : ℕ) × (bs ≡ front ++ last ∷ []) × (last < 128)

longer : (c : ℕ) (bs : List ℕ) → EndsAscii bs → EndsAscii (c ∷ bs)
longer c bs x = (c ∷ x.0, x.1, ap (λ l. c ∷ l) x.2, x.3)

run_ends : (p : ℕ → Bool) → ((c : ℕ) → p c ≡ true → c < 128) → (c : ℕ) (r : List ℕ) → c < 128 → list_all p r ≡ true → EndsAscii (c ∷ r)
run_ends p small c [] h all = ([], c, refl, h)
run_ends p small c (d ∷ r) h all = longer c (d ∷ r) (run_ends p small d r (small d (and_left (p d) (list_all p r) all)) (and_right (p d) (list_all p r) all))

text_ends_by : (q c d : ℕ) (r : List ℕ) (s : Bool) → (c == 92) ≡ s → is_closed is_escaped q (c ∷ d ∷ r) ≡ true → (is_closed is_escaped q r ≡ true → EndsAscii r) → (is_closed is_escaped q (d ∷ r) ≡ true → EndsAscii (d ∷ r)) → EndsAscii (c ∷ d ∷ r)
text_ends_by q c d r true k h f g = longer c (d ∷ r) (longer d r (f (closed_behind is_escaped q c d r k h)))
text_ends_by q c d r false k h f g = longer c (d ∷ r) (g (closed_rest is_escaped q c d r k h))

text_ends : (q : ℕ) → q < 128 → (text : List ℕ) → is_closed is_escaped q text ≡ true → EndsAscii text
text_ends q small [] h = absurd (false≢true h)
text_ends q small (c ∷ []) h = ([], c, refl, omega (arith, eqb-true c q h, small))
text_ends q small (c ∷ d ∷ r) h = text_ends_by q c d r (c == 92) refl h (text_ends q small r) (text_ends q small (d ∷ r))

mark_ends : (text : List ℕ) → is_mark text ≡ true → EndsAscii text
mark_ends [] h = absurd (false≢true h)
mark_ends (c ∷ []) h = ([], c, refl, mark_ascii c h)
mark_ends (c ∷ d ∷ []) h = (c ∷ [], d, refl, pair_ascii c d h)
mark_ends (c ∷ d ∷ e ∷ r) h = absurd (false≢true h)

pub token_ends : (k : TokenKind) (text : List ℕ) → is_token k text ≡ true → EndsAscii text
token_ends Name [] h = absurd (false≢true h)
token_ends Number [] h = absurd (false≢true h)
token_ends Text [] h = absurd (false≢true h)
token_ends Mark [] h = absurd (false≢true h)
token_ends Name (c ∷ r) h = run_ends is_name_byte name_ascii c r (letter_ascii c (and_left (is_letter c) (list_all is_name_byte r) h)) (and_right (is_letter c) (list_all is_name_byte r) h)
token_ends Number (c ∷ r) h = run_ends is_digit digit_ascii c r (digit_ascii c (and_left (is_digit c) (list_all is_digit r) h)) (and_right (is_digit c) (list_all is_digit r) h)
token_ends Text (c ∷ r) h = longer c r (text_ends c (quote_ascii c (and_left (is_quote c) (is_closed is_escaped c r) h)) r (and_right (is_quote c) (is_closed is_escaped c r) h))
token_ends Mark (c ∷ r) h = mark_ends (c ∷ r) h

pub cut_behind : (bs text behind : List ℕ) → IsUtf8 bs → bs ≡ text ++ behind → EndsAscii text → IsCharBoundary bs (length text)
cut_behind bs text behind utf w x =
    let whole : bs ≡ x.0 ++ x.1 ∷ behind = w ∙ ap (λ t. t ++ behind) x.2 ∙ append_assoc x.0 (x.1 ∷ []) behind in
    let last : get_or bs (length x.0) 0 ≡ x.1 = ap (λ l. get_or l (length x.0) 0) whole ∙ get_or-append_seam x.0 x.1 behind 0 in
    subst (λ (n : ℕ). IsCharBoundary bs n) (omega (arith, ap length x.2, length-append x.0 (x.1 ∷ [])))
    (IsCharBoundary-after_ascii bs (length x.0) utf (omega (arith, ap length whole, length-append x.0 (x.1 ∷ behind))) (omega (arith, last, x.3)))

pub cut_blanks : (bs : List ℕ) → IsUtf8 bs → IsCharBoundary bs (count_while is_blank bs)
cut_blanks bs utf =
    let x = run is_blank bs in
    subst (λ (n : ℕ). IsCharBoundary bs n) x.4 (go x.0 x.1 x.2 x.3)
  where
    go : (text behind : List ℕ) → bs ≡ text ++ behind → list_all is_blank text ≡ true → IsCharBoundary bs (length text)
    go [] behind e all = IsCharBoundary-start bs utf
    go (c ∷ r) behind e all = cut_behind bs (c ∷ r) behind utf e (run_ends is_blank blank_ascii c r (blank_ascii c (and_left (is_blank c) (list_all is_blank r) all)) (and_right (is_blank c) (list_all is_blank r) all))
