-- What begins at a place is the longest token there, or the fault.
use Rattle.std.proofs.Common.{◌≡◌, ℕ, suc, ◌<◌, ◌≤◌, List, [], ◌∷◌, ◌++◌, length, drop, take, Bool, true, false, ◌||◌, cond, refl, sym, ap, subst, ◌∙◌, arith, length-append}
use Rattle.std.specs.List.{list_all}
use Rattle.std.proofs.Math.Seq.{take-append_seam, drop-append_seam}
use Rattle.std.proofs.lemmas.Bool.{false≢true, and_from}
use Rattle.wf_lemmas.proofs.Bools.{and_left, and_right, clash, false_unless}
use Rattle.wf_span.specs.Tokens.{is_blank, is_digit, is_letter, is_name_byte, is_quote, is_escaped, is_mark, is_mark_byte, is_mark_pair, is_closed, is_token, IsLongest, IsNoToken, IsOpen, IsBadEscape}
use Rattle.wf_span.specs.Scans.{count_while, text_end, mark_of, text_piece, mark_piece, piece_at}
use Rattle.wf_span.specs.declared.token.TokenKind.{TokenKind}
use Rattle.wf_span.specs.declared.token.TokenKind.TheVariants.{Name, Number, Text, Mark}
use Rattle.wf_span.specs.declared.piece.Begins.{Begins}
use Rattle.wf_span.specs.declared.piece.Begins.TheVariants as b
use Rattle.wf_span.specs.declared.piece.TextEnd.{TextEnd}
use Rattle.wf_span.specs.declared.piece.TextEnd.TheVariants.{Closed, BadEscape, Open}
use Rattle.wf_span.proofs.Classes.{first, quote_no_digit, quote_no_letter, digit_no_letter, quote_no_mark, digit_no_mark, letter_no_mark, quote_no_pair, digit_no_pair, letter_no_pair, quote_no_slash}
use Rattle.wf_span.proofs.Texts.{Ends, ends, closed_once}

-- what a source begins with
abbrev pub Means : List ℕ → Begins → Type 0
Means source b.Nothing = IsNoToken source
Means source b.Open = IsOpen source
Means source (b.Bad n) = IsBadEscape source n
Means source (b.Token k n) = (text : List ℕ) × (behind : List ℕ) × (length text ≡ n) × IsLongest source k text behind

-- ## Runs

abbrev pub Run : (ℕ → Bool) → List ℕ → Type 0
Run p bs = (text : List ℕ) × (behind : List ℕ) × (bs ≡ text ++ behind) × (list_all p text ≡ true) × (length text ≡ count_while p bs)

run_by : (p : ℕ → Bool) (c : ℕ) (r : List ℕ) (t : Bool) → p c ≡ t → Run p r → (text : List ℕ) × (behind : List ℕ) × (c ∷ r ≡ text ++ behind) × (list_all p text ≡ true) × (length text ≡ cond t (suc (count_while p r)) 0)
run_by p c r true h x = (c ∷ x.0, x.1, ap (λ l. c ∷ l) x.2, and_from (p c) (list_all p x.0) h x.3, ap suc x.4)
run_by p c r false h x = ([], c ∷ r, refl, refl, refl)

pub run : (p : ℕ → Bool) (bs : List ℕ) → Run p bs
run p [] = ([], [], refl, refl, refl)
run p (c ∷ r) = run_by p c r (p c) refl (run p r)

run_most : (p : ℕ → Bool) (bs text more : List ℕ) → bs ≡ text ++ more → list_all p text ≡ true → length text ≤ count_while p bs
run_most p bs [] more e h = omega arith
run_most p [] (x ∷ t) more e h = absurd (omega (arith, ap length e))
run_most p (c ∷ r) (x ∷ t) more e h =
    let passes : p c ≡ true = ap p (ap first e) ∙ and_left (p x) (list_all p t) h in
    omega (arith, ap (λ s. cond s (suc (count_while p r)) 0) passes, run_most p r t more (ap (drop 1) e) (and_right (p x) (list_all p t) h))

-- ## Marks

pub no_mark_start : (c : ℕ) → is_mark_byte c ≡ false → ((d : ℕ) → is_mark_pair c d ≡ false) → (x : ℕ) (t : List ℕ) → c ≡ x → is_mark (x ∷ t) ≡ true → ⊥
no_mark_start c h k x [] e o = clash (is_mark_byte x) (ap is_mark_byte (sym e) ∙ h) o
no_mark_start c h k x (y ∷ []) e o = clash (is_mark_pair x y) (ap (λ z. is_mark_pair z y) (sym e) ∙ k y) o
no_mark_start c h k x (y ∷ z ∷ t) e o = absurd (false≢true o)

-- what begins with no quote, digit or letter is a mark
is_marked : (c : ℕ) → is_quote c ≡ false → is_digit c ≡ false → is_letter c ≡ false → (j : TokenKind) (x : ℕ) (t : List ℕ) → c ≡ x → is_token j (x ∷ t) ≡ true → is_mark (x ∷ t) ≡ true
is_marked c q d l Name x t e o = absurd (clash (is_letter c) l (ap is_letter e ∙ and_left (is_letter x) (list_all is_name_byte t) o))
is_marked c q d l Number x t e o = absurd (clash (is_digit c) d (ap is_digit e ∙ and_left (is_digit x) (list_all is_digit t) o))
is_marked c q d l Text x t e o = absurd (clash (is_quote c) q (ap is_quote e ∙ and_left (is_quote x) (is_closed is_escaped x t) o))
is_marked c q d l Mark x t e o = o

pub empty_token : (k : TokenKind) → is_token k [] ≡ false
empty_token Name = refl
empty_token Number = refl
empty_token Text = refl
empty_token Mark = refl

mark_one : (c : ℕ) (t : Bool) → is_blank c ≡ false → is_quote c ≡ false → is_digit c ≡ false → is_letter c ≡ false → is_mark_byte c ≡ t → Means (c ∷ []) (mark_piece (cond t 1 0))
mark_one c true w q d l h = (c ∷ [], [], refl, record { whole = refl; token = h; longest = λ j other more e o. omega (arith, ap length e, length-append other more) })
mark_one c false w q d l h = record { first = c; more = []; whole = refl; no_blank = w; no_quote = q; none = none }
  where
    none : (k : TokenKind) (text behind : List ℕ) → c ∷ [] ≡ text ++ behind → is_token k text ≡ false
    none k [] behind e = empty_token k
    none k (x ∷ []) behind e = false_unless (is_token k (x ∷ [])) (λ o. clash (is_mark_byte c) h (ap is_mark_byte (ap first e) ∙ is_marked c q d l k x [] (ap first e) o))
    none k (x ∷ y ∷ t) behind e = absurd (omega (arith, ap length e))

mark_two : (c n : ℕ) (r : List ℕ) (s t : Bool) → is_blank c ≡ false → is_quote c ≡ false → is_digit c ≡ false → is_letter c ≡ false → is_mark_pair c n ≡ s → is_mark_byte c ≡ t → Means (c ∷ n ∷ r) (mark_piece (cond s 2 (cond t 1 0)))
mark_two c n r true t w q d l p h = (c ∷ n ∷ [], r, refl, record { whole = refl; token = p; longest = longest })
  where
    longest : (j : TokenKind) (other more : List ℕ) → c ∷ n ∷ r ≡ other ++ more → is_token j other ≡ true → length other ≤ 2
    longest j [] more e o = omega arith
    longest j (x ∷ []) more e o = omega arith
    longest j (x ∷ y ∷ []) more e o = omega arith
    longest j (x ∷ y ∷ z ∷ k) more e o = absurd (false≢true (is_marked c q d l j x (y ∷ z ∷ k) (ap first e) o))
mark_two c n r false true w q d l p h = (c ∷ [], n ∷ r, refl, record { whole = refl; token = h; longest = longest })
  where
    longest : (j : TokenKind) (other more : List ℕ) → c ∷ n ∷ r ≡ other ++ more → is_token j other ≡ true → length other ≤ 1
    longest j [] more e o = omega arith
    longest j (x ∷ []) more e o = omega arith
    longest j (x ∷ y ∷ []) more e o = absurd (clash (is_mark_pair c n) p ((λ i. is_mark_pair (ap first e i) (ap first (ap (drop 1) e) i)) ∙ is_marked c q d l j x (y ∷ []) (ap first e) o))
    longest j (x ∷ y ∷ z ∷ k) more e o = absurd (false≢true (is_marked c q d l j x (y ∷ z ∷ k) (ap first e) o))
mark_two c n r false false w q d l p h = record { first = c; more = n ∷ r; whole = refl; no_blank = w; no_quote = q; none = none }
  where
    none : (k : TokenKind) (text behind : List ℕ) → c ∷ n ∷ r ≡ text ++ behind → is_token k text ≡ false
    none k [] behind e = empty_token k
    none k (x ∷ []) behind e = false_unless (is_token k (x ∷ [])) (λ o. clash (is_mark_byte c) h (ap is_mark_byte (ap first e) ∙ is_marked c q d l k x [] (ap first e) o))
    none k (x ∷ y ∷ []) behind e = false_unless (is_token k (x ∷ y ∷ [])) (λ o. clash (is_mark_pair c n) p ((λ i. is_mark_pair (ap first e i) (ap first (ap (drop 1) e) i)) ∙ is_marked c q d l k x (y ∷ []) (ap first e) o))
    none k (x ∷ y ∷ z ∷ t) behind e = false_unless (is_token k (x ∷ y ∷ z ∷ t)) (λ o. false≢true (is_marked c q d l k x (y ∷ z ∷ t) (ap first e) o))

mark_means : (c : ℕ) (r : List ℕ) → is_blank c ≡ false → is_quote c ≡ false → is_digit c ≡ false → is_letter c ≡ false → Means (c ∷ r) (mark_piece (mark_of (c ∷ r)))
mark_means c [] w q d l = mark_one c (is_mark_byte c) w q d l refl
mark_means c (n ∷ r) w q d l = mark_two c n r (is_mark_pair c n) (is_mark_byte c) w q d l refl refl

-- ## Numbers and names

longest_number : (c : ℕ) (r : List ℕ) → is_digit c ≡ true → (j : TokenKind) (other more : List ℕ) → c ∷ r ≡ other ++ more → is_token j other ≡ true → length other ≤ suc (count_while is_digit r)
longest_number c r h j [] more e o = omega arith
longest_number c r h Name (x ∷ t) more e o = absurd (clash (is_letter c) (digit_no_letter c h) (ap is_letter (ap first e) ∙ and_left (is_letter x) (list_all is_name_byte t) o))
longest_number c r h Number (x ∷ t) more e o = omega (arith, run_most is_digit r t more (ap (drop 1) e) (and_right (is_digit x) (list_all is_digit t) o))
longest_number c r h Text (x ∷ t) more e o = absurd (clash (is_digit c) (quote_no_digit c (ap is_quote (ap first e) ∙ and_left (is_quote x) (is_closed is_escaped x t) o)) h)
longest_number c r h Mark (x ∷ t) more e o = absurd (no_mark_start c (digit_no_mark c h) (λ d. digit_no_pair c d h) x t (ap first e) o)

longest_name : (c : ℕ) (r : List ℕ) → is_quote c ≡ false → is_digit c ≡ false → is_letter c ≡ true → (j : TokenKind) (other more : List ℕ) → c ∷ r ≡ other ++ more → is_token j other ≡ true → length other ≤ suc (count_while is_name_byte r)
longest_name c r q d h j [] more e o = omega arith
longest_name c r q d h Name (x ∷ t) more e o = omega (arith, run_most is_name_byte r t more (ap (drop 1) e) (and_right (is_letter x) (list_all is_name_byte t) o))
longest_name c r q d h Number (x ∷ t) more e o = absurd (clash (is_digit c) d (ap is_digit (ap first e) ∙ and_left (is_digit x) (list_all is_digit t) o))
longest_name c r q d h Text (x ∷ t) more e o = absurd (clash (is_quote c) q (ap is_quote (ap first e) ∙ and_left (is_quote x) (is_closed is_escaped x t) o))
longest_name c r q d h Mark (x ∷ t) more e o = absurd (no_mark_start c (letter_no_mark c h) (λ n. letter_no_pair c n h) x t (ap first e) o)

number_means : (c : ℕ) (r : List ℕ) → is_digit c ≡ true → Means (c ∷ r) (b.Token Number (count_while is_digit (c ∷ r)))
number_means c r h =
    let x = run is_digit r in (
      c ∷ x.0,
      x.1,
      ap suc x.4 ∙ ap (λ t. cond t (suc (count_while is_digit r)) 0) (sym h),
      record { whole = ap (λ l. c ∷ l) x.2; token = and_from (is_digit c) (list_all is_digit x.0) h x.3; longest = λ j other more e o. omega (arith, x.4, longest_number c r h j other more e o) },
    )

name_means : (c : ℕ) (r : List ℕ) → is_quote c ≡ false → is_digit c ≡ false → is_letter c ≡ true → Means (c ∷ r) (b.Token Name (count_while is_name_byte (c ∷ r)))
name_means c r q d h =
    let x = run is_name_byte r in (
      c ∷ x.0,
      x.1,
      ap suc x.4 ∙ ap (λ t. cond (t || is_digit c) (suc (count_while is_name_byte r)) 0) (sym h),
      record { whole = ap (λ l. c ∷ l) x.2; token = and_from (is_letter c) (list_all is_name_byte x.0) h x.3; longest = λ j other more e o. omega (arith, x.4, longest_name c r q d h j other more e o) },
    )

-- ## Texts

longest_text : (c : ℕ) (r text behind : List ℕ) → is_quote c ≡ true → r ≡ text ++ behind → is_closed is_escaped c text ≡ true → (j : TokenKind) (other more : List ℕ) → c ∷ r ≡ other ++ more → is_token j other ≡ true → length other ≤ suc (length text)
longest_text c r text behind h w k j [] more e o = omega arith
longest_text c r text behind h w k Name (x ∷ t) more e o = absurd (clash (is_letter c) (quote_no_letter c h) (ap is_letter (ap first e) ∙ and_left (is_letter x) (list_all is_name_byte t) o))
longest_text c r text behind h w k Number (x ∷ t) more e o = absurd (clash (is_digit c) (quote_no_digit c h) (ap is_digit (ap first e) ∙ and_left (is_digit x) (list_all is_digit t) o))
longest_text c r text behind h w k Text (x ∷ t) more e o =
    omega (arith, closed_once c text t behind more (quote_no_slash c h) (sym w ∙ ap (drop 1) e) k (ap (λ z. is_closed is_escaped z t) (ap first e) ∙ and_right (is_quote x) (is_closed is_escaped x t) o))
longest_text c r text behind h w k Mark (x ∷ t) more e o = absurd (no_mark_start c (quote_no_mark c h) (λ d. quote_no_pair c d h) x t (ap first e) o)

text_means : (c : ℕ) (r : List ℕ) (end : TextEnd) → is_quote c ≡ true → Ends c 1 r end → Means (c ∷ r) (text_piece end)
text_means c r (Closed n) h x = (
  c ∷ x.0,
  x.1,
  omega (arith, x.4),
  record { whole = ap (λ l. c ∷ l) x.2; token = and_from (is_quote c) (is_closed is_escaped c x.0) h x.3; longest = longest_text c r x.0 x.1 h x.2 x.3 },
)
text_means c r (BadEscape n) h x = record {
  quote = c;
  before = x.0;
  escaped = x.1;
  after = x.2;
  behind = x.3;
  whole = ap (λ l. c ∷ l) x.4;
  place = omega (arith, x.5);
  fine_before = and_from (is_quote c) (is_closed is_escaped c (x.0 ++ c ∷ [])) h x.6;
  bad = x.7;
  closed = x.8;
}
text_means c r Open h x = record { quote = c; more = r; whole = refl; quoted = h; unclosed = x }

-- ## All

piece_by : (c : ℕ) (r : List ℕ) (q d l : Bool) → is_blank c ≡ false → is_quote c ≡ q → is_digit c ≡ d → is_letter c ≡ l → Means (c ∷ r) (cond q (text_piece (text_end c r)) (cond d (b.Token Number (count_while is_digit (c ∷ r))) (cond l (b.Token Name (count_while is_name_byte (c ∷ r))) (mark_piece (mark_of (c ∷ r))))))
piece_by c r true d l w e f g = text_means c r (text_end c r) e (ends c 1 r)
piece_by c r false true l w e f g = number_means c r f
piece_by c r false false true w e f g = name_means c r e f g
piece_by c r false false false w e f g = mark_means c r w e f g

pub piece_means : (c : ℕ) (r : List ℕ) → is_blank c ≡ false → Means (c ∷ r) (piece_at (c ∷ r))
piece_means c r w = piece_by c r (is_quote c) (is_digit c) (is_letter c) w refl refl refl

blank_at_start : (c : ℕ) (r : List ℕ) → count_while is_blank (c ∷ r) ≡ 0 → is_blank c ≡ false
blank_at_start c r h = go (is_blank c) h
  where
    go : (t : Bool) → cond t (suc (count_while is_blank r)) 0 ≡ 0 → t ≡ false
    go true k = absurd (omega (arith, k))
    go false k = refl

-- what begins where no blank stands
pub piece_is : (bs : List ℕ) (p : Begins) → 0 < length bs → count_while is_blank bs ≡ 0 → p ≡ piece_at bs → Means bs p
piece_is [] p some w e = absurd (omega (arith, some))
piece_is (c ∷ r) p some w e = subst (λ (x : Begins). Means (c ∷ r) x) (sym e) (piece_means c r (blank_at_start c r w))

-- the same where the source is cut at that length
pub longest_cut : (source : List ℕ) (k : TokenKind) (n : ℕ) (front back : List ℕ) → Means source (b.Token k n) → front ≡ take n source → back ≡ drop n source → IsLongest source k front back
longest_cut source k n front back m e f =
    let text : m.0 ≡ front = sym (take-append_seam m.0 m.1) ∙ ap (λ s. take (length m.0) s) (sym m.3.whole) ∙ ap (λ i. take i source) m.2 ∙ sym e in
    let behind : m.1 ≡ back = sym (drop-append_seam m.0 m.1) ∙ ap (λ s. drop (length m.0) s) (sym m.3.whole) ∙ ap (λ i. drop i source) m.2 ∙ sym f in
    subst (λ (x : List ℕ). IsLongest source k x back) text (subst (λ (y : List ℕ). IsLongest source k m.0 y) behind m.3)

-- the place of a bad escape is within the source
pub escape_within : (source : List ℕ) (n : ℕ) → IsBadEscape source n → n < length source
escape_within source n x = omega (arith, ap length x.whole, x.place, length-append x.before (92 ∷ x.escaped ∷ (x.after ++ x.behind)))
