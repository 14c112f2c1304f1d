-- A source has one list of tokens or one first fault, and not both.
use Rattle.std.proofs.Common.{◌≡◌, ℕ, suc, ◌+◌, ◌<◌, ◌≤◌, List, [], ◌∷◌, ◌++◌, length, take, drop, Bool, true, false, not, ◌&&◌, cond, ◌==◌, refl, sym, ap, subst, ◌∙◌, arith, append_assoc, append-nil}
use Rattle.std.specs.List.{list_all}
use Rattle.std.proofs.Math.Seq.{take-append_seam, drop-append_seam}
use Rattle.std.proofs.lemmas.Bool.{eqb-true, false≢true, and_from, not-true}
use Rattle.wf_lemmas.proofs.Bools.{and_left, and_right, clash, false_unless}
use Rattle.wf_span.specs.Tokens.{PlacedToken, Leads, IsLongest, TokensFrom, FaultFrom, FaultAt, no_token, bad_escape, open_text, IsNoToken, IsOpen, IsBadEscape, is_blank, is_digit, is_letter, is_name_byte, is_quote, is_escaped, is_mark_pair, is_closed, any, is_token}
use Rattle.wf_span.specs.Laws.{TokensAreOne}
use Rattle.wf_span.specs.Scans.{count_while}
use Rattle.wf_span.specs.declared.token.TokenKind.{TokenKind}
use Rattle.wf_span.specs.declared.token.TokenKind.TheVariants.{Name, Number, Text, Mark}
use Rattle.wf_span.specs.declared.token.LexFault.{LexFault}
use Rattle.wf_span.specs.declared.token.LexFault.TheVariants.{BadCharacter}
use Rattle.wf_span.proofs.Classes.{first, marks, not_in, quote_no_digit, quote_no_letter, digit_no_letter, quote_no_mark, digit_no_mark, letter_no_mark, quote_no_pair, digit_no_pair, letter_no_pair, quote_no_slash, same_self}
use Rattle.wf_span.proofs.Texts.{closed_plain, closed_escape, closed_rest, closed_behind}
use Rattle.wf_span.proofs.Longest.{no_mark_start, empty_token}

-- ## Kinds

name_or_number : (c : ℕ) (r : List ℕ) → is_token Name (c ∷ r) ≡ true → is_token Number (c ∷ r) ≡ true → ⊥
name_or_number c r h o = clash (is_letter c) (digit_no_letter c (and_left (is_digit c) (list_all is_digit r) o)) (and_left (is_letter c) (list_all is_name_byte r) h)

name_or_text : (c : ℕ) (r : List ℕ) → is_token Name (c ∷ r) ≡ true → is_token Text (c ∷ r) ≡ true → ⊥
name_or_text c r h o = clash (is_letter c) (quote_no_letter c (and_left (is_quote c) (is_closed is_escaped c r) o)) (and_left (is_letter c) (list_all is_name_byte r) h)

name_or_mark : (c : ℕ) (r : List ℕ) → is_token Name (c ∷ r) ≡ true → is_token Mark (c ∷ r) ≡ true → ⊥
name_or_mark c r h o = let l = and_left (is_letter c) (list_all is_name_byte r) h in no_mark_start c (letter_no_mark c l) (λ d. letter_no_pair c d l) c r refl o

number_or_text : (c : ℕ) (r : List ℕ) → is_token Number (c ∷ r) ≡ true → is_token Text (c ∷ r) ≡ true → ⊥
number_or_text c r h o = clash (is_digit c) (quote_no_digit c (and_left (is_quote c) (is_closed is_escaped c r) o)) (and_left (is_digit c) (list_all is_digit r) h)

number_or_mark : (c : ℕ) (r : List ℕ) → is_token Number (c ∷ r) ≡ true → is_token Mark (c ∷ r) ≡ true → ⊥
number_or_mark c r h o = let d = and_left (is_digit c) (list_all is_digit r) h in no_mark_start c (digit_no_mark c d) (λ n. digit_no_pair c n d) c r refl o

text_or_mark : (c : ℕ) (r : List ℕ) → is_token Text (c ∷ r) ≡ true → is_token Mark (c ∷ r) ≡ true → ⊥
text_or_mark c r h o = let q = and_left (is_quote c) (is_closed is_escaped c r) h in no_mark_start c (quote_no_mark c q) (λ d. quote_no_pair c d q) c r refl o

same_kind : (k j : TokenKind) (text : List ℕ) → is_token k text ≡ true → is_token j text ≡ true → k ≡ j
same_kind k j [] h o = absurd (clash (is_token k []) (empty_token k) h)
same_kind Name Name (c ∷ r) h o = refl
same_kind Name Number (c ∷ r) h o = absurd (name_or_number c r h o)
same_kind Name Text (c ∷ r) h o = absurd (name_or_text c r h o)
same_kind Name Mark (c ∷ r) h o = absurd (name_or_mark c r h o)
same_kind Number Name (c ∷ r) h o = absurd (name_or_number c r o h)
same_kind Number Number (c ∷ r) h o = refl
same_kind Number Text (c ∷ r) h o = absurd (number_or_text c r h o)
same_kind Number Mark (c ∷ r) h o = absurd (number_or_mark c r h o)
same_kind Text Name (c ∷ r) h o = absurd (name_or_text c r o h)
same_kind Text Number (c ∷ r) h o = absurd (number_or_text c r o h)
same_kind Text Text (c ∷ r) h o = refl
same_kind Text Mark (c ∷ r) h o = absurd (text_or_mark c r h o)
same_kind Mark Name (c ∷ r) h o = absurd (name_or_mark c r o h)
same_kind Mark Number (c ∷ r) h o = absurd (number_or_mark c r o h)
same_kind Mark Text (c ∷ r) h o = absurd (text_or_mark c r o h)
same_kind Mark Mark (c ∷ r) h o = refl

-- what begins with a quote is a text
is_quoted : (k : TokenKind) (c : ℕ) (r : List ℕ) → is_quote c ≡ true → is_token k (c ∷ r) ≡ true → is_closed is_escaped c r ≡ true
is_quoted Name c r q h = absurd (clash (is_letter c) (quote_no_letter c q) (and_left (is_letter c) (list_all is_name_byte r) h))
is_quoted Number c r q h = absurd (clash (is_digit c) (quote_no_digit c q) (and_left (is_digit c) (list_all is_digit r) h))
is_quoted Text c r q h = and_right (is_quote c) (is_closed is_escaped c r) h
is_quoted Mark c r q h = absurd (no_mark_start c (quote_no_mark c q) (λ d. quote_no_pair c d q) c r refl h)

record SameToken (k j : TokenKind) (text other behind more : List ℕ) : Type 0 where
  kinds : k ≡ j
  texts : text ≡ other
  rests : behind ≡ more

same_token : (source : List ℕ) (k j : TokenKind) (text other behind more : List ℕ) → IsLongest source k text behind → IsLongest source j other more → SameToken k j text other behind more
same_token source k j text other behind more x y =
    let le = x.longest j other more y.whole y.token in
    let ge = y.longest k text behind x.whole x.token in
    let len : length text ≡ length other = omega (arith, le, ge) in
    let texts : text ≡ other = sym (take-append_seam text behind) ∙ ap (take (length text)) (sym x.whole) ∙ ap (λ n. take n source) len ∙ ap (take (length other)) y.whole ∙ take-append_seam other more in
    record {
      kinds = same_kind k j other (ap (is_token k) (sym texts) ∙ x.token) y.token;
      texts = texts;
      rests = sym (drop-append_seam text behind) ∙ ap (drop (length text)) (sym x.whole) ∙ ap (λ n. drop n source) len ∙ ap (drop (length other)) y.whole ∙ drop-append_seam other more;
    }

-- ## Texts and bad escapes

plain_or_any : (q c d : ℕ) (r : List ℕ) (s : Bool) → (c == 92) ≡ s → is_closed is_escaped q (c ∷ d ∷ r) ≡ true → (is_closed is_escaped q r ≡ true → is_closed any q r ≡ true) → (is_closed is_escaped q (d ∷ r) ≡ true → is_closed any q (d ∷ r) ≡ true) → is_closed any q (c ∷ d ∷ r) ≡ true
plain_or_any q c d r true k h f g = closed_escape any q c d r k ∙ f (closed_behind is_escaped q c d r k h)
plain_or_any q c d r false k h f g =
    ap (λ t. cond t (is_closed any q r) (not (c == q) && is_closed any q (d ∷ r))) k
    ∙ and_from (not (c == q)) (is_closed any q (d ∷ r)) (and_left (not (c == q)) (is_closed is_escaped q (d ∷ r)) (sym (ap (λ t. cond t (is_escaped d && is_closed is_escaped q r) (not (c == q) && is_closed is_escaped q (d ∷ r))) k) ∙ h)) (g (closed_rest is_escaped q c d r k h))

closed_any : (q : ℕ) (text : List ℕ) → is_closed is_escaped q text ≡ true → is_closed any q text ≡ true
closed_any q [] h = h
closed_any q (c ∷ []) h = h
closed_any q (c ∷ d ∷ r) h = plain_or_any q c d r (c == 92) refl h (closed_any q r) (closed_any q (d ∷ r))

-- what stands before a bad escape, closed there
abbrev IsFine : ℕ → List ℕ → Type 0
IsFine q before = is_closed is_escaped q (before ++ q ∷ []) ≡ true

no_lone_slash : (q c : ℕ) → (c == 92) ≡ true → is_closed is_escaped q (c ∷ q ∷ []) ≡ true → ⊥
no_lone_slash q c k h = false≢true (and_right (is_escaped q) false (sym (closed_escape is_escaped q c q [] k) ∙ h))

fine_rest : (q c : ℕ) (b : List ℕ) → (c == 92) ≡ false → IsFine q (c ∷ b) → IsFine q b
fine_rest q c [] k h = same_self q
fine_rest q c (d ∷ b) k h = closed_rest is_escaped q c d (b ++ q ∷ []) k h

no_quote_in : (q c d : ℕ) (r : List ℕ) → (c == 92) ≡ false → is_closed is_escaped q (c ∷ d ∷ r) ≡ true → (c == q) ≡ false
no_quote_in q c d r k h = not-true (c == q) (and_left (not (c == q)) (is_closed is_escaped q (d ∷ r)) (sym (ap (λ t. cond t (is_escaped d && is_closed is_escaped q r) (not (c == q) && is_closed is_escaped q (d ∷ r))) k) ∙ h))

fine_plain : (q c : ℕ) (b : List ℕ) → (c == 92) ≡ false → IsFine q (c ∷ b) → (c == q) ≡ false
fine_plain q c [] k h = no_quote_in q c q [] k h
fine_plain q c (d ∷ b) k h = no_quote_in q c d (b ++ q ∷ []) k h

slash_no_quote : (q x : ℕ) → (q == 92) ≡ false → (x == 92) ≡ true → (x == q) ≡ true → ⊥
slash_no_quote q x s k h = clash (x == 92) (ap (λ z. z == 92) (eqb-true x q h) ∙ s) k

-- no text goes over a bad escape
over_bad : (q : ℕ) → (q == 92) ≡ false → (e : ℕ) → is_escaped e ≡ false → (before rest text behind : List ℕ) → IsFine q before → before ++ 92 ∷ e ∷ rest ≡ text ++ behind → is_closed is_escaped q text ≡ true → ⊥
over_bad q s e bad before rest [] behind f w h = false≢true h
over_bad q s e bad [] rest (x ∷ []) behind f w h = slash_no_quote q x s (ap (λ z. z == 92) (sym (ap first w))) h
over_bad q s e bad [] rest (x ∷ y ∷ t) behind f w h =
    clash (is_escaped y) (ap is_escaped (sym (ap first (ap (drop 1) w))) ∙ bad) (and_left (is_escaped y) (is_closed is_escaped q t) (sym (closed_escape is_escaped q x y t (ap (λ z. z == 92) (sym (ap first w)))) ∙ h))
over_bad q s e bad (c ∷ []) rest (x ∷ t) behind f w h = go (c == 92) refl t (over_bad q s e bad [] rest t behind (same_self q) (ap (drop 1) w)) h
  where
    go : (k : Bool) → (c == 92) ≡ k → (t : List ℕ) → (is_closed is_escaped q t ≡ true → ⊥) → is_closed is_escaped q (x ∷ t) ≡ true → ⊥
    go true k t g h = no_lone_slash q c k f
    go false k [] g h = clash (x == q) (ap (λ z. z == q) (sym (ap first w)) ∙ fine_plain q c [] k f) h
    go false k (y ∷ t) g h = g (closed_rest is_escaped q x y t (ap (λ z. z == 92) (sym (ap first w)) ∙ k) h)
over_bad q s e bad (c ∷ d ∷ b) rest (x ∷ []) behind f w h = go (c == 92) refl
  where
    go : (k : Bool) → (c == 92) ≡ k → ⊥
    go true k = slash_no_quote q x s (ap (λ z. z == 92) (sym (ap first w)) ∙ k) h
    go false k = clash (x == q) (ap (λ z. z == q) (sym (ap first w)) ∙ fine_plain q c (d ∷ b) k f) h
over_bad q s e bad (c ∷ d ∷ b) rest (x ∷ y ∷ t) behind f w h = go (c == 92) refl (λ g. over_bad q s e bad b rest t behind g (ap (drop 2) w)) (λ g. over_bad q s e bad (d ∷ b) rest (y ∷ t) behind g (ap (drop 1) w))
  where
    go : (k : Bool) → (c == 92) ≡ k → (IsFine q b → is_closed is_escaped q t ≡ true → ⊥) → (IsFine q (d ∷ b) → is_closed is_escaped q (y ∷ t) ≡ true → ⊥) → ⊥
    go true k g i = g (closed_behind is_escaped q c d (b ++ q ∷ []) k f) (closed_behind is_escaped q x y t (ap (λ z. z == 92) (sym (ap first w)) ∙ k) h)
    go false k g i = i (fine_rest q c (d ∷ b) k f) (closed_rest is_escaped q x y t (ap (λ z. z == 92) (sym (ap first w)) ∙ k) h)

-- a text with a bad escape is closed
bad_closed : (q e : ℕ) (before after : List ℕ) → IsFine q before → is_closed any q after ≡ true → is_closed any q (before ++ 92 ∷ e ∷ after) ≡ true
bad_closed q e [] after f h = h
bad_closed q e (c ∷ []) after f h = go (c == 92) refl
  where
    go : (k : Bool) → (c == 92) ≡ k → is_closed any q (c ∷ 92 ∷ e ∷ after) ≡ true
    go true k = absurd (no_lone_slash q c k f)
    go false k = closed_plain any q c (92 ∷ e ∷ after) (fine_plain q c [] k f) k ∙ h
bad_closed q e (c ∷ d ∷ b) after f h = go (c == 92) refl (λ g. bad_closed q e b after g h) (λ g. bad_closed q e (d ∷ b) after g h)
  where
    go : (k : Bool) → (c == 92) ≡ k → (IsFine q b → is_closed any q (b ++ 92 ∷ e ∷ after) ≡ true) → (IsFine q (d ∷ b) → is_closed any q (d ∷ (b ++ 92 ∷ e ∷ after)) ≡ true) → is_closed any q (c ∷ d ∷ (b ++ 92 ∷ e ∷ after)) ≡ true
    go true k g i = closed_escape any q c d (b ++ 92 ∷ e ∷ after) k ∙ g (closed_behind is_escaped q c d (b ++ q ∷ []) k f)
    go false k g i = closed_plain any q c (d ∷ (b ++ 92 ∷ e ∷ after)) (fine_plain q c (d ∷ b) k f) k ∙ i (fine_rest q c (d ∷ b) k f)

-- the first bad escape isn't before another first one
not_before : (q e g : ℕ) → is_escaped e ≡ false → (before rest other more : List ℕ) → IsFine q before → IsFine q other → before ++ 92 ∷ e ∷ rest ≡ other ++ 92 ∷ g ∷ more → length other ≤ length before
not_before q e g bad before rest [] more f o w = omega arith
not_before q e g bad [] rest (x ∷ []) more f o w = absurd (no_lone_slash q x (ap (λ z. z == 92) (sym (ap first w))) o)
not_before q e g bad [] rest (x ∷ y ∷ t) more f o w =
    absurd (clash (is_escaped y) (ap is_escaped (sym (ap first (ap (drop 1) w))) ∙ bad) (and_left (is_escaped y) (is_closed is_escaped q (t ++ q ∷ [])) (sym (closed_escape is_escaped q x y (t ++ q ∷ []) (ap (λ z. z == 92) (sym (ap first w)))) ∙ o)))
not_before q e g bad (c ∷ b) rest (x ∷ []) more f o w = omega arith
not_before q e g bad (c ∷ []) rest (x ∷ y ∷ t) more f o w = go (c == 92) refl (λ i. not_before q e g bad [] rest (y ∷ t) more (same_self q) i (ap (drop 1) w))
  where
    go : (k : Bool) → (c == 92) ≡ k → (IsFine q (y ∷ t) → length (y ∷ t) ≤ 0) → length (x ∷ y ∷ t) ≤ 1
    go true k i = absurd (no_lone_slash q c k f)
    go false k i = omega (arith, i (fine_rest q x (y ∷ t) (ap (λ z. z == 92) (sym (ap first w)) ∙ k) o))
not_before q e g bad (c ∷ d ∷ b) rest (x ∷ y ∷ t) more f o w =
    go (c == 92) refl (λ h i. not_before q e g bad b rest t more h i (ap (drop 2) w)) (λ h i. not_before q e g bad (d ∷ b) rest (y ∷ t) more h i (ap (drop 1) w))
  where
    go : (k : Bool) → (c == 92) ≡ k → (IsFine q b → IsFine q t → length t ≤ length b) → (IsFine q (d ∷ b) → IsFine q (y ∷ t) → length (y ∷ t) ≤ length (d ∷ b)) → length (x ∷ y ∷ t) ≤ length (c ∷ d ∷ b)
    go true k i j = omega (arith, i (closed_behind is_escaped q c d (b ++ q ∷ []) k f) (closed_behind is_escaped q x y (t ++ q ∷ []) (ap (λ z. z == 92) (sym (ap first w)) ∙ k) o))
    go false k i j = omega (arith, j (fine_rest q c (d ∷ b) k f) (fine_rest q x (y ∷ t) (ap (λ z. z == 92) (sym (ap first w)) ∙ k) o))

-- ## Faults

-- a token that begins with this quote is a text that is closed
quoted_text : (k : TokenKind) (c : ℕ) (more text behind : List ℕ) → is_quote c ≡ true → c ∷ more ≡ text ++ behind → is_token k text ≡ true → (t : List ℕ) × (more ≡ t ++ behind) × (is_closed is_escaped c t ≡ true)
quoted_text k c more [] behind q e h = absurd (clash (is_token k []) (empty_token k) h)
quoted_text k c more (x ∷ t) behind q e h = (t, ap (drop 1) e, is_quoted k c t q (ap (λ z. is_token k (z ∷ t)) (ap first e) ∙ h))

token_or_fault : (at : ℕ) (source : List ℕ) (k : TokenKind) (text behind : List ℕ) (fault : LexFault) → IsLongest source k text behind → FaultAt at source fault → ⊥
token_or_fault at source k text behind fault x (no_token y) = clash (is_token k text) (y.none k text behind x.whole) x.token
token_or_fault at source k text behind fault x (open_text y) =
    let t = quoted_text k y.quote y.more text behind y.quoted (sym y.whole ∙ x.whole) x.token in
    clash (is_closed any y.quote t.0) (y.unclosed t.0 behind t.1) (closed_any y.quote t.0 t.2)
token_or_fault at source k text behind fault x (bad_escape n y) =
    let quoted = and_left (is_quote y.quote) (is_closed is_escaped y.quote (y.before ++ y.quote ∷ [])) y.fine_before in
    let t = quoted_text k y.quote (y.before ++ 92 ∷ y.escaped ∷ (y.after ++ y.behind)) text behind quoted (sym y.whole ∙ x.whole) x.token in
    over_bad y.quote (quote_no_slash y.quote quoted) y.escaped y.bad y.before (y.after ++ y.behind) t.0 behind (and_right (is_quote y.quote) (is_closed is_escaped y.quote (y.before ++ y.quote ∷ [])) y.fine_before) t.1 t.2

open_or_bad : (source : List ℕ) (n : ℕ) → IsOpen source → IsBadEscape source n → ⊥
open_or_bad source n x y =
    let same : x.quote ≡ y.quote = ap first (sym x.whole ∙ y.whole) in
    let fine = and_right (is_quote y.quote) (is_closed is_escaped y.quote (y.before ++ y.quote ∷ [])) y.fine_before in
    clash (is_closed any y.quote (y.before ++ 92 ∷ y.escaped ∷ y.after))
    (ap (λ z. is_closed any z (y.before ++ 92 ∷ y.escaped ∷ y.after)) (sym same) ∙ x.unclosed (y.before ++ 92 ∷ y.escaped ∷ y.after) y.behind (ap (drop 1) (sym x.whole ∙ y.whole) ∙ sym (append_assoc y.before (92 ∷ y.escaped ∷ y.after) y.behind)))
    (bad_closed y.quote y.escaped y.before y.after fine y.closed)

bad_or_bad : (source : List ℕ) (n m : ℕ) → IsBadEscape source n → IsBadEscape source m → n ≡ m
bad_or_bad source n m x y =
    let same : x.quote ≡ y.quote = ap first (sym x.whole ∙ y.whole) in
    let fx = and_right (is_quote x.quote) (is_closed is_escaped x.quote (x.before ++ x.quote ∷ [])) x.fine_before in
    let fy0 = and_right (is_quote y.quote) (is_closed is_escaped y.quote (y.before ++ y.quote ∷ [])) y.fine_before in
    let fy : IsFine x.quote y.before = subst (λ (q : ℕ). IsFine q y.before) (sym same) fy0 in
    let e : x.before ++ 92 ∷ x.escaped ∷ (x.after ++ x.behind) ≡ y.before ++ 92 ∷ y.escaped ∷ (y.after ++ y.behind) = ap (drop 1) (sym x.whole ∙ y.whole) in
    omega (arith, x.place, y.place, not_before x.quote x.escaped y.escaped x.bad x.before (x.after ++ x.behind) y.before (y.after ++ y.behind) fx fy e, not_before x.quote y.escaped x.escaped y.bad y.before (y.after ++ y.behind) x.before (x.after ++ x.behind) fy fx (sym e))

nothing_or_quote : (source : List ℕ) (c : ℕ) (more : List ℕ) → IsNoToken source → source ≡ c ∷ more → is_quote c ≡ true → ⊥
nothing_or_quote source c more x e h = clash (is_quote c) (ap is_quote (ap first (sym e ∙ x.whole)) ∙ x.no_quote) h

same_fault : (at : ℕ) (source : List ℕ) (f g : LexFault) → FaultAt at source f → FaultAt at source g → f ≡ g
same_fault at source f g (no_token x) (no_token y) = refl
same_fault at source f g (no_token x) (open_text y) = absurd (nothing_or_quote source y.quote y.more x y.whole y.quoted)
same_fault at source f g (no_token x) (bad_escape n y) = absurd (nothing_or_quote source y.quote (y.before ++ 92 ∷ y.escaped ∷ (y.after ++ y.behind)) x y.whole (and_left (is_quote y.quote) (is_closed is_escaped y.quote (y.before ++ y.quote ∷ [])) y.fine_before))
same_fault at source f g (open_text x) (no_token y) = absurd (nothing_or_quote source x.quote x.more y x.whole x.quoted)
same_fault at source f g (open_text x) (open_text y) = refl
same_fault at source f g (open_text x) (bad_escape n y) = absurd (open_or_bad source n x y)
same_fault at source f g (bad_escape n x) (no_token y) = absurd (nothing_or_quote source x.quote (x.before ++ 92 ∷ x.escaped ∷ (x.after ++ x.behind)) y x.whole (and_left (is_quote x.quote) (is_closed is_escaped x.quote (x.before ++ x.quote ∷ [])) x.fine_before))
same_fault at source f g (bad_escape n x) (open_text y) = absurd (open_or_bad source n y x)
same_fault at source f g (bad_escape n x) (bad_escape m y) = ap (λ i. BadCharacter (at + i)) (bad_or_bad source n m x y)

-- ## Blanks

blank_run : (x a : List ℕ) → list_all is_blank x ≡ true → count_while is_blank a ≡ 0 → count_while is_blank (x ++ a) ≡ length x
blank_run [] a all h = h
blank_run (c ∷ r) a all h = ap (λ t. cond t (suc (count_while is_blank (r ++ a))) 0) (and_left (is_blank c) (list_all is_blank r) all) ∙ ap suc (blank_run r a (and_right (is_blank c) (list_all is_blank r) all) h)

-- what stands behind the blanks
abbrev core : List ℕ → List ℕ
core bs = drop (count_while is_blank bs) bs

count_is : (bs x a : List ℕ) → bs ≡ x ++ a → list_all is_blank x ≡ true → count_while is_blank a ≡ 0 → count_while is_blank bs ≡ length x
count_is bs x a e all h = ap (count_while is_blank) e ∙ blank_run x a all h

core_is : (bs x a : List ℕ) → bs ≡ x ++ a → list_all is_blank x ≡ true → count_while is_blank a ≡ 0 → a ≡ core bs
core_is bs x a e all h = sym (drop-append_seam x a) ∙ ap (drop (length x)) (sym e) ∙ ap (λ n. drop n bs) (sym (count_is bs x a e all h))

plain_start : (c : ℕ) (r : List ℕ) → is_blank c ≡ false → count_while is_blank (c ∷ r) ≡ 0
plain_start c r h = ap (λ t. cond t (suc (count_while is_blank r)) 0) h

blank_no_quote : (c : ℕ) → is_blank c ≡ true → is_quote c ≡ false
blank_no_quote c h = grind arith

blank_no_digit : (c : ℕ) → is_blank c ≡ true → is_digit c ≡ false
blank_no_digit c h = grind arith

blank_no_letter : (c : ℕ) → is_blank c ≡ true → is_letter c ≡ false
blank_no_letter c h = grind arith

blank_no_pair : (c d : ℕ) → is_blank c ≡ true → is_mark_pair c d ≡ false
blank_no_pair c d h = grind arith

blank_no_token : (k : TokenKind) (c : ℕ) (r : List ℕ) → is_blank c ≡ true → is_token k (c ∷ r) ≡ true → ⊥
blank_no_token Name c r w h = clash (is_letter c) (blank_no_letter c w) (and_left (is_letter c) (list_all is_name_byte r) h)
blank_no_token Number c r w h = clash (is_digit c) (blank_no_digit c w) (and_left (is_digit c) (list_all is_digit r) h)
blank_no_token Text c r w h = clash (is_quote c) (blank_no_quote c w) (and_left (is_quote c) (is_closed is_escaped c r) h)
blank_no_token Mark c r w h = no_mark_start c (not_in is_blank c marks w refl) (λ d. blank_no_pair c d w) c r refl h

no_blank_if : (c : ℕ) → (is_blank c ≡ true → ⊥) → is_blank c ≡ false
no_blank_if c h = false_unless (is_blank c) h

plain_token : (k : TokenKind) (text behind : List ℕ) → is_token k text ≡ true → count_while is_blank (text ++ behind) ≡ 0
plain_token k [] behind h = absurd (clash (is_token k []) (empty_token k) h)
plain_token k (c ∷ r) behind h = plain_start c (r ++ behind) (no_blank_if c (λ w. blank_no_token k c r w h))

plain_quote : (source : List ℕ) (c : ℕ) (r : List ℕ) → source ≡ c ∷ r → is_quote c ≡ true → count_while is_blank source ≡ 0
plain_quote source c r e h = ap (count_while is_blank) e ∙ plain_start c r (no_blank_if c (λ w. clash (is_quote c) (blank_no_quote c w) h))

plain_fault : (at : ℕ) (source : List ℕ) (f : LexFault) → FaultAt at source f → count_while is_blank source ≡ 0
plain_fault at source f (no_token x) = ap (count_while is_blank) x.whole ∙ plain_start x.first x.more x.no_blank
plain_fault at source f (open_text x) = plain_quote source x.quote x.more x.whole x.quoted
plain_fault at source f (bad_escape n x) = plain_quote source x.quote (x.before ++ 92 ∷ x.escaped ∷ (x.after ++ x.behind)) x.whole (and_left (is_quote x.quote) (is_closed is_escaped x.quote (x.before ++ x.quote ∷ [])) x.fine_before)

-- ## Tokens one behind the other

lead_at : (at : ℕ) (bs : List ℕ) (t : PlacedToken) (behind : List ℕ) → Leads at bs t behind → t.at ≡ at + count_while is_blank bs
lead_at at bs t behind l = omega (arith, l.place, count_is bs l.blanks l.after_blanks l.whole l.blank (ap (count_while is_blank) l.longest.whole ∙ plain_token t.kind t.text behind l.longest.token))

lead_core : (at : ℕ) (bs : List ℕ) (t : PlacedToken) (behind : List ℕ) → Leads at bs t behind → IsLongest (core bs) t.kind t.text behind
lead_core at bs t behind l = subst (λ (s : List ℕ). IsLongest s t.kind t.text behind) (core_is bs l.blanks l.after_blanks l.whole l.blank (ap (count_while is_blank) l.longest.whole ∙ plain_token t.kind t.text behind l.longest.token)) l.longest

abbrev SameLead : PlacedToken → PlacedToken → List ℕ → List ℕ → Type 0
SameLead t u behind more = (t ≡ u) × (behind ≡ more)

same_lead : (at : ℕ) (bs : List ℕ) (t u : PlacedToken) (behind more : List ℕ) → Leads at bs t behind → Leads at bs u more → SameLead t u behind more
same_lead at bs t u behind more x y =
    let s = same_token (core bs) t.kind u.kind t.text u.text behind more (lead_core at bs t behind x) (lead_core at bs u more y) in
    let places : t.at ≡ u.at = lead_at at bs t behind x ∙ sym (lead_at at bs u more y) in
    ((λ i. record { kind = s.kinds i; text = s.texts i; at = places i }), s.rests)

only_blank : (at : ℕ) (bs : List ℕ) (t : PlacedToken) (behind : List ℕ) → list_all is_blank bs ≡ true → Leads at bs t behind → ⊥
only_blank at bs t behind all l =
    let none : [] ≡ core bs = core_is bs bs [] (sym (append-nil bs)) all refl in
    go t.text (ap length none ∙ ap length (lead_core at bs t behind l).whole) l.longest.token
  where
    go : (text : List ℕ) → 0 ≡ length (text ++ behind) → is_token t.kind text ≡ true → ⊥
    go [] e h = clash (is_token t.kind []) (empty_token t.kind) h
    go (c ∷ r) e h = omega (arith, e)

fault_core : (at : ℕ) (bs blanks rest : List ℕ) (f : LexFault) → bs ≡ blanks ++ rest → list_all is_blank blanks ≡ true → FaultAt (at + length blanks) rest f → FaultAt (at + count_while is_blank bs) (core bs) f
fault_core at bs blanks rest f e all h =
    let plain = plain_fault (at + length blanks) rest f h in
    subst (λ (s : List ℕ). FaultAt (at + count_while is_blank bs) s f) (core_is bs blanks rest e all plain)
    (subst (λ (n : ℕ). FaultAt (at + n) rest f) (sym (count_is bs blanks rest e all plain)) h)

fault_some : (at : ℕ) (source : List ℕ) (f : LexFault) → FaultAt at source f → 0 < length source
fault_some at source f (no_token x) = omega (arith, ap length x.whole)
fault_some at source f (open_text x) = omega (arith, ap length x.whole)
fault_some at source f (bad_escape n x) = omega (arith, ap length x.whole)

tokens_same : (at : ℕ) (bs : List ℕ) (ts us : List PlacedToken) → TokensFrom at bs ts → TokensFrom at bs us → ts ≡ us
tokens_same at bs [] [] h k = refl
tokens_same at bs [] (u ∷ us) h k = absurd (only_blank at bs u k.0 h k.1)
tokens_same at bs (t ∷ ts) [] h k = absurd (only_blank at bs t h.0 k h.1)
tokens_same at bs (t ∷ ts) (u ∷ us) h k =
    let s = same_lead at bs t u h.0 k.0 h.1 k.1 in
    let moved : TokensFrom (t.at + length t.text) h.0 us = subst (λ (b : List ℕ). TokensFrom (t.at + length t.text) b us) (sym s.1) (subst (λ (v : PlacedToken). TokensFrom (v.at + length v.text) k.0 us) (sym s.0) k.2) in
    (λ i. s.0 i ∷ tokens_same (t.at + length t.text) h.0 ts us h.2 moved i)

faults_same : (at : ℕ) (bs : List ℕ) (ts us : List PlacedToken) (f g : LexFault) → FaultFrom at bs ts f → FaultFrom at bs us g → f ≡ g
faults_same at bs [] [] f g h k = same_fault (at + count_while is_blank bs) (core bs) f g (fault_core at bs h.0 h.1 f h.2 h.3 h.4) (fault_core at bs k.0 k.1 g k.2 k.3 k.4)
faults_same at bs [] (u ∷ us) f g h k = absurd (token_or_fault (at + count_while is_blank bs) (core bs) u.kind u.text k.0 f (lead_core at bs u k.0 k.1) (fault_core at bs h.0 h.1 f h.2 h.3 h.4))
faults_same at bs (t ∷ ts) [] f g h k = absurd (token_or_fault (at + count_while is_blank bs) (core bs) t.kind t.text h.0 g (lead_core at bs t h.0 h.1) (fault_core at bs k.0 k.1 g k.2 k.3 k.4))
faults_same at bs (t ∷ ts) (u ∷ us) f g h k =
    let s = same_lead at bs t u h.0 k.0 h.1 k.1 in
    let moved : FaultFrom (t.at + length t.text) h.0 us g = subst (λ (b : List ℕ). FaultFrom (t.at + length t.text) b us g) (sym s.1) (subst (λ (v : PlacedToken). FaultFrom (v.at + length v.text) k.0 us g) (sym s.0) k.2) in
    faults_same (t.at + length t.text) h.0 ts us f g h.2 moved

tokens_or_fault : (at : ℕ) (bs : List ℕ) (ts us : List PlacedToken) (f : LexFault) → TokensFrom at bs ts → FaultFrom at bs us f → ⊥
tokens_or_fault at bs [] [] f h k =
    let none : [] ≡ core bs = core_is bs bs [] (sym (append-nil bs)) h refl in
    omega (arith, ap length none, fault_some (at + count_while is_blank bs) (core bs) f (fault_core at bs k.0 k.1 f k.2 k.3 k.4))
tokens_or_fault at bs [] (u ∷ us) f h k = only_blank at bs u k.0 h k.1
tokens_or_fault at bs (t ∷ ts) [] f h k = token_or_fault (at + count_while is_blank bs) (core bs) t.kind t.text h.0 f (lead_core at bs t h.0 h.1) (fault_core at bs k.0 k.1 f k.2 k.3 k.4)
tokens_or_fault at bs (t ∷ ts) (u ∷ us) f h k =
    let s = same_lead at bs t u h.0 k.0 h.1 k.1 in
    let moved : FaultFrom (t.at + length t.text) h.0 us f = subst (λ (b : List ℕ). FaultFrom (t.at + length t.text) b us f) (sym s.1) (subst (λ (v : PlacedToken). FaultFrom (v.at + length v.text) k.0 us f) (sym s.0) k.2) in
    tokens_or_fault (t.at + length t.text) h.0 ts us f h.2 moved

pub tokens_are_one : TokensAreOne
tokens_are_one = record { tokens = tokens_same 0; faults = faults_same 0; apart = tokens_or_fault 0 }
