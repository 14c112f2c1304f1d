-- Texts that hold nothing that ends a plain scalar or a key.
use Rattle.std.proofs.Common.{◌≡◌, ℕ, List, [], ◌∷◌, ◌++◌, Bool, true, false, cond, ◌&&◌, ◌||◌, ◌==◌, nat_le, Some, None, option_map, refl, ap, sym, subst, ◌∙◌, arith}
use Rattle.std.proofs.lemmas.Bool.{and_parts, and_left, or_parts, leb-true, ne_eqb}
use Rattle.wf_lemmas.proofs.Bools.{or_none}
use Rattle.wf_yaml_line.specs.Marks.{hash, colon, space, tabulator, starts, is_empty, is_blank, ends_with_colon, ends_word, trimmed, before_comment, around_colon}
use Rattle.wf_yaml_write.specs.Layout.{is_printable, has_mark}

-- No comment begins in the text, no key ends in it, and no blank ends it; the flag says that a
-- blank stands before.
abbrev pub IsCalm : Bool → List ℕ → Type 0
IsCalm after_blank [] = Unit {0}
IsCalm after_blank (b ∷ s) = ((after_blank && b == hash) ≡ false) × ((b == colon && ends_word s) ≡ false) × ((is_blank b && is_empty s) ≡ false) × IsCalm (is_blank b) s

-- ---- which texts are calm

-- of the printable bytes the space alone is a blank
space_alone : (b : ℕ) (s : List ℕ) → is_printable (b ∷ s) ≡ true → is_blank b ≡ (b == space)
space_alone b s p =
    let front = and_parts (nat_le 0x20 b && nat_le b 0x7E) (is_printable s) p in
    let low = and_parts (nat_le 0x20 b) (nat_le b 0x7E) front.0 in
    ap (λ t. b == space || t) (ne_eqb b tabulator (λ e. omega (arith, leb-true 0x20 b low.0))) ∙ or_none (b == space)

printable_rest : (b : ℕ) (s : List ℕ) → is_printable (b ∷ s) ≡ true → is_printable s ≡ true
printable_rest b s p = (and_parts (nat_le 0x20 b && nat_le b 0x7E) (is_printable s) p).1

-- printable bytes without a mark
pub calm : (after_blank : Bool) (s : List ℕ) → (after_blank && starts (λ b. b == hash) s) ≡ false → is_printable s ≡ true → has_mark s ≡ false → IsCalm after_blank s
calm after_blank [] f p m = tt
calm after_blank (b ∷ []) f p m =
    let h = or_parts (b == space) (b == colon) m in
    (f, and_left (b == colon) true h.1, and_left (is_blank b) true (space_alone b [] p ∙ h.0), tt)
calm after_blank (b ∷ c ∷ s) f p m =
    let h = or_parts (b == colon && c == space || b == space && c == hash) (has_mark (c ∷ s)) m in
    let k = or_parts (b == colon && c == space) (b == space && c == hash) h.0 in
    let rest = printable_rest b (c ∷ s) p in (
      f,
      ap (λ t. b == colon && t) (space_alone c s rest) ∙ k.0,
      and_none (is_blank b),
      calm (is_blank b) (c ∷ s) (ap (λ t. t && c == hash) (space_alone b (c ∷ s) p) ∙ k.1) rest h.1,
    )
  where
    and_none : (t : Bool) → (t && false) ≡ false
    and_none true = refl
    and_none false = refl

-- neither a blank nor `#` nor `:`
pub record IsQuiet (b : ℕ) : Type 0 where
  pub blank : is_blank b ≡ false
  pub hash : (b == hash) ≡ false
  pub colon : (b == colon) ≡ false

abbrev pub AllQuiet : List ℕ → Type 0
AllQuiet [] = Unit {0}
AllQuiet (b ∷ s) = IsQuiet b × AllQuiet s

-- such characters alone
pub quiet_calm : (s : List ℕ) → AllQuiet s → IsCalm false s
quiet_calm [] h = tt
quiet_calm (b ∷ s) h =
    (refl, and_left (b == colon) (ends_word s) h.0.colon, and_left (is_blank b) (is_empty s) h.0.blank, subst (λ t. IsCalm t s) (sym h.0.blank) (quiet_calm s h.1))

-- ---- what is read of them

pub before_calm : (after_blank : Bool) (s : List ℕ) → IsCalm after_blank s → before_comment after_blank s ≡ s
before_calm after_blank [] h = refl
before_calm after_blank (b ∷ s) h =
    ap (λ t. cond t [] (b ∷ before_comment (is_blank b) s)) h.0 ∙ ap (λ r. b ∷ r) (before_calm (is_blank b) s h.3)

pub trimmed_calm : (after_blank : Bool) (s : List ℕ) → IsCalm after_blank s → trimmed s ≡ s
trimmed_calm after_blank [] h = refl
trimmed_calm after_blank (b ∷ s) h =
    ap (λ r. cond (is_blank b && is_empty r) [] (b ∷ r)) (trimmed_calm (is_blank b) s h.3) ∙ ap (λ t. cond t [] (b ∷ s)) h.2

-- no `:` ends such a text
pub no_colon_calm : (after_blank : Bool) (s : List ℕ) → IsCalm after_blank s → ends_with_colon s ≡ false
no_colon_calm after_blank [] h = refl
no_colon_calm after_blank (b ∷ []) h = last (b == colon) h.1
  where
    last : (t : Bool) → (t && true) ≡ false → t ≡ false
    last true e = e
    last false e = refl
no_colon_calm after_blank (b ∷ c ∷ s) h = no_colon_calm (is_blank b) (c ∷ s) h.3

pub no_key_calm : (after_blank : Bool) (s : List ℕ) → IsCalm after_blank s → around_colon after_blank s ≡ None
no_key_calm after_blank [] h = refl
no_key_calm after_blank (b ∷ s) h =
    ap (λ t. cond t None (cond (b == colon && ends_word s) (Some ([], s)) (option_map (λ p. (b ∷ p.0, p.1)) (around_colon (is_blank b) s)))) h.0
    ∙ ap (λ t. cond t (Some ([], s)) (option_map (λ p. (b ∷ p.0, p.1)) (around_colon (is_blank b) s))) h.1
    ∙ ap (option_map (λ p. (b ∷ p.0, p.1))) (no_key_calm (is_blank b) s h.3)

-- a key before the `:` that ends it
pub key_calm : (after_blank : Bool) (s rest : List ℕ) → ends_word rest ≡ true → IsCalm after_blank s → around_colon after_blank (s ++ colon ∷ rest) ≡ Some (s, rest)
key_calm true [] rest e h = ap (λ t. cond t (Some ([], rest)) (option_map (λ p. (colon ∷ p.0, p.1)) (around_colon false rest))) e
key_calm false [] rest e h = ap (λ t. cond t (Some ([], rest)) (option_map (λ p. (colon ∷ p.0, p.1)) (around_colon false rest))) e
key_calm after_blank (b ∷ s) rest e h =
    ap (λ t. cond t None (cond (b == colon && ends_word (s ++ colon ∷ rest)) (Some ([], s ++ colon ∷ rest)) (option_map (λ p. (b ∷ p.0, p.1)) (around_colon (is_blank b) (s ++ colon ∷ rest))))) h.0
    ∙ ap (λ t. cond t (Some ([], s ++ colon ∷ rest)) (option_map (λ p. (b ∷ p.0, p.1)) (around_colon (is_blank b) (s ++ colon ∷ rest)))) (goes_on b s rest h.1)
    ∙ ap (option_map (λ p. (b ∷ p.0, p.1))) (key_calm (is_blank b) s rest e h.3)
  where
    goes_on : (b : ℕ) (s rest : List ℕ) → (b == colon && ends_word s) ≡ false → (b == colon && ends_word (s ++ colon ∷ rest)) ≡ false
    goes_on b [] rest e = none (b == colon)
      where
        none : (t : Bool) → (t && false) ≡ false
        none true = refl
        none false = refl
    goes_on b (c ∷ s) rest e = e
