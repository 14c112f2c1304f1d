-- The front of a text that is a word.
use Rattle.std.proofs.Common.{◌≡◌, ℕ, ◌+◌, ◌≤◌, List, [], ◌∷◌, length, take, drop, Bool, true, false, cond, ◌&&◌, ◌||◌, ◌==◌, Some, refl, subst, sym, ap, ◌∙◌, arith, length-take}
use Rattle.wf_yaml_line.specs.Marks.{starts, is_empty, behind_first, is_blank, is_flow_mark, trimmed, ends_word, ends_with_colon, colon, hash, dollar, open_map}
use Rattle.wf_yaml_flow.specs.Flow.{plain_part, plain_word, starts_expression, Word, word, no_word, flow_word}
use Rattle.wf_yaml_flow.specs.FlowWalk.{found_word}
use Rattle.wf_yaml_flow.specs.declared.words.FlowWord.{FlowWord}
use Rattle.wf_yaml_flow.proofs.FlowLengths.{chosen, WordIn, word_in}

dollar_first : (b : ℕ) (s : List ℕ) → (b == dollar && starts (λ c. c == open_map) s) ≡ true → length (behind_first s) + 1 ≡ length s
dollar_first b [] h = absurd (no_and (b == dollar) h) where
  no_and : (t : Bool) → (t && false) ≡ true → ⊥
  no_and true e = cc
  no_and false e = cc
dollar_first b (c ∷ r) h = omega arith

pub two_first : (s : List ℕ) → starts_expression s ≡ true → length (behind_first (behind_first s)) + 2 ≡ length s
two_first [] h = absurd (cc)
two_first (b ∷ r) h = omega (arith, dollar_first b r h)

front_of : (after_blank : Bool) (s : List ℕ) → take (length (trimmed (plain_part after_blank s))) s ≡ trimmed (plain_part after_blank s)
front_of after_blank [] = refl
front_of after_blank (b ∷ r) =
    let p = plain_part (is_blank b) r in
    let more : take (length (trimmed p)) r ≡ trimmed p = front_of (is_blank b) r in
    chosen (λ (t : List ℕ). take (length (trimmed t)) (b ∷ r) ≡ trimmed t) (is_flow_mark b || (b == colon && ends_word r) || (after_blank && b == hash)) [] (b ∷ p) refl
    (chosen (λ (t : List ℕ). take (length t) (b ∷ r) ≡ t) (is_blank b && is_empty (trimmed p)) [] (b ∷ trimmed p) refl (ap (λ t. b ∷ t) more))

pub part_short : (s : List ℕ) → length (trimmed (plain_part false s)) ≤ length s
part_short s =
    let p = trimmed (plain_part false s) in
    let e : length (take (length p) s) ≡ length p = ap length (front_of false s) in
    omega (arith, e, length-take (length p) s)

-- the word of a plain scalar, as it is cut off
pub plain_cut : (s part : List ℕ) (ends : Bool) → part ≡ trimmed (plain_part false s) → ends ≡ ends_with_colon part → ends ≡ false
    → word (take (length part) s) false true (drop (length part) s) ≡ plain_word s (trimmed (plain_part false s))
plain_cut s part ends e f g =
    let p = trimmed (plain_part false s) in
    let keeps : ends_with_colon p ≡ false = ap ends_with_colon (sym e) ∙ sym f ∙ g in
    ap (λ t. word (take (length t) s) false true (drop (length t) s)) e
    ∙ ap (λ t. word t false true (drop (length p) s)) (front_of false s)
    ∙ sym (ap (λ t. cond t no_word (word p false true (drop (length p) s))) keeps)

-- ---- words

within : (w : FlowWord) (t : Word) (m : ℕ) → found_word (Some w) ≡ t → WordIn m t → length w.rest.now ≤ m
within w t m e h = subst (WordIn m) (sym e) h

-- what stands behind a word that was found
pub word_rest : (w : FlowWord) (s : List ℕ) → found_word (Some w) ≡ flow_word s → length w.rest.now ≤ length s
word_rest w s e = within w (flow_word s) (length s) e (word_in s)
