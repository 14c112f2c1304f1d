-- The decimals that a backoff may have are read back.
use Rattle.std.proofs.Common.{◌≡◌, ⊎_elim, ℕ, ◌-◌, ◌<◌, List, [], ◌∷◌, length, Bool, true, false, cond, ◌&&◌, ◌||◌, ◌==◌, nat_le, nat_lt, Ok, refl, ap, sym, ◌∙◌, arith}
use Rattle.std.specs.Int.{IsInRange}
use Rattle.std.specs.Str.{encode_utf8_all}
use Rattle.std.proofs.lemmas.Bool.{cases_Bool, and_parts, and_left, and_right, leb-true, ltb-true, eqb-true, ne_eqb, both_ways, true≢false}
use Rattle.std.proofs.lemmas.Bool.Decides.{nat_tests}
use Rattle.wf_tree.specs.Trees.{decimal}
use Rattle.wf_yaml_line.specs.Marks.{hash, colon, is_digit, is_one_of, starts, behind_first, skip}
use Rattle.wf_yaml_line.specs.Fault.{both, kept, refuse}
use Rattle.wf_yaml_flow.specs.Line.{one_line}
use Rattle.wf_yaml_line.specs.Scalars.{is_delay, is_short, plain_tree_by}
use Rattle.wf_yaml_line.specs.Words.{digit_of, all_digits, unsigned, is_number, starts_with, null_words, true_words, false_words, is_decimal_whole, is_octal, is_hexadecimal, is_float, is_unsigned_float, is_exponent, plain_kind, behind_prefix, infinity_words, nan_words}
use Rattle.wf_yaml_line.specs.declared.fault.Kind.TheVariants as kinds
use Rattle.wf_yaml_line.specs.declared.scalars.Plain.TheVariants as kind
use Rattle.wf_yaml_write.proofs.Calm.{IsQuiet, AllQuiet, quiet_calm}
use Rattle.wf_yaml_write.proofs.PlainBack.{scalar_line}
use Rattle.wf_yaml_write.proofs.NumberBack.{begins_number, begins_digit, digit_no_sign, other_word, quiet_digit, digit_opens}

-- ---- the parts of such a decimal

abbrev is_dot : ℕ → Bool
is_dot b = b == 46

-- digits, then a point, then digits
pub record IsPointed (s : List ℕ) : Type 0 where
  pub point : starts is_dot (skip is_digit s) ≡ true
  pub fraction : all_digits 10 (behind_first (skip is_digit s)) ≡ true

pub digit_range : (b : ℕ) → is_digit b ≡ true → IsInRange 48 57 b
digit_range b t = let k = and_parts (nat_le 48 b) (nat_le b 57) t in (leb-true 48 b k.0, leb-true b 57 k.1)

-- the rest behind a digit
behind_digit : (b : ℕ) (r : List ℕ) → is_digit b ≡ true → skip is_digit (b ∷ r) ≡ skip is_digit r
behind_digit b r t = ap (λ u. cond u (skip is_digit r) (b ∷ r)) t

at_other : (b : ℕ) (r : List ℕ) → is_digit b ≡ false → skip is_digit (b ∷ r) ≡ b ∷ r
at_other b r t = ap (λ u. cond u (skip is_digit r) (b ∷ r)) t

pub pointed_rest : (b : ℕ) (r : List ℕ) → is_digit b ≡ true → IsPointed (b ∷ r) → IsPointed r
pointed_rest b r t h = record {
  point = ap (starts is_dot) (sym (behind_digit b r t)) ∙ h.point;
  fraction = ap (λ u. all_digits 10 (behind_first u)) (sym (behind_digit b r t)) ∙ h.fraction;
}

pub point_here : (b : ℕ) (r : List ℕ) → is_digit b ≡ false → IsPointed (b ∷ r) → b ≡ 46
point_here b r t h = eqb-true b 46 (ap (starts is_dot) (sym (at_other b r t)) ∙ h.point)

pub fraction_here : (b : ℕ) (r : List ℕ) → is_digit b ≡ false → IsPointed (b ∷ r) → all_digits 10 r ≡ true
fraction_here b r t h = ap (λ u. all_digits 10 (behind_first u)) (sym (at_other b r t)) ∙ h.fraction

-- ---- it is no other kind

pub low_digit : (b : ℕ) → nat_lt (digit_of b) 10 ≡ true → is_digit b ≡ true
low_digit b h = grind (arith, nat_tests, ltb-true (digit_of b) 10 h)

dot_value : (b : ℕ) → b ≡ 46 → nat_lt (digit_of b) 10 ≡ false
dot_value b e = ap (λ x. nat_lt (digit_of x) 10) e

not_whole : (s : List ℕ) → IsPointed s → all_digits 10 s ≡ false
not_whole [] h = absurd (true≢false (sym h.point))
not_whole (b ∷ r) h = ⊎_elim
    (λ t. and_right (nat_lt (digit_of b) 10) (all_digits 10 r) (not_whole r (pointed_rest b r t h)))
    (λ t. and_left (nat_lt (digit_of b) 10) (all_digits 10 r) (dot_value b (point_here b r t h)))
    (cases_Bool (is_digit b))

-- neither a digit nor the point
not_second : (x : ℕ) (r : List ℕ) → is_digit x ≡ false → (x ≡ 46 → ⊥) → IsPointed r → starts_with x r ≡ false
not_second x [] k n h = refl
not_second x (c ∷ r) k n h = ne_eqb c x (λ e. ⊎_elim (λ t. both_ways (is_digit x) k (ap is_digit (sym e) ∙ t)) (λ t. n (sym e ∙ point_here c r t h)) (cases_Bool (is_digit c)))

digits_skipped : (s : List ℕ) → all_digits 10 s ≡ true → skip is_digit s ≡ []
digits_skipped [] h = refl
digits_skipped (b ∷ r) h =
    let k = and_parts (nat_lt (digit_of b) 10) (all_digits 10 r) h in
    behind_digit b r (low_digit b k.0) ∙ digits_skipped r k.1

seventh : {A : Type 0} (p q r t u v w : Bool) (a b c d e f x y : A) → p ≡ false → q ≡ false → r ≡ false → t ≡ false → u ≡ false → v ≡ false → w ≡ true → cond p a (cond q b (cond r c (cond t d (cond u e (cond v f (cond w x y)))))) ≡ x
seventh p q r t u v w a b c d e f x y hp hq hr ht hu hv hw =
    ap (λ z. cond z a (cond q b (cond r c (cond t d (cond u e (cond v f (cond w x y))))))) hp ∙ ap (λ z. cond z b (cond r c (cond t d (cond u e (cond v f (cond w x y)))))) hq
    ∙ ap (λ z. cond z c (cond t d (cond u e (cond v f (cond w x y))))) hr ∙ ap (λ z. cond z d (cond u e (cond v f (cond w x y)))) ht
    ∙ ap (λ z. cond z e (cond v f (cond w x y))) hu ∙ ap (λ z. cond z f (cond w x y)) hv ∙ ap (λ z. cond z x y) hw

is_pointed_float : (b : ℕ) (r : List ℕ) → is_digit b ≡ true → IsPointed (b ∷ r) → is_unsigned_float (b ∷ r) ≡ true
is_pointed_float b r t h =
    let rest = skip is_digit (b ∷ r) in
    let fraction = behind_first rest in
    ap (λ z. cond z ((is_digit b || starts is_digit fraction) && is_exponent (skip is_digit fraction)) (is_digit b && is_exponent rest)) h.point
    ∙ (λ i. (t i || starts is_digit fraction) && is_exponent (digits_skipped fraction h.fraction i))

decimal_kind : (b : ℕ) (r : List ℕ) → is_digit b ≡ true → IsPointed (b ∷ r) → plain_kind (b ∷ r) ≡ kind.Decimal
decimal_kind b r t h =
    let s = b ∷ r in
    let k = digit_range b t in
    let begins = begins_digit b k in
    let tail = pointed_rest b r t h in
    let bare : unsigned s ≡ s = ap (λ u. cond u r s) (digit_no_sign b k) in
    seventh (is_one_of null_words s) (is_one_of true_words s) (is_one_of false_words s) (is_decimal_whole s) (is_octal s) (is_hexadecimal s) (is_float s) _ _ _ _ _ _ kind.Decimal kind.Text
    (other_word begins_number null_words b r begins refl) (other_word begins_number true_words b r begins refl) (other_word begins_number false_words b r begins refl)
    (ap (is_number 10) bare ∙ not_whole s h)
    (and_left (starts_with 48 s && starts_with 111 r) (is_number 8 (behind_prefix s)) (and_right (starts_with 48 s) (starts_with 111 r) (not_second 111 r refl (λ e. omega arith) tail)))
    (and_left (starts_with 48 s && starts_with 120 r) (is_number 16 (behind_prefix s)) (and_right (starts_with 48 s) (starts_with 120 r) (not_second 120 r refl (λ e. omega arith) tail)))
    (ap (λ u. is_unsigned_float u || is_one_of infinity_words u || is_one_of nan_words s) bare ∙ ap (λ u. u || is_one_of infinity_words s || is_one_of nan_words s) (is_pointed_float b r t h))

-- ---- on a line

quiet_fraction : (s : List ℕ) → all_digits 10 s ≡ true → AllQuiet s
quiet_fraction [] h = tt
quiet_fraction (b ∷ r) h =
    let k = and_parts (nat_lt (digit_of b) 10) (all_digits 10 r) h in
    (quiet_digit b (digit_range b (low_digit b k.0)), quiet_fraction r k.1)

quiet_dot : (b : ℕ) → b ≡ 46 → IsQuiet b
quiet_dot b e = record { blank = (λ i. ne_eqb b 32 (λ f. omega arith) i || ne_eqb b 9 (λ f. omega arith) i); hash = ne_eqb b hash (λ f. omega arith); colon = ne_eqb b colon (λ f. omega arith) }

pub quiet_pointed : (s : List ℕ) → IsPointed s → AllQuiet s
quiet_pointed [] h = tt
quiet_pointed (b ∷ r) h = ⊎_elim
    (λ t. (quiet_digit b (digit_range b t), quiet_pointed r (pointed_rest b r t h)))
    (λ t. (quiet_dot b (point_here b r t h), quiet_fraction r (fraction_here b r t h)))
    (cases_Bool (is_digit b))

-- ---- the form of a delay

pub record IsDelay (s : List ℕ) : Type 0 where
  pub some : 0 < length s - length (skip is_digit s)
  pub pointed : IsPointed s

pub delay_facts : (s : List ℕ) → is_delay s ≡ true → IsDelay s
delay_facts s e =
    let rest = skip is_digit s in
    let whole = length s - length rest in
    let fraction = behind_first rest in
    let a = and_parts (is_short 8 whole && starts is_dot rest && is_short 3 (length fraction)) (all_digits 10 fraction) e in
    let b = and_parts (is_short 8 whole && starts is_dot rest) (is_short 3 (length fraction)) a.0 in
    let c = and_parts (is_short 8 whole) (starts is_dot rest) b.0 in
    let d = and_parts (nat_lt 0 whole) (nat_le whole 8) c.0 in
    record { some = ltb-true 0 whole d.0; pointed = record { point = c.1; fraction = a.1 } }

delay_tree : (n : ℕ) (s : List ℕ) → is_delay s ≡ true → both kept (plain_tree_by kind.Decimal true n s) (Ok (tt {0})) ≡ Ok (decimal (encode_utf8_all s))
delay_tree n s e = ap (λ u. both kept (cond u (Ok (decimal (encode_utf8_all s))) (refuse n kinds.Decimal)) (Ok (tt {0}))) e

decimal_line : (n d b : ℕ) (r : List ℕ) → is_digit b ≡ true → IsPointed (b ∷ r) → is_delay (b ∷ r) ≡ true → one_line true n d (b ∷ r) ≡ Ok (decimal (encode_utf8_all (b ∷ r)))
decimal_line n d b r t h e =
    scalar_line true n d (b ∷ r) (digit_opens b r (digit_range b t)) (quiet_calm (b ∷ r) (quiet_pointed (b ∷ r) h))
    ∙ ap (λ k. both kept (plain_tree_by k true n (b ∷ r)) (Ok (tt {0}))) (decimal_kind b r t h)
    ∙ delay_tree n (b ∷ r) e

pub no_length : (b : ℕ) (r : List ℕ) → is_digit b ≡ false → 0 < length (b ∷ r) - length (skip is_digit (b ∷ r)) → ⊥
no_length b r t h = omega (arith, h, ap length (at_other b r t))

-- such a decimal is read as its text, where it may stand
pub decimal_back : (n d : ℕ) (s : List ℕ) → is_delay s ≡ true → one_line true n d s ≡ Ok (decimal (encode_utf8_all s))
decimal_back n d [] e = absurd (true≢false (sym e))
decimal_back n d (b ∷ r) e = by (is_digit b) refl
  where
    by : (t : Bool) → is_digit b ≡ t → one_line true n d (b ∷ r) ≡ Ok (decimal (encode_utf8_all (b ∷ r)))
    by true t = decimal_line n d b r t (delay_facts (b ∷ r) e).pointed e
    by false t = absurd (no_length b r t (delay_facts (b ∷ r) e).some)
