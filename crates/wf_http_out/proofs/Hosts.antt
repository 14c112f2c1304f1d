-- A host stands first in an authority without a user; and what the tests of an authority mean.
use Rattle.std.proofs.Common.{◌≡◌, ◌≢◌, ℕ, zero, suc, ◌+◌, ◌-◌, ◌<◌, ◌≤◌, ◌==◌, ◌||◌, Bool, true, false, not, cond, [], ◌∷◌, ◌++◌, length, take, drop, refl, sym, ap, subst, ◌∙◌, arith}
use Rattle.std.specs.Prelude.{if◌then◌else◌, slice_index}
use Rattle.std.specs.Char.{encode_utf8, is_ascii_digit}
use Rattle.std.specs.List.{list_all, list_any, suffix_len}
use Rattle.std.specs.Str.Parse.{AllDigits, IsNumeral, digits_value}
use Rattle.std.proofs.lemmas.Bool.{and_from, and_parts, le-leb, leb-true, lt-ltb, ltb-true, ne_eqb, eqb-true, false_from_ne_true}
use Rattle.std.proofs.lemmas.Bool.Decides.{nat_tests}
use Rattle.std.proofs.lemmas.List.Sums.{get_or-le-sum_by, suffix_len_is, sum_by-cons}
use Rattle.wf_lemmas.proofs.Texts.{digit_small, digit_told}
use Rattle.http_uri.specs.ByteClasses.{count_of, index_of, rsplit_once_back}
use Rattle.http_uri.specs.Grammar.{authority_host}
use Rattle.wf_value.specs.HttpUrl.{is_port, port_text}
use Rattle.wf_value.specs.Pairs.{Text}

-- a byte is among others exactly where it comes
pub has_byte : (c : ℕ) (s : Text) → list_any (λ b. b == c) s ≡ not (count_of c s == 0)
has_byte c [] = refl
has_byte c (b ∷ s) = rw (sum_by-cons (λ (x : ℕ). cond (x == c) 1 0) b s) (step (b == c) (has_byte c s))
  where
    step : (t : Bool) → list_any (λ b. b == c) s ≡ not (count_of c s == 0) → (t || list_any (λ b. b == c) s) ≡ not (cond t 1 0 + count_of c s == 0)
    step true h = sym (ap not (ne_eqb (1 + count_of c s) 0 (omega arith)))
    step false h =
        let same : 0 + count_of c s ≡ count_of c s = omega arith in
        rw same h

-- a part of a text from its front, and what is left
front_and_rest : (n : ℕ) (s : Text) → take n s ++ drop (length (take n s)) s ≡ s
front_and_rest zero s = refl
front_and_rest (suc n) [] = refl
front_and_rest (suc n) (b ∷ s) = ap (λ (t : Text). b ∷ t) (front_and_rest n s)

whole_behind : (s : Text) → count_of 64 s ≡ 0 → rsplit_once_back 64 s ≡ s
whole_behind s none =
    let all : suffix_len (λ b. not (b == 64)) s ≡ length s - 0 =
    suffix_len_is (λ b. not (b == 64)) s 0 0 (omega arith)
    (λ k low lt.
    let small = get_or-le-sum_by (λ (x : ℕ). cond (x == 64) 1 0) s k 0 lt in
    grind (arith, nat_tests, none, small))
    (λ lt. absurd (omega arith)) in
    let start : length s - suffix_len (λ b. not (b == 64)) s ≡ 0 = omega arith in
    ap (λ (n : ℕ). drop n s) start

-- one of two fronts of a text, and what is left
either_front : (t : Bool) (m n : ℕ) (s : Text) → s ≡ (if t then take m s else take n s) ++ drop (length (if t then take m s else take n s)) s
either_front true m n s = sym (front_and_rest m s)
either_front false m n s = sym (front_and_rest n s)

abbrev host_in : Text → Text
host_in s = if slice_index s 0 == 91 then take (index_of 93 s + 1) s else take (index_of 58 s) s

pub host_first : (a : Text) → count_of 64 a ≡ 0 → a ≡ authority_host a ++ port_text a
host_first a none =
    subst (λ (s : Text). a ≡ host_in s ++ drop (length (host_in s)) a) (sym (whole_behind a none))
    (either_front (slice_index a 0 == 91) (index_of 93 a + 1) (index_of 58 a) a)

-- ## Digits

pub all_digits : (ds : Text) → AllDigits 10 ds → list_all is_ascii_digit ds ≡ true
all_digits [] h = refl
all_digits (c ∷ cs) h = and_from _ _ (digit_told c h.0) (all_digits cs h.1)

pub all_small : (ds : Text) → list_all is_ascii_digit ds ≡ true → AllDigits 10 ds
all_small [] h = tt
all_small (c ∷ cs) h =
    let both = and_parts _ _ h in
    (digit_small c both.0, all_small cs both.1)

-- a colon, one digit or more, and a number in the range
pub port_yes : (ds : Text) → IsNumeral 10 ds → 1 ≤ digits_value 10 ds → digits_value 10 ds < 65536 → is_port (58 ∷ ds) ≡ true
port_yes ds h low high =
    let most : digits_value 10 ds ≤ 65535 = omega arith in
    and_from _ _ (and_from _ _ (and_from _ _ (lt-ltb 0 (length ds) h.0) (all_digits ds h.1)) (le-leb 1 _ low)) (le-leb _ 65535 most)

pub port_tells : (ds : Text) → is_port (58 ∷ ds) ≡ true → IsNumeral 10 ds × (1 ≤ digits_value 10 ds) × (digits_value 10 ds < 65536)
port_tells ds h =
    let one = and_parts _ _ h in
    let two = and_parts _ _ one.0 in
    let three = and_parts _ _ two.0 in
    let low : 1 ≤ digits_value 10 ds = leb-true _ _ two.1 in
    let high : digits_value 10 ds ≤ 65535 = leb-true _ _ one.1 in
    ((ltb-true _ _ three.0, all_small ds three.1), low, omega arith)

-- a text that isn't a colon and more is no port
pub no_colon : (t : Text) → 0 < length t → ((rest : Text) → t ≢ encode_utf8 58 ++ rest) → is_port t ≡ false
unfolding encode_utf8
no_colon [] some h = absurd (omega (arith, some))
no_colon (b ∷ ds) some h =
    false_from_ne_true _ λ yes.
    let one = and_parts _ _ yes in
    let two = and_parts _ _ one.0 in
    let three = and_parts _ _ two.0 in
    let four = and_parts _ _ three.0 in
    h ds (ap (λ (v : ℕ). v ∷ ds) (eqb-true b 58 four.0))

-- an authority without a user begins with its host
pub host_stands_first : (a host : Text) → host ≡ authority_host a → count_of 64 a ≡ 0 → ((rest : Text) → a ≢ host ++ rest) → ⊥
host_stands_first a host is none never =
    never (port_text a) (host_first a none ∙ ap (λ (h : Text). h ++ port_text a) (sym is))
