-- What stands behind the seconds.
use Rattle.std.proofs.Common.{◌≡◌, ◌≢◌, ℕ, suc, ◌+◌, ◌-◌, ◌*◌, ◌<◌, ◌≤◌, Bool, true, false, ◌&&◌, [], ◌∷◌, length, take, drop, refl, sym, ap, subst, ◌∙◌, arith, ℤ, pos, neg_ℤ, ◌-ℤ◌, Option, None, Some}
use Rattle.std.specs.Prelude.{codes, if◌then◌else◌, nat_le, bytes_eq}
use Rattle.std.specs.Char.{is_ascii_digit}
use Rattle.std.specs.List.{prefix_len}
use Rattle.std.proofs.lemmas.List.{length-drop, take_all}
use Rattle.std.proofs.lemmas.Bool.{and_from, and_right, ne_eqb, le-leb, lt-leb}
use Rattle.jiff_core.proofs.SignedLemmas.{signed_arith}
use Rattle.wf_value.specs.LibTime.{has_form, is_real_offset, minutes_ahead, offset_of, without_digits, without_fraction}
use Rattle.wf_value.specs.Pairs.{Text}

-- ## The zone, by the tests of its text
abbrev zone_by : Bool → Bool → Bool → Bool → Text → Option ℤ
zone_by z p m r s = if z then Some (pos 0) else (if p && r then Some (pos (minutes_ahead s * 60)) else (if m && r then Some (neg_ℤ (pos (minutes_ahead s * 60))) else None))

zone_is : (s : Text) (z p m r : Bool) → bytes_eq s (codes "Z") ≡ z → has_form (codes "+dd:dd") s ≡ p → has_form (codes "-dd:dd") s ≡ m → is_real_offset s ≡ r → offset_of s ≡ zone_by z p m r s
zone_is s z p m r ez ep em er = (λ i. zone_by (ez i) (ep i) (em i) (er i) s)

pub behind : (s : Text) (n : ℤ) → bytes_eq s (codes "Z") ≡ false → has_form (codes "+dd:dd") s ≡ false → has_form (codes "-dd:dd") s ≡ true → is_real_offset s ≡ true → n ≡ pos (minutes_ahead s * 60) → Some (pos 0 -ℤ n) ≡ offset_of s
behind s n z p m r e =
    let back : pos 0 -ℤ n ≡ neg_ℤ (pos (minutes_ahead s * 60)) = omega (arith, signed_arith, e) in
    ap Some back ∙ sym (zone_is s false false true true z p m r)

-- ## The fraction
pub no_text : (s : Text) → length s ≡ 0 → without_fraction s ≡ Some s
no_text [] h = refl
no_text (b ∷ s) h = absurd (omega (arith, h))

pub no_point : (s d : Text) (b : ℕ) → s ≡ b ∷ d → b ≢ 46 → without_fraction s ≡ Some s
no_point s d b is no_dot =
    let kept : without_fraction (b ∷ d) ≡ Some (b ∷ d) = ap (λ t. if t && true then without_digits (prefix_len is_ascii_digit d) (b ∷ d) else Some (b ∷ d)) (ne_eqb b 46 no_dot) in
    subst (λ (x : Text). without_fraction x ≡ Some x) (sym is) kept

-- the digits behind a point, and how many they are
point_then : (s d : Text) (b n : ℕ) → s ≡ b ∷ d → b ≡ 46 → n ≡ prefix_len is_ascii_digit d → without_fraction s ≡ without_digits n (46 ∷ d)
point_then s d b n is dot count =
    ap without_fraction (is ∙ ap (λ x. x ∷ d) dot) ∙ ap (λ k. without_digits k (46 ∷ d)) (sym count)

rest_whole : (n : ℕ) (d : Text) → drop n d ≡ take (length d - n) (drop n d)
rest_whole n d = sym (take_all (length d - n) (drop n d) (omega (arith, length-drop n d)))

pub few_digits : (s d : Text) (b n : ℕ) → s ≡ b ∷ d → b ≡ 46 → n ≡ prefix_len is_ascii_digit d → n ≢ 0 → n ≤ 9 → without_fraction s ≡ Some (take (length d - n) (drop n d))
few_digits s d b n is dot count some few =
    let more : 1 + n ≡ suc n = omega arith in
    point_then s d b n is dot count
    ∙ ap (λ t. if t then Some (drop (1 + n) (46 ∷ d)) else None) (and_from (nat_le 1 n) (nat_le n 9) (le-leb 1 n (omega (arith, some))) (le-leb n 9 few))
    ∙ ap (λ k. Some (drop k (46 ∷ d))) more
    ∙ ap Some (rest_whole n d)

pub no_digits : (s d : Text) (b n : ℕ) → s ≡ b ∷ d → b ≡ 46 → n ≡ prefix_len is_ascii_digit d → n ≡ 0 → without_fraction s ≡ None
no_digits s d b n is dot count none = point_then s d b n is dot count ∙ ap (λ k. without_digits k (46 ∷ d)) none

pub many_digits : (s d : Text) (b n : ℕ) → s ≡ b ∷ d → b ≡ 46 → n ≡ prefix_len is_ascii_digit d → 9 < n → without_fraction s ≡ None
many_digits s d b n is dot count many =
    point_then s d b n is dot count
    ∙ ap (λ t. if t then Some (drop (1 + n) (46 ∷ d)) else None) (and_right (nat_le 1 n) (nat_le n 9) (lt-leb n 9 many))
