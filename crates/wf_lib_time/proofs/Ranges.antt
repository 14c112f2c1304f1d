-- The range of the moments, and what a text tells by its parts.
use Rattle.std.proofs.Common.{◌≡◌, ℕ, ◌<◌, Bool, true, false, length, take, drop, refl, sym, ap, ◌∙◌, arith, ℤ, pos, negsuc, ◌-ℤ◌, Option, None, Some, Ok, Err, length-take}
use Rattle.std.specs.Prelude.{codes, option_and_then, option_map}
use Rattle.std.proofs.lemmas.Bool.{le-leb}
use Rattle.jiff_core.proofs.SignedLemmas.{signed_arith}
use Rattle.wf_value.specs.LibTime.{civil_seconds, is_civil, offset_of, parsed_time, second_in_range, time_format, time_parse, time_text, without_fraction}
use Rattle.wf_value.specs.Data.{Data, integer, text}
use Rattle.wf_value.specs.Errors.{Answer, ◌>>=◌, or_error}
use Rattle.wf_value.specs.Pairs.{Text}
use Rattle.wf_value.specs.declared.Tag.TheVariants.{ValueError}
use Rattle.wf_lib_time.specs.Moments.{IsInTime, stamp_text}
use Rattle.wf_lib_time.proofs.Reals.{no_civil}
use Rattle.wf_lib_time.proofs.Forms.{too_short}

-- ## Writing
abbrev format_if : ℕ → Bool → Answer Data
format_if n true = Ok (text (time_text n))
format_if n false = Err ValueError

pub format_within : (z : ℤ) → IsInTime z → time_format (integer z) ≡ Ok (text (stamp_text z))
unfolding stamp_text
format_within (pos n) h = ap (format_if n) (le-leb n 253370764799 (omega (arith, signed_arith, h)))
format_within (negsuc n) h = absurd (omega (arith, signed_arith, h))

-- ## Reading
abbrev parsed_by : ℤ → Option Text → Bool → Option ℕ
parsed_by n w false = None
parsed_by n w true = option_and_then (λ o. second_in_range (n -ℤ o)) (option_and_then offset_of w)

parsed_is : (s front back : Text) (t : Bool) (n : ℤ) (w : Option Text) → front ≡ take 19 s → back ≡ drop 19 s → is_civil front ≡ t → civil_seconds front ≡ n → without_fraction back ≡ w → parsed_time s ≡ parsed_by n w t
parsed_is s front back t n w f b et en ew =
    (λ i. parsed_by (civil_seconds (sym f i)) (without_fraction (sym b i)) (is_civil (sym f i)))
    ∙ (λ i. parsed_by (en i) (ew i) (et i))

pub told_short : (s : Text) → length s < 19 → None ≡ option_map (λ n. pos n) (parsed_time s)
told_short s h =
    let short : length (take 19 s) < length (codes "dddd-dd-ddTdd:dd:dd") = omega (arith, h, length-take 19 s) in
    sym (ap (λ o. option_map (λ (k : ℕ). pos k) o) (parsed_is s (take 19 s) (drop 19 s) false (civil_seconds (take 19 s)) (without_fraction (drop 19 s)) refl refl (no_civil (take 19 s) (too_short (codes "dddd-dd-ddTdd:dd:dd") (take 19 s) short)) refl refl))

-- ## The answers of `time.parse`
parsed_some : (o : Option ℕ) (z : ℤ) → Some z ≡ option_map (λ n. pos n) o → (or_error ValueError o >>= λ n. Ok (integer (pos n))) ≡ Ok (integer z)
parsed_some None z h = cc
parsed_some (Some n) z h = cc

parsed_none : (o : Option ℕ) → None ≡ option_map (λ n. pos n) o → (or_error ValueError o >>= λ n. Ok (integer (pos n))) ≡ Err ValueError
parsed_none None h = refl
parsed_none (Some n) h = cc

pub parse_some : (s : Text) (z : ℤ) → Some z ≡ option_map (λ n. pos n) (parsed_time s) → time_parse (text s) ≡ Ok (integer z)
parse_some s z h = parsed_some (parsed_time s) z h

pub parse_none : (s : Text) → None ≡ option_map (λ n. pos n) (parsed_time s) → time_parse (text s) ≡ Err ValueError
parse_none s h = parsed_none (parsed_time s) h
