-- Dates and times of day that are real, and their seconds.
use Rattle.std.proofs.Common.{◌≡◌, ℕ, ◌+◌, ◌*◌, ◌≤◌, Bool, true, false, ◌&&◌, sym, ap, subst, ◌∙◌, arith, ℤ, pos, Option, MatchOption, ◌+ℤ◌, ◌*ℤ◌}
use Rattle.std.specs.Prelude.{nat_le, codes}
use Rattle.std.proofs.lemmas.Bool.{and_from, and_parts, false_from_ne_true, leb-true, le-leb}
use Rattle.jiff_core.specs.Calendar.{IsDate, days_from_civil, days_in_month}
use Rattle.jiff_core.specs.Time.{IsTime}
use Rattle.jiff_core.specs.DateTime as moment
use Rattle.jiff_core.specs.declared.civil.datetime.DateTime.{DateTime}
use Rattle.jiff_core.proofs.SignedLemmas.{signed_arith}
use Rattle.wf_value.specs.LibTime.{civil_seconds, has_form, is_civil, is_real_date, is_real_time, number_at}
use Rattle.wf_value.specs.Pairs.{Text}
use Rattle.wf_lib_time.specs.Moments.{date_seconds}

abbrev pub is_real : ℕ → ℕ → ℕ → ℕ → ℕ → ℕ → Bool
is_real y mo d h mi s = is_real_date y mo d && is_real_time h mi s

abbrev pub IsReal : ℕ → ℕ → ℕ → ℕ → ℕ → ℕ → Type 0
IsReal y mo d h mi s = IsDate (pos y) (pos mo) (pos d) × IsTime (pos h) (pos mi) (pos s) (pos 0)

pub real_told : (y mo d h mi s : ℕ) → IsReal y mo d h mi s → is_real y mo d h mi s ≡ true
real_told y mo d h mi s is =
    let m1 : 1 ≤ mo = omega (arith, signed_arith, is) in
    let m2 : mo ≤ 12 = omega (arith, signed_arith, is) in
    let d1 : 1 ≤ d = omega (arith, signed_arith, is) in
    let d2 : d ≤ days_in_month (pos y) mo = omega (arith, signed_arith, is) in
    let h1 : h ≤ 23 = omega (arith, signed_arith, is) in
    let i1 : mi ≤ 59 = omega (arith, signed_arith, is) in
    let s1 : s ≤ 59 = omega (arith, signed_arith, is) in
    let date : is_real_date y mo d ≡ true = and_from _ _ (and_from _ _ (and_from _ _ (le-leb 1 mo m1) (le-leb mo 12 m2)) (le-leb 1 d d1)) (le-leb d (days_in_month (pos y) mo) d2) in
    let time : is_real_time h mi s ≡ true = and_from _ _ (and_from _ _ (le-leb h 23 h1) (le-leb mi 59 i1)) (le-leb s 59 s1) in
    and_from _ _ date time

pub real_from : (y mo d h mi s : ℕ) → y ≤ 9999 → is_real y mo d h mi s ≡ true → IsReal y mo d h mi s
real_from y mo d h mi s small is =
    let both = and_parts (is_real_date y mo d) (is_real_time h mi s) is in
    let date = and_parts (nat_le 1 mo && nat_le mo 12 && nat_le 1 d) (nat_le d (days_in_month (pos y) mo)) both.0 in
    let days = and_parts (nat_le 1 mo && nat_le mo 12) (nat_le 1 d) date.0 in
    let months = and_parts (nat_le 1 mo) (nat_le mo 12) days.0 in
    let time = and_parts (nat_le h 23 && nat_le mi 59) (nat_le s 59) both.1 in
    let hours = and_parts (nat_le h 23) (nat_le mi 59) time.0 in
    let m1 = leb-true 1 mo months.0 in
    let m2 = leb-true mo 12 months.1 in
    let d1 = leb-true 1 d days.1 in
    let d2 = leb-true d (days_in_month (pos y) mo) date.1 in
    let h1 = leb-true h 23 hours.0 in
    let i1 = leb-true mi 59 hours.1 in
    let s1 = leb-true s 59 time.1 in (
      ((omega (arith, signed_arith), omega (arith, signed_arith)), (omega (arith, signed_arith), omega (arith, signed_arith)), (omega (arith, signed_arith), omega (arith, signed_arith))),
      ((omega (arith, signed_arith), omega (arith, signed_arith)), (omega (arith, signed_arith), omega (arith, signed_arith)), (omega (arith, signed_arith), omega (arith, signed_arith)), (omega (arith, signed_arith), omega (arith, signed_arith))),
    )

pub civil_is : (at : DateTime) (y mo d h mi s : ℕ) → at.date.year ≡ pos y → at.date.month ≡ mo → at.date.day ≡ d → at.time.hour ≡ h → at.time.minute ≡ mi → at.time.second ≡ s → moment.civil_seconds at ≡ date_seconds y mo d h mi s
unfolding moment.civil_seconds
civil_is at y mo d h mi s ey emo ed eh emi es = (λ i. days_from_civil (ey i) (emo i) (ed i) *ℤ pos 86400 +ℤ pos (eh i * 3600 + emi i * 60 + es i))

-- the test of a text that has the form
pub is_civil_of : (s : Text) → has_form (codes "dddd-dd-ddTdd:dd:dd") s ≡ true → is_civil s ≡ is_real (number_at 0 4 s) (number_at 5 7 s) (number_at 8 10 s) (number_at 11 13 s) (number_at 14 16 s) (number_at 17 19 s)
is_civil_of s h = ap (λ t. t && is_real_date (number_at 0 4 s) (number_at 5 7 s) (number_at 8 10 s) && is_real_time (number_at 11 13 s) (number_at 14 16 s) (number_at 17 19 s)) h

pub no_civil : (s : Text) → has_form (codes "dddd-dd-ddTdd:dd:dd") s ≡ false → is_civil s ≡ false
no_civil s h = ap (λ t. t && is_real_date (number_at 0 4 s) (number_at 5 7 s) (number_at 8 10 s) && is_real_time (number_at 11 13 s) (number_at 14 16 s) (number_at 17 19 s)) h

-- ## What a constructor of dates and times says
pub unreal : (y mo d h mi s : ℕ) → y ≤ 9999 → ¬ (IsReal y mo d h mi s) → is_real y mo d h mi s ≡ false
unreal y mo d h mi s small not = false_from_ne_true (is_real y mo d h mi s) (λ is. not (real_from y mo d h mi s small is))

-- what the numbers of a text tell
abbrev pub HasWhere : Option ℤ → Bool → ℤ → Type 0
HasWhere r t z = MatchOption r (t ≡ false) (λ n. (t ≡ true) × (n ≡ z))

pub tells_civil : (s : Text) (y mo d h mi sec : ℕ) (r : Option ℤ) → has_form (codes "dddd-dd-ddTdd:dd:dd") s ≡ true → y ≡ number_at 0 4 s → mo ≡ number_at 5 7 s → d ≡ number_at 8 10 s → h ≡ number_at 11 13 s → mi ≡ number_at 14 16 s → sec ≡ number_at 17 19 s → HasWhere r (is_real y mo d h mi sec) (date_seconds y mo d h mi sec) → HasWhere r (is_civil s) (civil_seconds s)
tells_civil s y mo d h mi sec r form ey emo ed eh emi es told =
    let test : is_real y mo d h mi sec ≡ is_civil s = (λ i. is_real (ey i) (emo i) (ed i) (eh i) (emi i) (es i)) ∙ sym (is_civil_of s form) in
    let value : date_seconds y mo d h mi sec ≡ civil_seconds s = (λ i. date_seconds (ey i) (emo i) (ed i) (eh i) (emi i) (es i)) in
    subst (λ (z : ℤ). HasWhere r (is_civil s) z) value (subst (λ (t : Bool). HasWhere r t (date_seconds y mo d h mi sec)) test told)
