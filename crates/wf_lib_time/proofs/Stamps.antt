-- The text of a date and a time of day.
use Rattle.std.proofs.Common.{◌≡◌, ℕ, ◌+◌, ◌-◌, ◌*◌, ◌/◌, ◌%◌, ◌<◌, ◌≤◌, List, [], ◌∷◌, ◌++◌, None, refl, sym, ap, subst, ◌∙◌, arith, ℤ, pos, ◌*ℤ◌, negsuc}
use Rattle.std.specs.Prelude.{codes}
use Rattle.jiff.specs.Names.{iso_datetime_text}
use Rattle.jiff_fmt.specs.Text.{fraction_part, pad2, pad4, year_text}
use Rattle.jiff_core.specs.declared.civil.datetime.DateTime.{DateTime}
use Rattle.jiff_core.specs.Calendar.{IsCivilDate, day_of_year, days_from_civil}
use Rattle.jiff_core.specs.Date.{epoch_day}
use Rattle.jiff_core.specs.Time.{time_nanos, time_seconds}
use Rattle.jiff_core.specs.DateTime.{civil_nanos}
use Rattle.jiff_core.proofs.DateLemmas.{civil}
use Rattle.jiff_core.proofs.CalendarLemmas.{days_in_month_bounds}
use Rattle.jiff_core.proofs.DateTimeLemmas.{civil_nanos-parts, time_nanos_bound}
use Rattle.jiff_core.proofs.SignedLemmas.{signed_arith}
use Rattle.wf_value.specs.LibTime.{clock_text, date_text, day_text, month_of, time_text, two_digits, year_of}
use Rattle.wf_lib_time.proofs.Dates.{date_is, year_is}
use Rattle.wf_lib_time.specs.Moments.{IsInTime, stamp_text}

two_is : (n : ℕ) → n < 100 → pad2 n ≡ two_digits n
two_is n h = let tens : n / 10 ≡ n / 10 % 10 = omega arith in ap (λ x. (48 + x) ∷ (48 + n % 10) ∷ []) tens

four_is : (n : ℕ) → n < 10000 → pad4 n ≡ two_digits (n / 100) ++ two_digits n
four_is n h =
    let tens : n % 100 / 10 ≡ n / 10 % 10 = omega arith in
    let ones : n % 100 % 10 ≡ n % 10 = omega arith in
    let last : pad2 (n % 100) ≡ two_digits n = (λ i. (48 + tens i) ∷ (48 + ones i) ∷ []) in
    (λ i. two_is (n / 100) (omega arith) i ++ last i)

-- the parts of the text, as `jiff` writes it
abbrev written : List ℕ → List ℕ → List ℕ → List ℕ → List ℕ → List ℕ → List ℕ → List ℕ
written y mo d h mi s f = (y ++ 45 ∷ [] ++ mo ++ 45 ∷ [] ++ d ++ 84 ∷ (h ++ 58 ∷ mi ++ 58 ∷ s ++ f)) ++ codes "Z"

as_written : (at : DateTime) → iso_datetime_text at ++ codes "Z" ≡ written (year_text at.date.year) (pad2 at.date.month) (pad2 at.date.day) (pad2 at.time.hour) (pad2 at.time.minute) (pad2 at.time.second) (fraction_part None at.time.subsec_nanosecond)
as_written at = refl

-- the parts of a text, as the language has it
as_told : (y mo d n : ℕ) (day : ℕ × ℕ) → day ≡ (y, d) → (m : ℕ × ℕ) → month_of 11 y 1 d ≡ m → written (two_digits (y / 100) ++ two_digits y) (two_digits m.0) (two_digits m.1) (two_digits (n / 3600)) (two_digits (n / 60 % 60)) (two_digits (n % 60)) [] ≡ day_text day ++ codes "T" ++ clock_text n ++ codes "Z"
as_told y mo d n day e m f =
    (λ i. date_text y (sym f i) ++ codes "T" ++ clock_text n ++ codes "Z")
    ∙ (λ i. day_text (sym e i) ++ codes "T" ++ clock_text n ++ codes "Z")

-- the parts of so many seconds
record IsAt (at : DateTime) (n : ℕ) : Type 0 where
  day : epoch_day at.date ≡ pos (n / 86400)
  hour : at.time.hour ≡ n % 86400 / 3600
  minute : at.time.minute ≡ n % 86400 / 60 % 60
  second : at.time.second ≡ n % 86400 % 60
  whole : at.time.subsec_nanosecond ≡ 0

time_is : (at : DateTime) (n : ℕ) → civil_nanos at ≡ pos n *ℤ pos 1000000000 → IsAt at n
time_is at n h =
    let day : epoch_day at.date ≡ pos (n / 86400) = omega (arith, signed_arith, h, civil_nanos-parts at, time_nanos_bound at.time) in
    let left : time_nanos at.time ≡ n % 86400 * 1000000000 = omega (arith, signed_arith, h, civil_nanos-parts at, time_nanos_bound at.time) in
    let whole : at.time.subsec_nanosecond ≡ 0 = omega (arith, left) in
    let seconds : time_seconds at.time ≡ n % 86400 = omega (arith, left, whole) in
    record {
      day = day;
      hour = omega (arith, seconds);
      minute = omega (arith, seconds);
      second = omega (arith, seconds);
      whole = whole;
    }

pub stamped : (at : DateTime) (n : ℕ) → n ≤ 253370764799 → civil_nanos at ≡ pos n *ℤ pos 1000000000 → iso_datetime_text at ++ codes "Z" ≡ time_text n
stamped at n small h =
    let is = time_is at n h in
    let date = civil at.date in
    let year = year_is at.date.year at.date.month at.date.day (n / 86400) date is.day (omega (arith, small)) in
    let real : IsCivilDate (pos year.0) at.date.month at.date.day = subst (λ (y : ℤ). IsCivilDate y at.date.month at.date.day) year.1 date in
    let days : days_from_civil (pos year.0) at.date.month at.date.day ≡ pos (n / 86400) = ap (λ y. days_from_civil y at.date.month at.date.day) (sym year.1) ∙ is.day in
    let parts = date_is year.0 at.date.month at.date.day (n / 86400) real days year.2 year.3 in
    let years : year_text at.date.year ≡ two_digits (year.0 / 100) ++ two_digits year.0 = ap year_text year.1 ∙ four_is year.0 (omega (arith, year.3)) in
    let hours : pad2 at.time.hour ≡ two_digits (n % 86400 / 3600) = two_is at.time.hour (omega arith) ∙ ap two_digits is.hour in
    let minutes : pad2 at.time.minute ≡ two_digits (n % 86400 / 60 % 60) = two_is at.time.minute (omega arith) ∙ ap two_digits is.minute in
    let seconds : pad2 at.time.second ≡ two_digits (n % 86400 % 60) = two_is at.time.second (omega arith) ∙ ap two_digits is.second in
    as_written at
    ∙ (λ i. written (years i) (two_is at.date.month (omega (arith, date)) i) (two_is at.date.day (omega (arith, date, days_in_month_bounds at.date.year at.date.month)) i) (hours i) (minutes i) (seconds i) (fraction_part None (is.whole i)))
    ∙ as_told year.0 at.date.month (day_of_year (pos year.0) at.date.month at.date.day - 1) (n % 86400) (year_of 8028 1970 (n / 86400)) parts.0 (at.date.month, at.date.day) parts.1

pub stamped_at : (at : DateTime) (z : ℤ) → IsInTime z → civil_nanos at ≡ z *ℤ pos 1000000000 → iso_datetime_text at ++ codes "Z" ≡ stamp_text z
unfolding stamp_text
stamped_at at (pos n) within h = stamped at n (omega (arith, signed_arith, within)) h
stamped_at at (negsuc n) within h = absurd (omega (arith, signed_arith, within))
