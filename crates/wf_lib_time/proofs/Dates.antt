-- The year, the month and the day of a count of days, found one year and one month after the other.
use Rattle.std.proofs.Common.{◌≡◌, ℕ, zero, suc, ◌+◌, ◌-◌, ◌<◌, ◌≤◌, Bool, true, false, refl, ap, ◌∙◌, arith, inl, inr, ℤ, pos, neg_ℤ, ◌≤ℤ◌, ◌<ℤ◌, unsigned_abs}
use Rattle.std.proofs.lemmas.Bool.{cases_lt, lt-ltb, le-ltb}
use Rattle.jiff_core.specs.Calendar.{IsCivilDate, day_count, day_of_year, days_from_civil, days_in_month, days_in_year, days_of_months}
use Rattle.jiff_core.proofs.CalendarLemmas.{day_count-day_of_year, day_count-end, day_count-epoch, day_count-last_of_year, day_count-later_year, day_count-lt_year, day_count-next_year, day_of_year_bound, days_from_civil-day_count, days_of_months-zero, days_of_months_mono}
use Rattle.jiff_core.proofs.SignedLemmas.{signed_arith, one_part}
use Rattle.wf_value.specs.LibTime.{month_of, year_of}
use borrow.Author.Differences.{up, down}

-- ## Months
months_more : (y : ℤ) (n : ℕ) → days_of_months y (suc n) ≡ days_of_months y n + days_in_month y (suc n)
unfolding days_of_months
months_more y n = refl

abbrev month_if : ℕ → ℕ → ℕ → ℕ → Bool → ℕ × ℕ
month_if k y m d true = (m, suc d)
month_if k y m d false = month_of k y (suc m) (d - days_in_month (pos y) m)

-- p and from are a month less one
month_at : (k y from p d d0 : ℕ) → from ≤ p → p ≤ from + k → 1 ≤ d → d ≤ days_in_month (pos y) (suc p) → d0 + 1 + days_of_months (pos y) from ≡ days_of_months (pos y) p + d → month_of k y (suc from) d0 ≡ (suc p, d)
month_at zero y from p d d0 low high first last h =
    let same : from ≡ p = omega arith in
    let day : suc d0 ≡ d = omega (arith, h, ap (λ x. days_of_months (pos y) x) same) in
    (λ i. (suc (same i), day i))
month_at (suc k) y from p d d0 low high first last h = elim (cases_lt d0 (days_in_month (pos y) (suc from))) [
  | inl lt ↦
      let stays : p ≤ from = elim (cases_lt from p) [ inl less ↦ omega (arith, h, months_more (pos y) from, days_of_months_mono (pos y) (suc from) p less) | inr ge ↦ ge ] in
      let same : from ≡ p = omega arith in
      let day : suc d0 ≡ d = omega (arith, h, ap (λ x. days_of_months (pos y) x) same) in
      ap (month_if k y (suc from) d0) (lt-ltb d0 (days_in_month (pos y) (suc from)) lt) ∙ (λ i. (suc (same i), day i))
  | inr ge ↦
      let goes : suc from ≤ p = elim (cases_lt from p) [ inl less ↦ less | inr more ↦ (let same : from ≡ p = omega arith in omega (arith, h, last, ap (λ x. days_of_months (pos y) x) same, ap (λ x. days_in_month (pos y) (suc x)) same)) ] in
      ap (month_if k y (suc from) d0) (le-ltb d0 (days_in_month (pos y) (suc from)) ge)
      ∙ month_at k y (suc from) p d (d0 - days_in_month (pos y) (suc from)) goes (omega arith) first last (omega (arith, h, months_more (pos y) from))
]

-- ## Years
abbrev year_if : ℕ → ℕ → ℕ → Bool → ℕ × ℕ
year_if k y d true = (y, d)
year_if k y d false = year_of k (suc y) (d - days_in_year (pos y))

above : (y : ℕ) → neg_ℤ (pos 10000) ≤ℤ pos y
above y = omega (arith, signed_arith)

year_at : (k from y m d days : ℕ) → from ≤ y → y ≤ from + k → IsCivilDate (pos y) m d → day_count (pos y) m d ≡ day_count (pos from) 1 1 + days → year_of k from days ≡ (y, day_of_year (pos y) m d - 1)
year_at zero from y m d days low high h is =
    let same : from ≡ y = omega arith in
    let day : days ≡ day_of_year (pos y) m d - 1 = omega (arith, is, day_count-day_of_year (pos y) m d h.2.0, ap (λ x. day_count (pos x) 1 1) same) in
    (λ i. (same i, day i))
year_at (suc k) from y m d days low high h is = elim (cases_lt days (days_in_year (pos from))) [
  | inl lt ↦
      let stays : y ≤ from = elim (cases_lt from y) [ inl less ↦ omega (arith, is, h.2.0, day_count-day_of_year (pos y) m d h.2.0, day_count-later_year (pos from) (pos y) (above from) (omega (arith, signed_arith))) | inr ge ↦ ge ] in
      let same : from ≡ y = omega arith in
      let day : days ≡ day_of_year (pos y) m d - 1 = omega (arith, is, day_count-day_of_year (pos y) m d h.2.0, ap (λ x. day_count (pos x) 1 1) same) in
      ap (year_if k from days) (lt-ltb days (days_in_year (pos from)) lt) ∙ (λ i. (same i, day i))
  | inr ge ↦
      let goes : suc from ≤ y = elim (cases_lt from y) [ inl less ↦ less | inr more ↦ (let same : from ≡ y = omega arith in omega (arith, is, day_count-day_of_year (pos y) m d h.2.0, day_of_year_bound (pos y) m d h, ap (λ x. day_count (pos x) 1 1) same, ap (λ x. days_in_year (pos x)) same)) ] in
      let next : day_count (pos (suc from)) 1 1 ≡ day_count (pos from) 1 1 + days_in_year (pos from) = day_count-next_year (pos from) (pos (suc from)) (above from) (omega (arith, signed_arith)) in
      ap (year_if k from days) (le-ltb days (days_in_year (pos from)) ge)
      ∙ year_at k (suc from) y m d (days - days_in_year (pos from)) goes (omega arith) h (omega (arith, is, next))
]

-- ## From 1970 to the end of 9998
new_years_eve : IsCivilDate (pos 9998) 12 31
new_years_eve = ((omega (arith, signed_arith), omega (arith, signed_arith)), (omega arith, omega arith), (omega arith, omega arith))

last_day : day_count (pos 9998) 12 31 ≡ 7304484
last_day =
    omega (arith, day_count-end, day_count-last_of_year (pos 9998), day_count-next_year (pos 9998) (pos 9999) (above 9998) refl, day_count-next_year (pos 9999) (pos 10000) (above 9999) refl)

-- the year of a date whose day number is no less than 0 and keeps below the first day of 9999
pub year_is : (y : ℤ) (m d days : ℕ) → IsCivilDate y m d → days_from_civil y m d ≡ pos days → days < 2932532 → (n : ℕ) × (y ≡ pos n) × (1970 ≤ n) × (n ≤ 9998)
year_is y m d days h is small =
    let count : day_count y m d ≡ 4371953 + days = omega (arith, signed_arith, is, days_from_civil-day_count y m d) in
    let late : 1970 + down y ≤ up y = elim (cases_lt (up y) (1970 + down y)) [
      | inl less ↦ (let before : y <ℤ pos 1970 = omega (arith, signed_arith, less) in omega (arith, count, day_count-epoch, day_count-lt_year y m d (pos 1970) 1 1 h (omega arith) before))
      | inr ge ↦ ge
    ] in
    let early : up y < 9999 + down y = elim (cases_lt (up y) (9999 + down y)) [
      | inl less ↦ less
      | inr ge ↦ (let behind : pos 9998 <ℤ y = omega (arith, signed_arith, ge) in omega (arith, count, small, last_day, day_count-lt_year (pos 9998) 12 31 y m d new_years_eve h.2.0 behind))
    ] in
    (unsigned_abs y, omega (arith, signed_arith, one_part y), omega (arith, signed_arith, one_part y), omega (arith, signed_arith, one_part y))

pub date_is : (y m d days : ℕ) → IsCivilDate (pos y) m d → days_from_civil (pos y) m d ≡ pos days → 1970 ≤ y → y ≤ 9998 → (year_of 8028 1970 days ≡ (y, day_of_year (pos y) m d - 1)) × (month_of 11 y 1 (day_of_year (pos y) m d - 1) ≡ (m, d))
date_is y m d days h is low high =
    let count : day_count (pos y) m d ≡ day_count (pos 1970) 1 1 + days = omega (arith, signed_arith, is, days_from_civil-day_count (pos y) m d, day_count-epoch) in
    let month : suc (m - 1) ≡ m = omega (arith, h.1) in
    let last : d ≤ days_in_month (pos y) (suc (m - 1)) = omega (arith, h.2, ap (λ x. days_in_month (pos y) x) month) in (
      year_at 8028 1970 y m d days low (omega arith) h count,
      month_at 11 y 0 (m - 1) d (day_of_year (pos y) m d - 1) (omega arith) (omega (arith, h.1)) h.2.0 last (omega (arith, h.2, days_of_months-zero (pos y))) ∙ (λ i. (month i, d)),
    )
