-- The functions of time: seconds since 1970-01-01T00:00:00Z, and their texts. The calendar is that of `jiff`.
--     time_format, time_text       `YYYY-MM-DDTHH:MM:SSZ` of some seconds
--     time_parse, parsed_time      the seconds that a text tells
use Rattle.std.specs.Prelude.{ℕ, zero, suc, ◌+◌, ◌-◌, ◌*◌, ◌/◌, ◌%◌, Bool, true, false, ◌&&◌, [], ◌∷◌, ◌++◌, take, drop, ℤ, pos, negsuc, ◌+ℤ◌, ◌-ℤ◌, ◌*ℤ◌, neg_ℤ, if◌then◌else◌, nat_lt, nat_le, ◌==◌, slice_range, Some, None, Ok, Err, codes, bytes_eq, Option, option_and_then}
use Rattle.std.specs.List.{prefix_len}
use Rattle.std.specs.Char.{is_ascii_digit}
use Rattle.std.specs.Str.Parse.{digits_value}
use Rattle.jiff_core.specs.Calendar.{days_in_year, days_in_month, days_from_civil}
use Rattle.wf_value.specs.Data.{Data, integer, text}
use Rattle.wf_value.specs.Errors.{Answer, ◌>>=◌, or_error}
use Rattle.wf_value.specs.declared.errors.Tag.TheVariants.{TypeError, ValueError}
use Rattle.wf_value.specs.Pairs.{Text}

-- 9998-12-31T23:59:59Z
abbrev pub last_second : ℕ
last_second = 253370764799

-- ## Writing
-- a day's year, and the days of that year before it, from a year's first day on
abbrev pub year_of : ℕ → ℕ → ℕ → ℕ × ℕ
year_of zero y d = (y, d)
year_of (suc n) y d = elim (nat_lt d (days_in_year (pos y))) [ true ↦ (y, d) | false ↦ year_of n (suc y) (d - days_in_year (pos y)) ]

-- its month, and the day of the month, from a month's first day on
abbrev pub month_of : ℕ → ℕ → ℕ → ℕ → ℕ × ℕ
month_of zero y m d = (m, suc d)
month_of (suc n) y m d = elim (nat_lt d (days_in_month (pos y) m)) [ true ↦ (m, suc d) | false ↦ month_of n y (suc m) (d - days_in_month (pos y) m) ]

-- the last decimal digit
abbrev pub digit : ℕ → ℕ
digit n = 48 + n % 10

abbrev pub two_digits : ℕ → Text
two_digits n = digit (n / 10) ∷ digit n ∷ []

abbrev pub date_text : ℕ → ℕ × ℕ → Text
date_text y m = two_digits (y / 100) ++ two_digits y ++ codes "-" ++ two_digits m.0 ++ codes "-" ++ two_digits m.1

abbrev pub day_text : ℕ × ℕ → Text
day_text y = date_text y.0 (month_of 11 y.0 1 y.1)

abbrev pub clock_text : ℕ → Text
clock_text s = two_digits (s / 3600) ++ codes ":" ++ two_digits (s / 60 % 60) ++ codes ":" ++ two_digits (s % 60)

-- `YYYY-MM-DDTHH:MM:SSZ`
abbrev pub time_text : ℕ → Text
time_text s = day_text (year_of 8028 1970 (s / 86400)) ++ codes "T" ++ clock_text (s % 86400) ++ codes "Z"

abbrev pub time_format : Data → Answer Data
time_format (integer (pos s)) = elim (nat_le s last_second) [ true ↦ Ok (text (time_text s)) | false ↦ Err ValueError ]
time_format (integer (negsuc s)) = Err ValueError
time_format v = Err TypeError

-- ## Reading
-- the text has the form, in which each `d` stands for a digit
abbrev pub has_form : Text → Text → Bool
has_form [] [] = true
has_form (f ∷ fs) (b ∷ s) = (if f == 100 then is_ascii_digit b else f == b) && has_form fs s
has_form [] (b ∷ s) = false
has_form (f ∷ fs) [] = false

-- the number whose digits stand there
abbrev pub number_at : ℕ → ℕ → Text → ℕ
number_at from to s = digits_value 10 (slice_range s from to)

abbrev pub is_real_date : ℕ → ℕ → ℕ → Bool
is_real_date y m d = nat_le 1 m && nat_le m 12 && nat_le 1 d && nat_le d (days_in_month (pos y) m)

abbrev pub is_real_time : ℕ → ℕ → ℕ → Bool
is_real_time h m s = nat_le h 23 && nat_le m 59 && nat_le s 59

-- what follows the seconds: optionally a point and one to nine digits, which are dropped
abbrev pub without_digits : ℕ → Text → Option Text
without_digits n s = if nat_le 1 n && nat_le n 9 then Some (drop (1 + n) s) else None

abbrev pub without_fraction : Text → Option Text
without_fraction s = if bytes_eq (take 1 s) (codes ".") then without_digits (prefix_len is_ascii_digit (drop 1 s)) s else Some s

-- the seconds that a zone is ahead: `Z`, or hours and minutes with a sign
abbrev pub minutes_ahead : Text → ℕ
minutes_ahead s = number_at 1 3 s * 60 + number_at 4 6 s

abbrev pub is_real_offset : Text → Bool
is_real_offset s = is_real_time (number_at 1 3 s) (number_at 4 6 s) 0

abbrev pub offset_of : Text → Option ℤ
offset_of s =
    if bytes_eq s (codes "Z") then Some (pos 0) else
    (if has_form (codes "+dd:dd") s && is_real_offset s then Some (pos (minutes_ahead s * 60)) else
    (if has_form (codes "-dd:dd") s && is_real_offset s then Some (neg_ℤ (pos (minutes_ahead s * 60))) else None))

-- a real date and a time of day
abbrev pub is_civil : Text → Bool
is_civil s =
    has_form (codes "dddd-dd-ddTdd:dd:dd") s && is_real_date (number_at 0 4 s) (number_at 5 7 s) (number_at 8 10 s)
    && is_real_time (number_at 11 13 s) (number_at 14 16 s) (number_at 17 19 s)

-- the seconds from 1970 to it
abbrev pub civil_seconds : Text → ℤ
civil_seconds s =
    days_from_civil (pos (number_at 0 4 s)) (number_at 5 7 s) (number_at 8 10 s) *ℤ pos 86400
    +ℤ pos (number_at 11 13 s * 3600 + number_at 14 16 s * 60 + number_at 17 19 s)

abbrev pub second_in_range : ℤ → Option ℕ
second_in_range (pos n) = if nat_le n last_second then Some n else None
second_in_range (negsuc n) = None

-- the seconds since 1970 that a text tells
abbrev pub parsed_time : Text → Option ℕ
parsed_time s = elim (is_civil (take 19 s)) [ false ↦ None | true ↦ option_and_then (λ o. second_in_range (civil_seconds (take 19 s) -ℤ o)) (option_and_then offset_of (without_fraction (drop 19 s))) ]

abbrev pub time_parse : Data → Answer Data
time_parse (text s) = or_error ValueError (parsed_time s) >>= λ n. Ok (integer (pos n))
time_parse v = Err TypeError
