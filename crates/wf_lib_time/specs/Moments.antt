-- Moments, and the parts of their texts.
use Rattle.std.specs.Prelude.{◌≡◌, ◌<◌, ◌+◌, ◌*◌, ℕ, Bool, true, length, ℤ, pos, ◌+ℤ◌, ◌*ℤ◌, ◌==◌, if◌then◌else◌, slice_index, unsigned_abs}
use Rattle.std.specs.Char.{is_ascii_digit}
use Rattle.jiff_core.specs.Calendar.{IsBetween, IsWithin, days_from_civil}
use Rattle.wf_value.specs.LibTime.{time_text}
use Rattle.wf_value.specs.Pairs.{Text}

-- from 1970 to the last second of the year 9998
abbrev pub IsInTime : ℤ → Type 0
IsInTime n = IsBetween (pos 0) (pos 253370764799) n

-- so few seconds that sums of them keep far within 64 bits
abbrev pub IsShort : ℤ → Type 0
IsShort n = IsWithin 1000000000000 n

-- a byte may stand at this place of a form, in which `d` stands for a digit
abbrev pub fits : ℕ → ℕ → Bool
fits f b = if f == 100 then is_ascii_digit b else f == b

-- two digits stand there
abbrev pub HasTwoDigits : Text → ℕ → Type 0
HasTwoDigits s at = (at + 1 < length s) × (is_ascii_digit (slice_index s at) ≡ true) × (is_ascii_digit (slice_index s (at + 1)) ≡ true)

-- the seconds from 1970 to a date and a time of day
abbrev pub date_seconds : ℕ → ℕ → ℕ → ℕ → ℕ → ℕ → ℤ
date_seconds y mo d h mi s = days_from_civil (pos y) mo d *ℤ pos 86400 +ℤ pos (h * 3600 + mi * 60 + s)

-- the text of a moment: `YYYY-MM-DDTHH:MM:SSZ`
unfoldable pub stamp_text : ℤ → Text
stamp_text n = time_text (unsigned_abs n)
