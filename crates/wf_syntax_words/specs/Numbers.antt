-- The numbers of a retry policy. Those of a backoff are kept in thousandths.
use Rattle.std.specs.Prelude.{ℕ, ◌*◌, ◌+◌, ◌-◌, ◌^◌, ◌==◌, pos, Bool, ◌&&◌, length, if◌then◌else◌, nat_le, nat_lt, Option, Some, None}
use Rattle.std.specs.List.{list_all, before_first, after_first}
use Rattle.std.specs.Str.Parse.{digits_value}
use Rattle.wf_span.specs.Tokens.{is_digit}
use Rattle.wf_tree.specs.Trees.{Tree, integer, decimal, text}
use Rattle.wf_value.specs.Pairs.{Text}

-- a whole number from a least to a greatest
abbrev pub whole_within : ℕ → ℕ → Tree → Option ℕ
whole_within least most (integer (pos n)) = if nat_le least n && nat_le n most then Some n else None
whole_within least most t = None

-- digits, at least one and at most so many
abbrev pub is_digits : ℕ → Text → Bool
is_digits most s = nat_lt 0 (length s) && nat_le (length s) most && list_all is_digit s

-- the thousandths of one to eight digits, a point and one to three digits
abbrev pub of_decimal : Text → Option ℕ
of_decimal s =
    let whole = before_first (λ b. b == 46) s in
    let part = after_first (λ b. b == 46) s in
    if is_digits 8 whole && is_digits 3 part then Some (digits_value 10 whole * 1000 + digits_value 10 part * 10 ^ (3 - length part)) else None

-- the thousandths of a whole number, of such a decimal, or of a text that is one of them
abbrev pub thousandths : Tree → Option ℕ
thousandths (integer (pos n)) = Some (n * 1000)
thousandths (decimal s) = of_decimal s
thousandths (text s) = if is_digits (length s) s then Some (digits_value 10 s * 1000) else of_decimal s
thousandths t = None

abbrev pub at_most : ℕ → Option ℕ → Option ℕ
at_most most None = None
at_most most (Some n) = if nat_le n most then Some n else None

-- the same, where they are at most so many
abbrev pub thousandths_to : ℕ → Tree → Option ℕ
thousandths_to most t = at_most most (thousandths t)
