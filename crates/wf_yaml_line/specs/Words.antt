-- What plain scalars are: the words and the numbers of YAML 1.2's core schema.
use Rattle.std.specs.Prelude.{ℕ, zero, suc, ◌+◌, ◌*◌, ◌-◌, ◌^◌, List, [], ◌∷◌, Bool, true, false, cond, not, ◌&&◌, ◌||◌, ◌==◌, nat_lt, nat_le, ℤ, pos, negsuc, Option, Some, None, codes}
use Rattle.wf_yaml_line.specs.Marks.{dash, is_digit, is_one_of, starts, is_empty, behind_first, skip}
use Rattle.wf_yaml_line.specs.declared.scalars.Plain.{Plain}
use Rattle.wf_yaml_line.specs.declared.scalars.Plain.TheVariants as kind

-- nothing at all, `null Null NULL ~`
abbrev pub null_words : List (List ℕ)
null_words = codes "" ∷ codes "null" ∷ codes "Null" ∷ codes "NULL" ∷ codes "~" ∷ []

-- `true True TRUE`
abbrev pub true_words : List (List ℕ)
true_words = codes "true" ∷ codes "True" ∷ codes "TRUE" ∷ []

-- `false False FALSE`
abbrev pub false_words : List (List ℕ)
false_words = codes "false" ∷ codes "False" ∷ codes "FALSE" ∷ []

-- `.inf .Inf .INF`, behind a sign or none
abbrev pub infinity_words : List (List ℕ)
infinity_words = codes ".inf" ∷ codes ".Inf" ∷ codes ".INF" ∷ []

-- `.nan .NaN .NAN`
abbrev pub nan_words : List (List ℕ)
nan_words = codes ".nan" ∷ codes ".NaN" ∷ codes ".NAN" ∷ []

-- the characters that numbers are made of, beside digits
abbrev pub point : ℕ
point = 46

abbrev pub plus_sign : ℕ
plus_sign = 43

abbrev pub zero_digit : ℕ
zero_digit = 48

abbrev pub small_e : ℕ
small_e = 101

abbrev pub large_e : ℕ
large_e = 69

abbrev pub small_o : ℕ
small_o = 111

abbrev pub small_x : ℕ
small_x = 120

-- the value of a digit, of `0` to `9`, `a` to `f` or `A` to `F`; 16 where it is none
abbrev pub digit_of : ℕ → ℕ
digit_of b = cond (is_digit b) (b - 48) (cond (nat_le 97 b && nat_le b 102) (b - 87) (cond (nat_le 65 b && nat_le b 70) (b - 55) 16))

-- digits of a base alone
abbrev pub all_digits : ℕ → List ℕ → Bool
all_digits base [] = true
all_digits base (b ∷ r) = nat_lt (digit_of b) base && all_digits base r

-- one digit at least, and digits alone
abbrev pub is_number : ℕ → List ℕ → Bool
is_number base s = not (is_empty s) && all_digits base s

-- the number that digits spell, behind digits that spell n
abbrev pub number_from : ℕ → ℕ → List ℕ → ℕ
number_from base n [] = n
number_from base n (b ∷ r) = number_from base (base * n + digit_of b) r

abbrev pub starts_with : ℕ → List ℕ → Bool
starts_with c s = starts (λ b. b == c) s

abbrev pub is_sign : ℕ → Bool
is_sign b = b == plus_sign || b == dash

-- what stands behind a sign, where there is one
abbrev pub unsigned : List ℕ → List ℕ
unsigned s = cond (starts is_sign s) (behind_first s) s

abbrev pub is_negative : List ℕ → Bool
is_negative s = starts_with dash s

-- whether a number is negative, by its sign
abbrev pub plus : Bool
plus = false

abbrev pub minus : Bool
minus = true

-- the number -n
abbrev pub negative_of : ℕ → ℤ
negative_of zero = pos 0
negative_of (suc n) = negsuc n

-- a whole number of 64 bits, and none outside
abbrev pub whole_of : Bool → ℕ → Option ℤ
whole_of false n = cond (nat_lt n (2 ^ 63)) (Some (pos n)) None
whole_of true n = cond (nat_le n (2 ^ 63)) (Some (negative_of n)) None

-- `[-+]?[0-9]+`
abbrev pub is_decimal_whole : List ℕ → Bool
is_decimal_whole s = is_number 10 (unsigned s)

-- `0` and a letter; and what stands behind the two
abbrev pub has_prefix : ℕ → List ℕ → Bool
has_prefix letter s = starts_with zero_digit s && starts_with letter (behind_first s)

abbrev pub behind_prefix : List ℕ → List ℕ
behind_prefix s = behind_first (behind_first s)

-- `0o[0-7]+`
abbrev pub is_octal : List ℕ → Bool
is_octal s = has_prefix small_o s && is_number 8 (behind_prefix s)

-- `0x[0-9a-fA-F]+`
abbrev pub is_hexadecimal : List ℕ → Bool
is_hexadecimal s = has_prefix small_x s && is_number 16 (behind_prefix s)

-- `([eE][-+]?[0-9]+)?`
abbrev pub is_exponent : List ℕ → Bool
is_exponent s = is_empty s || ((starts_with small_e s || starts_with large_e s) && is_number 10 (unsigned (behind_first s)))

-- `(\.[0-9]+|[0-9]+(\.[0-9]*)?)([eE][-+]?[0-9]+)?`
abbrev pub is_unsigned_float : List ℕ → Bool
is_unsigned_float s =
    let rest = skip is_digit s in
    let fraction = behind_first rest in
    cond (starts_with point rest)
    ((starts is_digit s || starts is_digit fraction) && is_exponent (skip is_digit fraction))
    (starts is_digit s && is_exponent rest)

-- numbers that aren't written as whole ones
abbrev pub is_float : List ℕ → Bool
is_float s = is_unsigned_float (unsigned s) || is_one_of infinity_words (unsigned s) || is_one_of nan_words s

-- A whole number outside 64 bits is a decimal.
abbrev pub whole_or_decimal : Option ℤ → Plain
whole_or_decimal (Some z) = kind.Whole z
whole_or_decimal None = kind.Decimal

-- what a plain scalar is, by the first of these that it is
abbrev pub plain_kind : List ℕ → Plain
plain_kind s =
    cond (is_one_of null_words s) kind.Null
    (cond (is_one_of true_words s) (kind.Truth true)
    (cond (is_one_of false_words s) (kind.Truth false)
    (cond (is_decimal_whole s) (whole_or_decimal (whole_of (is_negative s) (number_from 10 0 (unsigned s))))
    (cond (is_octal s) (whole_or_decimal (whole_of false (number_from 8 0 (behind_prefix s))))
    (cond (is_hexadecimal s) (whole_or_decimal (whole_of false (number_from 16 0 (behind_prefix s))))
    (cond (is_float s) kind.Decimal kind.Text))))))
