-- Codes have three digits.
use Rattle.std.proofs.Common.{◌≤◌, ◌<◌, ◌^◌, ℕ, List, [], ◌∷◌, arith, subst}
use Rattle.std.specs.Char.{is_ascii_digit}
use Rattle.std.specs.Str.Parse.{AllDigits, digits_value}
use Rattle.std.proofs.lemmas.Int.Digits.{digits_value-lt}
use Rattle.std.proofs.lemmas.List.Elements.{All-head, All-tail}
use Rattle.std.specs.Prelude.{IsTrue}
use Rattle.httparse.specs.Grammar.{AllPass, ResponseHead, IsResponseHead, status_code}
use Rattle.wf_http_body.proofs.Digits.{digit_is}

abbrev Digit : ℕ → Type 0
Digit d = IsTrue (is_ascii_digit d)

all_digits : (ds : List ℕ) → AllPass is_ascii_digit ds → AllDigits 10 ds
all_digits [] all = tt
all_digits (d ∷ ds) all =
    let is = digit_is d (All-head Digit d ds all) in
    (omega (arith, is), all_digits ds (All-tail Digit d ds all))

pub three_digits : (h : ResponseHead) → IsResponseHead h → status_code h ≤ 999
three_digits h is =
    let less : digits_value 10 h.digits < 10 ^ 3 = subst (λ (n : ℕ). digits_value 10 h.digits < 10 ^ n) is.digits.0 (digits_value-lt 10 h.digits (all_digits h.digits is.digits.1)) in
    omega (arith, less)
