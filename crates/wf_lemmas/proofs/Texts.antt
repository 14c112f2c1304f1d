-- Digits, characters above ASCII, and bytes that are no text.
use Rattle.std.proofs.Common.{◌≡◌, ◌<◌, ◌≤◌, ◌⊎◌, ⊎_elim, ℕ, true, [], length, get_or, append-nil, sym, arith}
use Rattle.std.proofs.lemmas.Bool.Decides.{nat_tests}
use Rattle.std.proofs.lemmas.Str.{IsUtf8-from_is_utf8, inside_one}
use Rattle.std.specs.Char.{digit_value, encode_utf8, is_ascii_digit}
use Rattle.std.specs.Prelude.{List, false}
use Rattle.std.specs.Str.{IsUtf8, is_utf8}
use Rattle.wf_lemmas.proofs.Bools.{false_unless}

pub digit_told : (c : ℕ) → digit_value c < 10 → is_ascii_digit c ≡ true
digit_told c h = grind (arith, nat_tests, h)

pub digit_small : (c : ℕ) → is_ascii_digit c ≡ true → digit_value c < 10
digit_small c h = grind (arith, nat_tests, h)

-- each byte of a character that is no ASCII
pub high_bytes : (c : ℕ) → 128 ≤ c → (k : ℕ) → k < length (encode_utf8 c) → (get_or (encode_utf8 c) k 0 < 128) ⊎ (128 ≤ get_or (encode_utf8 c) k 0) → 128 ≤ get_or (encode_utf8 c) k 0
high_bytes c h k l = ⊎_elim (λ m. let e : c ≡ get_or (encode_utf8 c) k 0 = inside_one c [] (encode_utf8 c) k (sym (append-nil (encode_utf8 c))) l m in omega arith) (λ m. m)

pub not_utf8 : (s : List ℕ) → (IsUtf8 s → ⊥) → is_utf8 s ≡ false
not_utf8 s never = false_unless (is_utf8 s) (λ is. never (IsUtf8-from_is_utf8 s is))
