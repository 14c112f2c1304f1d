-- The set of the escaped bytes leaves out just those that stay, tried at each of the 256.
use Rattle.std.proofs.Common.{◌≡◌, ℕ, ◌<◌, Bool, true, ◌||◌, ◌==◌, not, List, [], ◌∷◌, ◌++◌, refl, ap, ◌∙◌}
use Rattle.std.specs.Prelude.{All, codes, if◌then◌else◌}
use Rattle.std.specs.Char.{is_ascii_alphanumeric}
use Rattle.std.specs.List.{list_any}
use Rattle.std.proofs.lemmas.Bool.{agree_below, agree_below_at}
use Rattle.std.proofs.lemmas.List.Elements.{All-head, All-tail}
use Rattle.wf_lemmas.proofs.Bools.{if_not}
use Rattle.percent_encoding.specs.AsciiSet.{should_percent_encode}
use Rattle.percent_encoding.specs.Percent.{percent_encode, percent_encode_byte, encode_byte}
use Rattle.wf_value.specs.LibText.{url_encoded, url_encoded_byte}
use Rattle.wf_http_out.specs.declared.escapes.TheConstants.{URL}

abbrev is_kept : ℕ → Bool
is_kept b = is_ascii_alphanumeric b || list_any (λ c. c == b) (codes "-._~")

checked : agree_below (should_percent_encode URL) (λ b. not (is_kept b)) 256 ≡ true
unfolding should_percent_encode
checked = refl

one : (b : ℕ) → b < 256 → encode_byte URL b ≡ url_encoded_byte b
one b small =
    ap (λ t. if t then percent_encode_byte b else b ∷ []) (agree_below_at (should_percent_encode URL) (λ c. not (is_kept c)) 256 b checked small)
    ∙ if_not (is_kept b) (percent_encode_byte b) (b ∷ [])

abbrev pub IsByte : ℕ → Type 0
IsByte b = b < 256

pub escapes : (bytes : List ℕ) → All IsByte bytes → percent_encode URL bytes ≡ url_encoded bytes
unfolding percent_encode
escapes [] all = refl
escapes (b ∷ bytes) all =
    (λ i. one b (All-head IsByte b bytes all) i ++ escapes bytes (All-tail IsByte b bytes all) i)
