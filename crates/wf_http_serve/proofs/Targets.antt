-- Bytes that end inside a target have no whole first line.
use Rattle.std.proofs.Common.{◌≡◌, ℕ, ◌<◌, List, [], ◌∷◌, ◌++◌, Bool, true, false, ◌==◌, refl, sym, ap, ◌∙◌, arith, subst, inl, inr}
use Rattle.std.proofs.lemmas.Bool.{false≢true}
use Rattle.std.proofs.lemmas.Grind.{common_steps}
use Rattle.httparse.proofs.PieceLemmas.{token_is_no_newline}
use Rattle.std.specs.List.{list_any}
use Rattle.std.specs.Prelude.{IsUtf8}
use Rattle.std.proofs.lemmas.Bool.Decides.{nat_tests}
use Rattle.std.proofs.lemmas.Str.{IsUtf8-from_ascii}
use Rattle.std.proofs.lemmas.Str.Ascii.{IsAscii-from_all}
use Rattle.std.proofs.lemmas.List.Elements.{All-head, All-tail, All-weaker}
use Rattle.std.proofs.lemmas.List.Folds.{list_any-append}
use Rattle.httparse.specs.Grammar.{LineEnd, crlf, lf, print_blank, is_token_byte, is_uri_byte, AllPass, IsToken, EndsInTarget, MayBecomeRequest, NeverHasRequest}
use Rattle.wf_http_serve.specs.Visits.{has_first_line}

abbrev is_lf : ℕ → Bool
is_lf c = c == 10

abbrev Token : ℕ → Type 0
Token b = is_token_byte b ≡ true

abbrev Uri : ℕ → Type 0
Uri b = is_uri_byte b ≡ true

not_lf : (b : ℕ) → ¬ (b ≡ 10) → (b == 10) ≡ false
not_lf b h = grind (arith, common_steps)

token_not_lf : (b : ℕ) → is_token_byte b ≡ true → (b == 10) ≡ false
unfolding is_token_byte
token_not_lf b token = not_lf b (λ e. false≢true (subst (λ (v : ℕ). is_token_byte v ≡ true) e token))

token_no_lf : (bytes : List ℕ) → AllPass is_token_byte bytes → list_any is_lf bytes ≡ false
token_no_lf [] all = refl
token_no_lf (b ∷ bytes) all =
    rw (token_not_lf b (All-head Token b bytes all)) (token_no_lf bytes (All-tail Token b bytes all))

uri_not_lf : (b : ℕ) → is_uri_byte b ≡ true → (b == 10) ≡ false
uri_not_lf b uri = not_lf b (λ e. false≢true (subst (λ (v : ℕ). is_uri_byte v ≡ true) e uri))

uri_no_lf : (bytes : List ℕ) → AllPass is_uri_byte bytes → list_any is_lf bytes ≡ false
uri_no_lf [] all = refl
uri_no_lf (b ∷ bytes) all =
    rw (uri_not_lf b (All-head Uri b bytes all)) (uri_no_lf bytes (All-tail Uri b bytes all))

begun : (method target : List ℕ) → IsToken method → AllPass is_uri_byte target → has_first_line (method ++ 32 ∷ target) ≡ false
begun [] target m t = absurd (omega (arith, m.0))
begun (b ∷ method) target m t =
    rw (token_is_no_newline b (All-head Token b method m.1), list_any-append is_lf method (32 ∷ target), token_no_lf method (All-tail Token b method m.1))
    (uri_no_lf target t)

inside_target : (blank : List LineEnd) (method target : List ℕ) → IsToken method → AllPass is_uri_byte target
    → has_first_line (print_blank blank ++ method ++ 32 ∷ target) ≡ false
inside_target [] method target m t = begun method target m t
inside_target (crlf ∷ ends) method target m t = inside_target ends method target m t
inside_target (lf ∷ ends) method target m t = inside_target ends method target m t

no_line : (buf : List ℕ) → EndsInTarget buf → has_first_line buf ≡ false
no_line buf (blank, method, target, m, t, is) = ap has_first_line is ∙ inside_target blank method target m t

-- a whole first line settles what may still come
pub not_never : (buf : List ℕ) → MayBecomeRequest buf → has_first_line buf ≡ true → ¬ (NeverHasRequest buf)
not_never buf (inl can) line never = never can.0 can.1 [] can.2
not_never buf (inr inside) line never = false≢true (sym (no_line buf inside) ∙ line)

-- a token is a text
token_is_ascii : (b : ℕ) → is_token_byte b ≡ true → b < 128
unfolding is_token_byte
token_is_ascii b token = grind (arith, nat_tests)

pub token_text : (s : List ℕ) → IsToken s → IsUtf8 s
token_text s token = IsUtf8-from_ascii s (IsAscii-from_all s (All-weaker Token (λ b. b < 128) token_is_ascii s token.1))
