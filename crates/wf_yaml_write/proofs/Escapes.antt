-- What stands for a character in double quotes.
use Rattle.std.proofs.Common.{◌≡◌, ℕ, suc, ◌<◌, ◌≤◌, List, [], ◌∷◌, ◌++◌, length, get_or, append_assoc, arith, ◌⊎◌, ⊎_elim, refl, ap, sym, ◌∙◌}
use Rattle.std.proofs.lemmas.Str.{encode_ascii}
use Rattle.std.proofs.lemmas.Bool.Decides.{nat_tests}
use Rattle.std.proofs.lemmas.Bool.{cases_lt}
use Rattle.std.specs.Char.{encode_utf8}
use Rattle.wf_lemmas.proofs.Texts.{high_bytes}
use Rattle.wf_yaml_write.specs.Layout.{escaped, all_escaped}

-- a byte that isn't one of those with an escape
pub record IsOwn (b : ℕ) : Type 0 where
  pub quote : b ≡ 34 → ⊥
  pub backslash : b ≡ 92 → ⊥
  pub control : 0x20 ≤ b
  pub delete : b ≡ 0x7F → ⊥

pub own : (b : ℕ) → IsOwn b → escaped b ≡ b ∷ []
own b h = grind (arith, nat_tests, h.quote, h.backslash, h.control, h.delete)

high : (l : List ℕ) → ((k : ℕ) → k < length l → 128 ≤ get_or l k 0) → all_escaped l ≡ l
high [] h = refl
high (b ∷ l) h =
    let first : 128 ≤ b = h 0 (omega arith) in
    let is : escaped b ≡ b ∷ [] = own b (record { quote = λ e. omega arith; backslash = λ e. omega arith; control = omega arith; delete = λ e. omega arith }) in
    rw is (ap (λ r. b ∷ r) (high l (λ k a. h (suc k) (omega arith))))

-- such a character stands for itself
pub own_escape : (c : ℕ) → IsOwn c → all_escaped (encode_utf8 c) ≡ encode_utf8 c
own_escape c h = ⊎_elim
    (λ low. let one = encode_ascii c low in ap all_escaped one ∙ rw (own c h) (sym one))
    (λ m. high (encode_utf8 c) (λ k l. high_bytes c m k l (cases_lt (get_or (encode_utf8 c) k 0) 128)))
    (cases_lt c 128)

pub escaped_append : (s t : List ℕ) → all_escaped (s ++ t) ≡ all_escaped s ++ all_escaped t
escaped_append [] t = refl
escaped_append (b ∷ s) t = rw (escaped_append s t) (sym (append_assoc (escaped b) (all_escaped s) (all_escaped t)))

-- one more character of a text
pub escaped_next : (out new all s rest : List ℕ) (c : ℕ) → out ++ all_escaped s ≡ all → s ≡ encode_utf8 c ++ rest → new ≡ out ++ all_escaped (encode_utf8 c) → new ++ all_escaped rest ≡ all
escaped_next out new all s rest c before is pushed =
    ap (λ t. t ++ all_escaped rest) pushed ∙ append_assoc out (all_escaped (encode_utf8 c)) (all_escaped rest)
    ∙ ap (λ t. out ++ t) (sym (escaped_append (encode_utf8 c) rest) ∙ ap all_escaped (sym is)) ∙ before
