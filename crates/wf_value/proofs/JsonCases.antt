-- What reading some bytes comes to, case by case.
use Rattle.std.proofs.Common.{◌≡◌, ◌⊎◌, ◌≤◌, ◌<◌, ℕ, List, Bool, true, false, nat_le, Option, Some, None, option_and_then, if◌then◌else◌, refl, sym, ap, ◌∙◌, inl, inr, arith}
use Rattle.std.specs.Str.{is_utf8}
use Rattle.std.proofs.lemmas.Str.{IsUtf8-from_is_utf8, is_utf8-from_IsUtf8}
use Rattle.std.proofs.lemmas.Bool.Decides.{nat_tests}
use Rattle.std.proofs.lemmas.Bool.{false≢true}
use Rattle.serde_json.specs.Data as json
use Rattle.serde_json.specs.Read.{read}
use Rattle.wf_value.specs.Data.{Data, depth}
use Rattle.wf_value.specs.Decode.{json_value, shallow}
use Rattle.wf_value.specs.Json.{value_of, Reads, IsNotJson, HasDecimal, IsTooDeep, IsValue}
use Rattle.wf_value.specs.JsonLaws.{HasValue}

abbrev Case : List ℕ → Type 0
Case b = HasValue b ⊎ (IsNotJson b ⊎ (HasDecimal b ⊎ IsTooDeep b))

le_of : (n : ℕ) → nat_le n 100 ≡ true → n ≤ 100
le_of n h = grind (arith, nat_tests)

gt_of : (n : ℕ) → nat_le n 100 ≡ false → 100 < n
gt_of n h = grind (arith, nat_tests)

le_is : (n : ℕ) → n ≤ 100 → nat_le n 100 ≡ true
le_is n h = grind (arith, nat_tests)

by_depth : (b : List ℕ) (j : json.Data) (d : Data) (t : Bool) → Reads b j → value_of j ≡ Some d → nat_le (depth d) 100 ≡ t → Case b
by_depth b j d true r v h = inl (d, (j, r, v, le_of (depth d) h))
by_depth b j d false r v h = inr (inr (inr (j, d, r, v, gt_of (depth d) h)))

by_value : (b : List ℕ) (j : json.Data) (o : Option Data) → Reads b j → value_of j ≡ o → Case b
by_value b j None r v = inr (inr (inl (j, r, v)))
by_value b j (Some d) r v = by_depth b j d _ r v refl

by_reading : (b : List ℕ) (u : Bool) (o : Option json.Data) → is_utf8 b ≡ u → read b ≡ o → Case b
by_reading b false o u r = inr (inl (λ utf8. absurd (false≢true (sym u ∙ is_utf8-from_IsUtf8 b utf8))))
by_reading b true None u r = inr (inl (λ _. r))
by_reading b true (Some j) u r = by_value b j _ (IsUtf8-from_is_utf8 b u, r) refl

-- one of the four holds
pub case_of : (b : List ℕ) → Case b
case_of b = by_reading b _ _ refl refl

within : (e d : Data) (t : Bool) → nat_le (depth e) 100 ≡ t → (if t then Some e else None) ≡ Some d → (Some e ≡ Some d) × (depth d ≤ 100)
within e d true h is = let same : e ≡ d = cc in (is, rw (← same) (le_of (depth e) h))
within e d false h is = cc

shallow_is : (o : Option Data) (d : Data) → shallow o ≡ Some d → (o ≡ Some d) × (depth d ≤ 100)
shallow_is None d is = cc
shallow_is (Some e) d is = within e d _ refl is

found : (b : List ℕ) (d : Data) (u : Bool) (o : Option json.Data) → is_utf8 b ≡ u → read b ≡ o → elim u [ false ↦ None | true ↦ shallow (option_and_then value_of o) ] ≡ Some d → IsValue b d
found b d false o u r is = cc
found b d true None u r is = cc
found b d true (Some j) u r is =
    let fits : (value_of j ≡ Some d) × (depth d ≤ 100) = shallow_is (value_of j) d is in
    (j, (IsUtf8-from_is_utf8 b u, r), fits.0, fits.1)

-- what the function finds is the value
pub value_found : (b : List ℕ) (d : Data) → json_value b ≡ Some d → IsValue b d
value_found b d is = found b d _ _ refl refl is

kept : (d : Data) (t : Bool) → t ≡ true → (if t then Some d else None) ≡ Some d
kept d true h = refl
kept d false h = absurd (false≢true h)

again : (d : Data) (j : json.Data) (u : Bool) (o : Option json.Data) → u ≡ true → o ≡ Some j → value_of j ≡ Some d → depth d ≤ 100 → elim u [ false ↦ None | true ↦ shallow (option_and_then value_of o) ] ≡ Some d
again d j false o u r v le = absurd (false≢true u)
again d j true None u r v le = cc
again d j true (Some i) u r v le =
    let same : i ≡ j = cc in
    ap shallow (ap value_of same ∙ v) ∙ kept d _ (le_is (depth d) le)

-- the function finds the value
pub found_value : (b : List ℕ) (d : Data) → IsValue b d → json_value b ≡ Some d
found_value b d h = again d h.0 _ _ (is_utf8-from_IsUtf8 b h.1.0) h.1.1 h.2 h.3
