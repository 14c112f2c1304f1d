-- Fields that are put into a map.
use Rattle.std.proofs.Common.{◌≡◌, ℕ, Bool, true, false, ◌&&◌, List, Option, refl, sym, ap, ◌∙◌}
use Rattle.std.specs.Prelude.{if◌then◌else◌}
use Rattle.std.specs.Str.{IsUtf8, is_utf8}
use Rattle.std.proofs.lemmas.Str.{is_utf8-from_IsUtf8}
use Rattle.wf_lemmas.proofs.Texts.{not_utf8}
use Rattle.wf_value.specs.HttpText.{joined_value, proper_name, with_field, with_value_at}
use Rattle.wf_value.specs.Data.{Data, Pairs, pairs_of}
use Rattle.wf_value.specs.Maps.{value_at, with_value}
use Rattle.wf_value.specs.Pairs.{pair_list}
use Rattle.wf_http_value.proofs.Bodies.{pairs_listed}

abbrev chosen : Bool → Bool → Pairs → Pairs → Pairs
chosen x y ps qs = if x && y then qs else ps

not_both : (x y : Bool) (ps qs : Pairs) → y ≡ false → chosen x y ps qs ≡ ps
not_both true y ps qs e = ap (λ z. chosen true z ps qs) e
not_both false y ps qs e = refl

pub without_name : (ps : Pairs) (f : List ℕ × List ℕ) → ¬ (IsUtf8 f.0) → ps ≡ with_field ps f
without_name ps f none = sym (ap (λ x. chosen x (is_utf8 f.1) ps (with_value_at (proper_name true f.0) f.1 ps)) (not_utf8 f.0 none))

pub without_value : (ps : Pairs) (f : List ℕ × List ℕ) → ¬ (IsUtf8 f.1) → ps ≡ with_field ps f
without_value ps f none = sym (not_both (is_utf8 f.0) (is_utf8 f.1) ps (with_value_at (proper_name true f.0) f.1 ps) (not_utf8 f.1 none))

pub with_both : (ps : Pairs) (f : List ℕ × List ℕ) (n v : List ℕ) → IsUtf8 f.0 → n ≡ f.0 → IsUtf8 f.1 → v ≡ f.1
    → with_value_at (proper_name true n) v ps ≡ with_field ps f
with_both ps f n v name is_name value is_value =
    let put : Pairs = with_value_at (proper_name true f.0) f.1 ps in
    ap (λ m. with_value_at (proper_name true m) v ps) is_name
    ∙ ap (λ m. with_value_at (proper_name true f.0) m ps) is_value
    ∙ sym (ap (λ x. chosen x (is_utf8 f.1) ps put) (is_utf8-from_IsUtf8 f.0 name) ∙ ap (λ x. chosen true x ps put) (is_utf8-from_IsUtf8 f.1 value))

pub joined_at : (ps qs : List (List ℕ × Data)) (n m v : List ℕ) (old : Option Data) (d : Data)
    → m ≡ proper_name true n → old ≡ value_at m ps → d ≡ joined_value old v → qs ≡ with_value m d ps
    → pairs_of qs ≡ with_value_at (proper_name true n) v (pairs_of ps)
joined_at ps qs n m v old d name was value put =
    ap pairs_of put
    ∙ ap (λ l. pairs_of (with_value m d l)) (sym (pairs_listed ps))
    ∙ ap (λ x. pairs_of (with_value m x (pair_list (pairs_of ps)))) (value ∙ ap (λ o. joined_value o v) (was ∙ ap (value_at m) (sym (pairs_listed ps))))
    ∙ ap (λ k. with_value_at k v (pairs_of ps)) name
