-- What reading a source comes to, case by case.
use Rattle.std.proofs.Common.{◌≡◌, ◌⊎◌, ◌↔◌, ℕ, List, Bool, true, false, nat_le, Option, Some, None, is_some, refl, sym, ap, ◌∙◌, inl, inr, arith}
use Rattle.std.specs.Str.{is_utf8}
use Rattle.std.proofs.lemmas.Str.{IsUtf8-from_is_utf8, is_utf8-from_IsUtf8}
use Rattle.std.proofs.lemmas.Bool.{false≢true, leb-false, leb-true}
use Rattle.wf_lemmas.proofs.Options.{none_of, some_mapped}
use Rattle.serde_json.specs.Data as json
use Rattle.serde_json.specs.Find.{as_i64}
use Rattle.serde_json.specs.Read.{read}
use Rattle.wf_value.specs.Json as value
use Rattle.wf_value.specs.Json.{Reads, IsNotJson, HasDecimal}
use Rattle.wf_tree.specs.Trees.{Tree, depth}
use Rattle.wf_tree.specs.Json.{tree_of, items_tree, members_tree, first_decimal, IsTooDeep}
use Rattle.wf_tree.specs.JsonLaws.{HasTree, HasPath, NoTwoHold}
use Rattle.wf_tree.proofs.Decimals.{no_decimal, some_decimal, some_both, both, none_some}

abbrev Case : List ℕ → Type 0
Case b = HasTree b ⊎ (IsNotJson b ⊎ (HasPath b ⊎ IsTooDeep b))

by_depth : (b : List ℕ) (j : json.Data) (t : Tree) (u : Bool) → Reads b j → tree_of j ≡ Some t → nat_le (depth t) 100 ≡ u → Case b
by_depth b j t true r is h = inl (t, (j, r, is, leb-true (depth t) 100 h))
by_depth b j t false r is h = inr (inr (inr (j, t, r, is, leb-false (depth t) 100 h)))

by_tree : (b : List ℕ) (j : json.Data) (o : Option Tree) → Reads b j → tree_of j ≡ o → Case b
by_tree b j None r is =
    let found = some_decimal j is in
    inr (inr (inl (found.0, (j, r, found.1))))
by_tree b j (Some t) r is = by_depth b j t _ r is refl

by_reading : (b : List ℕ) (u : Bool) (o : Option json.Data) → is_utf8 b ≡ u → read b ≡ o → Case b
by_reading b false o u r = inr (inl (λ utf8. absurd (false≢true (sym u ∙ is_utf8-from_IsUtf8 b utf8))))
by_reading b true None u r = inr (inl (λ _. r))
by_reading b true (Some j) u r = by_tree b j _ (IsUtf8-from_is_utf8 b u, r) refl

-- one of the four holds
pub case_of : (b : List ℕ) → Case b
case_of b = by_reading b _ _ refl refl

-- a source is read in one way
one_json : (b : List ℕ) (i j : json.Data) → Reads b i → Reads b j → i ≡ j
one_json b i j r s = cc

read_json : (b : List ℕ) (j : json.Data) → Reads b j → ¬ IsNotJson b
read_json b j r h = let none : read b ≡ None = h r.0 in cc

whole : (b : List ℕ) (j : json.Data) (t : Tree) → Reads b j → tree_of j ≡ Some t → ¬ HasPath b
whole b j t r is h =
    let same : first_decimal j ≡ Some h.0 = ap first_decimal (one_json b j h.1.0 r h.1.1) ∙ h.1.2 in
    let none : first_decimal j ≡ None = no_decimal j t is in
    cc

one_tree : (b : List ℕ) (i j : json.Data) (t u : Tree) → Reads b i → Reads b j → tree_of i ≡ Some t → tree_of j ≡ Some u → t ≡ u
one_tree b i j t u r s p q =
    let same : Some t ≡ Some u = sym p ∙ ap tree_of (one_json b i j r s) ∙ q in
    cc

-- no two of the four hold
pub apart : (b : List ℕ) → NoTwoHold b
apart b = record {
  tree_or_not_json = λ h. read_json b h.1.0 h.1.1;
  tree_or_decimal = λ h. whole b h.1.0 h.0 h.1.1 h.1.2;
  tree_or_too_deep = λ h deep.
      let same : h.0 ≡ deep.1 = one_tree b h.1.0 deep.0 h.0 deep.1 h.1.1 deep.2 h.1.2 deep.3 in
      absurd (omega (arith, ap depth same, h.1.3, deep.4));
  not_json_or_decimal = λ h path. read_json b path.1.0 path.1.1 h;
  not_json_or_too_deep = λ h deep. read_json b deep.0 deep.2 h;
  decimal_or_too_deep = λ h deep. whole b deep.0 deep.1 deep.2 deep.3 h;
}

mutual
  same_values : (j : json.Data) → is_some (value.value_of j) ≡ is_some (tree_of j)
  same_values json.null = refl
  same_values (json.boolean b) = refl
  same_values (json.number n) = some_mapped _ (as_i64 n) ∙ sym (some_mapped _ (as_i64 n))
  same_values (json.string s) = refl
  same_values (json.array js) = some_mapped _ (value.items_value js) ∙ same_items js ∙ sym (some_mapped _ (items_tree js))
  same_values (json.object ms) = some_mapped _ (value.members_value ms) ∙ same_members ms ∙ sym (some_mapped _ (members_tree ms))

  same_items : (js : json.Items) → is_some (value.items_value js) ≡ is_some (items_tree js)
  same_items json.no_items = refl
  same_items (json.item j js) =
      some_both _ (value.value_of j) (value.items_value js) ∙ both (same_values j) (same_items js) ∙ sym (some_both _ (tree_of j) (items_tree js))

  same_members : (ms : json.Members) → is_some (value.members_value ms) ≡ is_some (members_tree ms)
  same_members json.no_members = refl
  same_members (json.member k j ms) =
      some_both _ (value.value_of j) (value.members_value ms) ∙ both (same_values j) (same_members ms) ∙ sym (some_both _ (tree_of j) (members_tree ms))

-- a decimal is told of trees where it is of values
pub as_values : (b : List ℕ) → HasPath b ↔ HasDecimal b
as_values b = (
  λ h. (h.1.0, h.1.1, none_of (value.value_of h.1.0) (same_values h.1.0 ∙ none_some h.1.0 h.0 h.1.2)),
  λ h. let found = some_decimal h.0 (none_of (tree_of h.0) (sym (same_values h.0) ∙ ap is_some h.2)) in (found.0, (h.0, h.1, found.1)),
)
