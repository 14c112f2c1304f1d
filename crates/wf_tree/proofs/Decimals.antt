-- Some JSON is a tree exactly where it has no decimal.
use Rattle.std.proofs.Common.{◌≡◌, ℕ, suc, List, Bool, true, false, ◌&&◌, Option, Some, None, option_map, option_and_then, is_some, is_none, if◌then◌else◌, refl, sym, ap, ◌∙◌, true≢false}
use Rattle.std.specs.Option.{option_or}
use Rattle.wf_lemmas.proofs.Options.{some_mapped}
use Rattle.serde_json.specs.Data as json
use Rattle.serde_json.specs.Find.{as_i64}
use Rattle.wf_value.specs.declared.path.PathPart.{PathPart}
use Rattle.wf_value.specs.declared.path.PathPart.TheVariants.{Key, Index}
use Rattle.wf_tree.specs.Trees.{Tree}
use Rattle.wf_tree.specs.Json.{tree_of, items_tree, members_tree, behind, first_decimal, first_in_items, first_in_members}

abbrev Parts : Type 0
Parts = Option (List PathPart)

none_number : {A : Type 0} (o : Option A) (p : List PathPart) → is_none (if is_some o then None else Some p) ≡ is_some o
none_number None p = refl
none_number (Some a) p = refl

-- the first part and the rest
none_both : (part : PathPart) (a b : Parts) → is_none (option_or (behind part a) b) ≡ (is_none a && is_none b)
none_both part None b = refl
none_both part (Some p) b = refl

pub some_both : {A B C : Type 0} (f : A → B → C) (a : Option A) (b : Option B) → is_some (option_and_then (λ t. option_map (f t) b) a) ≡ (is_some a && is_some b)
some_both f None b = refl
some_both f (Some t) b = some_mapped (f t) b

pub both : {a b c d : Bool} → a ≡ b → c ≡ d → (a && c) ≡ (b && d)
both p q = λ i. p i && q i

mutual
  pub agree : (j : json.Data) → is_none (first_decimal j) ≡ is_some (tree_of j)
  agree json.null = refl
  agree (json.boolean b) = refl
  agree (json.number n) = none_number (as_i64 n) _ ∙ sym (some_mapped _ (as_i64 n))
  agree (json.string s) = refl
  agree (json.array js) = agree_items 0 js ∙ sym (some_mapped _ (items_tree js))
  agree (json.object ms) = agree_members ms ∙ sym (some_mapped _ (members_tree ms))

  agree_items : (i : ℕ) (js : json.Items) → is_none (first_in_items i js) ≡ is_some (items_tree js)
  agree_items i json.no_items = refl
  agree_items i (json.item j js) =
      none_both (Index i) (first_decimal j) (first_in_items (suc i) js) ∙ both (agree j) (agree_items (suc i) js) ∙ sym (some_both _ (tree_of j) (items_tree js))

  agree_members : (ms : json.Members) → is_none (first_in_members ms) ≡ is_some (members_tree ms)
  agree_members json.no_members = refl
  agree_members (json.member k j ms) =
      none_both (Key k) (first_decimal j) (first_in_members ms) ∙ both (agree j) (agree_members ms) ∙ sym (some_both _ (tree_of j) (members_tree ms))

by_none : (p : Parts) → is_none p ≡ true → p ≡ None
by_none None h = refl
by_none (Some q) h = absurd (true≢false (sym h))

pub no_decimal : (j : json.Data) (t : Tree) → tree_of j ≡ Some t → first_decimal j ≡ None
no_decimal j t h = by_none (first_decimal j) (agree j ∙ ap is_some h)

by_some : (p : Parts) → is_none p ≡ false → (q : List PathPart) × (p ≡ Some q)
by_some None h = absurd (true≢false h)
by_some (Some q) h = (q, refl)

pub some_decimal : (j : json.Data) → tree_of j ≡ None → (q : List PathPart) × (first_decimal j ≡ Some q)
some_decimal j h = by_some (first_decimal j) (agree j ∙ ap is_some h)

pub none_some : (j : json.Data) (p : List PathPart) → first_decimal j ≡ Some p → is_some (tree_of j) ≡ false
none_some j p h = sym (agree j) ∙ ap is_none h
