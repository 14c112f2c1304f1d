-- The path of the first decimal leads to a decimal.
use Rattle.std.proofs.Common.{◌≡◌, ℕ, suc, ◌+◌, List, [], ◌∷◌, Option, Some, None, IfSome, is_some, if◌then◌else◌, refl, sym, ap, ◌∙◌, subst, inl, inr, arith}
use Rattle.std.specs.Option.{option_or}
use Rattle.serde_json.specs.Data as json
use Rattle.serde_json.specs.Find.{as_i64}
use Rattle.wf_value.specs.declared.path.PathPart.{PathPart}
use Rattle.wf_value.specs.declared.path.PathPart.TheVariants.{Key, Index}
use Rattle.wf_tree.specs.Json.{behind, first_decimal, first_in_items, first_in_members}
use Rattle.wf_tree.specs.Decimals.{IsDecimalAt, IsDecimalOfItem, IsDecimalOfMember}

-- a path that starts at an index of these items, of which the first has index i
abbrev OfItems : ℕ → json.Items → List PathPart → Type 0
OfItems i js p = (n : ℕ) × (q : List PathPart) × (p ≡ Index (n + i) ∷ q) × IsDecimalOfItem js n q

abbrev OfMembers : json.Members → List PathPart → Type 0
OfMembers ms p = (k : List ℕ) × (q : List PathPart) × (p ≡ Key k ∷ q) × IsDecimalOfMember ms k q

either : (P Q R : List PathPart → Type 0) (part : PathPart) (a b : Option (List PathPart)) → ((q : List PathPart) → P q → R (part ∷ q)) → ((q : List PathPart) → Q q → R q) → IfSome a P → IfSome b Q → IfSome (option_or (behind part a) b) R
either P Q R part None None here later p q = tt
either P Q R part None (Some c) here later p q = later c q
either P Q R part (Some c) b here later p q = here c p

all : (P Q : List PathPart → Type 0) (o : Option (List PathPart)) → ((q : List PathPart) → P q → Q q) → IfSome o P → IfSome o Q
all P Q None step h = tt
all P Q (Some q) step h = step q h

number : (n : json.Num) (o : Option _) → as_i64 n ≡ o → IfSome (if is_some o then None else Some []) (λ p. IsDecimalAt (json.number n) p)
number n None h = h
number n (Some z) h = tt

first_item : (i : ℕ) (j : json.Data) (js : json.Items) (q : List PathPart) → IsDecimalAt j q → OfItems i (json.item j js) (Index i ∷ q)
first_item i j js q h =
    let same : i ≡ 0 + i = omega arith in
    (0, q, ap (λ n. Index n ∷ q) same, h)

later_item : (i : ℕ) (j : json.Data) (js : json.Items) (p : List PathPart) → OfItems (suc i) js p → OfItems i (json.item j js) p
later_item i j js p h =
    let same : h.0 + suc i ≡ suc h.0 + i = omega arith in
    (suc h.0, h.1, h.2 ∙ ap (λ n. Index n ∷ h.1) same, h.3)

whole_list : (js : json.Items) (p : List PathPart) → OfItems 0 js p → IsDecimalAt (json.array js) p
whole_list js p h =
    let same : h.0 + 0 ≡ h.0 = omega arith in
    subst (λ r. IsDecimalAt (json.array js) r) (sym (h.2 ∙ ap (λ n. Index n ∷ h.1) same)) h.3

mutual
  lead : (j : json.Data) → IfSome (first_decimal j) (λ p. IsDecimalAt j p)
  lead json.null = tt
  lead (json.boolean b) = tt
  lead (json.number n) = number n (as_i64 n) refl
  lead (json.string s) = tt
  lead (json.array js) = all (OfItems 0 js) (λ p. IsDecimalAt (json.array js) p) (first_in_items 0 js) (whole_list js) (lead_items 0 js)
  lead (json.object ms) = all (OfMembers ms) (λ p. IsDecimalAt (json.object ms) p) (first_in_members ms) (λ p h. subst (λ r. IsDecimalAt (json.object ms) r) (sym h.2) h.3) (lead_members ms)

  lead_items : (i : ℕ) (js : json.Items) → IfSome (first_in_items i js) (OfItems i js)
  lead_items i json.no_items = tt
  lead_items i (json.item j js) =
      either (λ p. IsDecimalAt j p) (OfItems (suc i) js) (OfItems i (json.item j js)) (Index i) (first_decimal j) (first_in_items (suc i) js)
      (first_item i j js) (later_item i j js) (lead j) (lead_items (suc i) js)

  lead_members : (ms : json.Members) → IfSome (first_in_members ms) (OfMembers ms)
  lead_members json.no_members = tt
  lead_members (json.member k j ms) =
      either (λ p. IsDecimalAt j p) (OfMembers ms) (OfMembers (json.member k j ms)) (Key k) (first_decimal j) (first_in_members ms)
      (λ q h. (k, q, refl, inl (refl, h))) (λ q h. (h.0, h.1, h.2, inr h.3)) (lead j) (lead_members ms)

of_some : (P : List PathPart → Type 0) (o : Option (List PathPart)) (p : List PathPart) → o ≡ Some p → IfSome o P → P p
of_some P o p h all = subst (λ o. IfSome o P) h all

pub leads : (j : json.Data) (p : List PathPart) → first_decimal j ≡ Some p → IsDecimalAt j p
leads j p h = of_some (λ p. IsDecimalAt j p) (first_decimal j) p h (lead j)
