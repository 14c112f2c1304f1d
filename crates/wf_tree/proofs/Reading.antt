-- What is read of some JSON, part by part.
use Rattle.std.proofs.Common.{◌≡◌, ℕ, suc, List, [], ◌∷◌, ◌++◌, Option, Some, None, option_map, String, Global, string_bytes, string_cmp, Less, refl, ap, ◌∙◌, subst}
use Rattle.std.proofs.Common.{map as each}
use Rattle.std.specs.List.{AllByRecursion}
use Rattle.std.specs.List.Sorted.{IsStrictlySortedBy}
use Rattle.std.specs.Map.{keys_of}
use Rattle.std.specs.Option.{option_or}
use Rattle.std.proofs.lemmas.List.{append-nil}
use Rattle.serde_json.specs.Data as json
use Rattle.wf_value.specs.Maps.{IsInOrder, key_cmp}
use Rattle.wf_value.specs.declared.path.PathPart.TheVariants.{Key, Index}
use Rattle.wf_value.proofs.Reading.{after}
use Rattle.wf_tree.specs.Trees.{Tree}
use Rattle.wf_tree.specs.Json.{tree_of, items_tree, members_tree, first_in_items, first_in_members, behind}
use Rattle.wf_tree.specs.Plain.{plain_tree, plain_pairs}
use Rattle.wf_tree.proofs.Decimals.{no_decimal}
use Rattle.wf_tree.proofs.PairTrees.{Entry}

shift : {X : Type 0} (xs : List X) (x : X) (ys : List X) → xs ++ x ∷ ys ≡ (xs ++ x ∷ []) ++ ys
shift [] x ys = refl
shift (z ∷ xs) x ys = ap (λ l. z ∷ l) (shift xs x ys)

after_shift : {X : Type 0} (xs : List X) (x : X) (o : Option (List X)) → after xs (option_map (λ ys. x ∷ ys) o) ≡ after (xs ++ x ∷ []) o
after_shift xs x None = refl
after_shift xs x (Some ys) = ap Some (shift xs x ys)

pub items_next : (ts : List Tree) (t : Tree) (j : json.Data) (js : json.Items) → tree_of j ≡ Some t → after ts (items_tree (json.item j js)) ≡ after (ts ++ t ∷ []) (items_tree js)
items_next ts t j js h = rw h (after_shift ts t (items_tree js))

pub first_item_next : (i : ℕ) (t : Tree) (j : json.Data) (js : json.Items) → tree_of j ≡ Some t → first_in_items i (json.item j js) ≡ first_in_items (suc i) js
first_item_next i t j js h = ap (λ p. option_or (behind (Index i) p) (first_in_items (suc i) js)) (no_decimal j t h)

plain_shift : (ps : List Entry) (e : Entry) → plain_pairs ps ++ (e.0, plain_tree e.1) ∷ [] ≡ plain_pairs (ps ++ e ∷ [])
plain_shift [] e = refl
plain_shift (p ∷ ps) e = ap (λ l. (p.0, plain_tree p.1) ∷ l) (plain_shift ps e)

pub members_next : (ps : List Entry) (e : Entry) (j : json.Data) (ms : json.Members) → tree_of j ≡ Some (plain_tree e.1) → after (plain_pairs ps) (members_tree (json.member e.0 j ms)) ≡ after (plain_pairs (ps ++ e ∷ [])) (members_tree ms)
members_next ps e j ms h = rw h (after_shift (plain_pairs ps) (e.0, plain_tree e.1) (members_tree ms) ∙ ap (λ l. after l (members_tree ms)) (plain_shift ps e))

pub first_member_next : (k : List ℕ) (t : Tree) (j : json.Data) (ms : json.Members) → tree_of j ≡ Some t → first_in_members (json.member k j ms) ≡ first_in_members ms
first_member_next k t j ms h = ap (λ p. option_or (behind (Key k) p) (first_in_members ms)) (no_decimal j t h)

pub keys_next : (ps : List Entry) (e : Entry) (ks : List (List ℕ)) → keys_of ps ++ e.0 ∷ ks ≡ keys_of (ps ++ e ∷ []) ++ ks
keys_next [] e ks = refl
keys_next (p ∷ ps) e ks = ap (λ l. p.0 ∷ l) (keys_next ps e ks)

all_bytes : (k : String Global) (ks : List (String Global)) → AllByRecursion (λ y. string_cmp k y ≡ Less) ks → AllByRecursion (λ y. key_cmp (string_bytes k) y ≡ Less) (each string_bytes ks)
all_bytes k [] h = tt
all_bytes k (l ∷ ks) h = (h.0, all_bytes k ks h.1)

bytes_in_order : (ks : List (String Global)) → IsStrictlySortedBy string_cmp ks → IsStrictlySortedBy key_cmp (each string_bytes ks)
unfolding IsStrictlySortedBy
bytes_in_order [] h = tt
bytes_in_order (k ∷ ks) h = (all_bytes k ks h.0, bytes_in_order ks h.1)

-- the keys of what was read stand in order, once all are there
pub read_in_order : (ps : List Entry) (ks left : List (String Global)) → IsStrictlySortedBy string_cmp ks → each string_bytes ks ≡ keys_of ps ++ each string_bytes left → left ≡ [] → IsInOrder ps
read_in_order ps ks left s h none =
    subst (λ l. IsStrictlySortedBy key_cmp l) (h ∙ ap (λ l. keys_of ps ++ each string_bytes l) none ∙ append-nil (keys_of ps)) (bytes_in_order ks s)
