-- The plain data of a map's trees, beside the map.
use Rattle.std.proofs.Common.{◌≡◌, ℕ, List, [], ◌∷◌, Ordering, Less, Equal, Greater, Option, Some, None, option_map, Bool, true, false, cond, Bor, refl, sym, subst, ap, ◌∙◌}
use Rattle.std.specs.Option.{option_copied}
use Rattle.std.specs.Ordering.{match_ordering, is_eq}
use Rattle.std.specs.Map.{keys_of}
use Rattle.std.specs.List.Sorted.{IsStrictlySortedBy}
use Rattle.wf_tree.specs.Trees as trees
use Rattle.wf_tree.specs.Plain.{plain_tree, plain_pairs}
use Rattle.wf_value.specs.Maps.{IsInOrder, key_cmp, value_at, with_value}
use Rattle.wf_tree.specs.declared.tree.Tree.{Tree}

abbrev pub Entry : Type 0
Entry = List ℕ × Tree

pub plain_keys : (ps : List Entry) → keys_of (plain_pairs ps) ≡ keys_of ps
plain_keys [] = refl
plain_keys (p ∷ ps) = ap (λ ks. p.0 ∷ ks) (plain_keys ps)

plain_cond : (b : Bool) (v : Tree) (o : Option Tree) (d : Option trees.Tree) → option_map plain_tree o ≡ d → option_map plain_tree (cond b (Some v) o) ≡ cond b (Some (plain_tree v)) d
plain_cond true v o d h = refl
plain_cond false v o d h = h

pub plain_value_at : (k : List ℕ) (ps : List Entry) → option_map plain_tree (value_at k ps) ≡ value_at k (plain_pairs ps)
plain_value_at k [] = refl
plain_value_at k (p ∷ ps) = plain_cond (is_eq (key_cmp k p.0)) p.1 _ _ (plain_value_at k ps)

plain_match : (o : Ordering) (a b c : List Entry) → plain_pairs (match_ordering o a b c) ≡ match_ordering o (plain_pairs a) (plain_pairs b) (plain_pairs c)
plain_match Less a b c = refl
plain_match Equal a b c = refl
plain_match Greater a b c = refl

pub plain_with_value : (k : List ℕ) (v : Tree) (ps : List Entry) → plain_pairs (with_value k v ps) ≡ with_value k (plain_tree v) (plain_pairs ps)
plain_with_value k v [] = refl
plain_with_value k v (p ∷ ps) = plain_match (key_cmp k p.0) _ _ _ ∙ rw (plain_with_value k v ps)

plain_lent : (r : Option (Bor Tree)) → option_map (λ v. plain_tree v.now) r ≡ option_map plain_tree (option_copied r)
plain_lent None = refl
plain_lent (Some v) = refl

pub plain_found : (r : Option (Bor Tree)) (k : List ℕ) (ps qs : List Entry) (ds : List (List ℕ × trees.Tree)) → option_copied r ≡ value_at k qs → qs ≡ ps → plain_pairs ps ≡ ds → option_map (λ v. plain_tree v.now) r ≡ value_at k ds
plain_found r k ps qs ds h q p = plain_lent r ∙ ap (option_map plain_tree) (h ∙ ap (value_at k) q) ∙ plain_value_at k ps ∙ ap (value_at k) p

-- the plain pairs have the same keys
pub in_order_plain : (ps : List Entry) → IsInOrder ps → IsInOrder (plain_pairs ps)
in_order_plain ps s = subst (λ ks. IsStrictlySortedBy key_cmp ks) (sym (plain_keys ps)) s
