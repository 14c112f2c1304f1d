-- The measure of a list or a map after a change.
use Rattle.std.proofs.Common.{◌≡◌, ◌≤◌, ◌<◌, ◌+◌, ◌-◌, ℕ, zero, suc, max, min, List, [], ◌∷◌, ◌++◌, length, Ordering, Less, Equal, Greater, Result, Ok, Err, Some, None, Option, option_map, cond, refl, sym, ap, ◌∙◌, arith}
use Rattle.std.specs.Ordering.{match_ordering, is_eq}
use Rattle.std.specs.List.{slice_get}
use Rattle.std.specs.Map.{values_of}
use Rattle.std_collections.specs.Layout.BTreeMap.{seek}
use Rattle.std_collections.specs.Layout.Columns.{set_value_at}
use Rattle.std_collections.proofs.Seek.{found_at, insert_entry-Ok}
use Rattle.wf_value.specs.Data.{Data, list, map, size, depth, items_size, items_depth, items_of, pairs_size, pairs_depth, pairs_of}
use Rattle.wf_value.specs.Maps.{IsInOrder, key_cmp, value_at, with_value}
use Rattle.wf_value.specs.Measures.{IsMeasure}
use Rattle.wf_value.specs.Plain.{plain, plain_items, plain_pairs}
use Rattle.wf_value.specs.declared.measure.Measure.{Measure}
use Rattle.wf_value.specs.declared.value.Value.{Value}
use Rattle.wf_value.proofs.Order.{in_order_plain}
use Rattle.wf_value.proofs.PairTrees.{Entry, plain_value_at, plain_with_value}
use Rattle.wf_value.proofs.Seeks.{missing_value}

-- a list with one item more
size_push : (vs : List Value) (v : Value) → items_size (items_of (plain_items (vs ++ v ∷ []))) ≡ items_size (items_of (plain_items vs)) + size (plain v)
size_push [] v = omega arith
size_push (w ∷ ws) v = omega (arith, size_push ws v)

depth_push : (vs : List Value) (v : Value) → items_depth (items_of (plain_items (vs ++ v ∷ []))) ≡ max (items_depth (items_of (plain_items vs))) (depth (plain v))
depth_push [] v = omega arith
depth_push (w ∷ ws) v = omega (arith, depth_push ws v)

pub item_measured : (m n more : Measure) (vs ws : List Value) (v : Value) → IsMeasure m (list (items_of (plain_items vs))) → IsMeasure n (plain v) → more.size ≡ min (m.size + n.size) 18446744073709551615 → more.depth ≡ max m.depth (min (1 + n.depth) 4294967295) → ws ≡ vs ++ v ∷ [] → IsMeasure more (list (items_of (plain_items ws)))
item_measured m n more vs ws v h i s d is =
    rw is (record {
      size_kept = omega (arith, s, h.size_kept, i.size_kept, size_push vs v);
      depth_kept = omega (arith, d, h.depth_kept, i.depth_kept, depth_push vs v);
    })

module _ (k : List ℕ) (d : Data) where
  -- a map with one pair more, whose key wasn't there
  size_placed : (o : Ordering) (p : List ℕ × Data) (ps : List (List ℕ × Data)) → cond (is_eq o) (Some p.1) (value_at k ps) ≡ None → (value_at k ps ≡ None → pairs_size (pairs_of (with_value k d ps)) ≡ 2 + length k + size d + pairs_size (pairs_of ps))
      → pairs_size (pairs_of (match_ordering o ((k, d) ∷ p ∷ ps) ((p.0, d) ∷ ps) (p ∷ with_value k d ps))) ≡ 2 + length k + size d + pairs_size (pairs_of (p ∷ ps))
  size_placed Less p ps none later = omega arith
  size_placed Equal p ps none later = cc
  size_placed Greater p ps none later = omega (arith, later none)

  size_put : (ps : List (List ℕ × Data)) → value_at k ps ≡ None → pairs_size (pairs_of (with_value k d ps)) ≡ 2 + length k + size d + pairs_size (pairs_of ps)
  size_put [] none = omega arith
  size_put (p ∷ ps) none = size_placed (key_cmp k p.0) p ps none (size_put ps)

  depth_placed : (o : Ordering) (p : List ℕ × Data) (ps : List (List ℕ × Data)) → cond (is_eq o) (Some p.1) (value_at k ps) ≡ None → (value_at k ps ≡ None → pairs_depth (pairs_of (with_value k d ps)) ≡ max (depth d) (pairs_depth (pairs_of ps)))
      → pairs_depth (pairs_of (match_ordering o ((k, d) ∷ p ∷ ps) ((p.0, d) ∷ ps) (p ∷ with_value k d ps))) ≡ max (depth d) (pairs_depth (pairs_of (p ∷ ps)))
  depth_placed Less p ps none later = omega arith
  depth_placed Equal p ps none later = cc
  depth_placed Greater p ps none later = omega (arith, later none)

  depth_put : (ps : List (List ℕ × Data)) → value_at k ps ≡ None → pairs_depth (pairs_of (with_value k d ps)) ≡ max (depth d) (pairs_depth (pairs_of ps))
  depth_put [] none = omega arith
  depth_put (p ∷ ps) none = depth_placed (key_cmp k p.0) p ps none (depth_put ps)

-- a map with a new value for an old one
module _ (d e : Data) where
  size_set : (ps : List (List ℕ × Data)) (i : ℕ) → slice_get (values_of ps) i ≡ Some e → pairs_size (pairs_of (set_value_at ps i d)) + size e ≡ pairs_size (pairs_of ps) + size d
  size_set [] i h = cc
  size_set (p ∷ ps) zero h =
      let same : p.1 ≡ e = cc in
      omega (arith, ap size same)
  size_set (p ∷ ps) (suc i) h = omega (arith, size_set ps i h)

  held_set : (ps : List (List ℕ × Data)) (i : ℕ) → slice_get (values_of ps) i ≡ Some e → size e ≤ pairs_size (pairs_of ps)
  held_set [] i h = cc
  held_set (p ∷ ps) zero h =
      let same : p.1 ≡ e = cc in
      omega (arith, ap size same)
  held_set (p ∷ ps) (suc i) h = omega (arith, held_set ps i h)

  depth_set : (ps : List (List ℕ × Data)) (i : ℕ) → slice_get (values_of ps) i ≡ Some e → max (pairs_depth (pairs_of (set_value_at ps i d))) (depth e) ≡ max (pairs_depth (pairs_of ps)) (depth d)
  depth_set [] i h = cc
  depth_set (p ∷ ps) zero h =
      let same : p.1 ≡ e = cc in
      omega (arith, ap depth same)
  depth_set (p ∷ ps) (suc i) h = omega (arith, depth_set ps i h)

  deep_set : (ps : List (List ℕ × Data)) (i : ℕ) → slice_get (values_of ps) i ≡ Some e → depth d ≤ pairs_depth (pairs_of (set_value_at ps i d))
  deep_set [] i h = cc
  deep_set (p ∷ ps) zero h = omega arith
  deep_set (p ∷ ps) (suc i) h = omega (arith, deep_set ps i h)

  record Replaced (ps qs : List (List ℕ × Data)) : Type 0 where
    sizes : pairs_size (pairs_of qs) + size e ≡ pairs_size (pairs_of ps) + size d
    held : size e ≤ pairs_size (pairs_of ps)
    depths : max (pairs_depth (pairs_of qs)) (depth e) ≡ max (pairs_depth (pairs_of ps)) (depth d)
    deep : depth d ≤ pairs_depth (pairs_of qs)

  replaced_at : (k : List ℕ) (ps : List (List ℕ × Data)) (r : Result ℕ ℕ) → seek (key_cmp k) ps ≡ r → IsInOrder ps → value_at k ps ≡ Some e → Replaced ps (with_value k d ps)
  replaced_at k ps (Ok i) h s at =
      let there : slice_get (values_of ps) i ≡ Some e = sym ((found_at (key_cmp k) ps i h).value) ∙ at in
      rw (← insert_entry-Ok key_cmp k d ps i h) (record { sizes = size_set ps i there; held = held_set ps i there; depths = depth_set ps i there; deep = deep_set ps i there })
  replaced_at k ps (Err i) h s at =
      let none : value_at k ps ≡ None = missing_value ps k i s (sym h) in
      cc

trees_at : (k : List ℕ) (ps : List Entry) (o : Option Value) → value_at k ps ≡ o → value_at k (plain_pairs ps) ≡ option_map plain o
trees_at k ps o is = sym (plain_value_at k ps) ∙ ap (option_map plain) is

pub pair_measured : (m n more : Measure) (k : List ℕ) (v : Value) (ps qs : List Entry) → IsMeasure m (map (pairs_of (plain_pairs ps))) → IsMeasure n (plain v) → more.size ≡ min (m.size + (2 + length k + n.size)) 18446744073709551615 → more.depth ≡ max m.depth (min (1 + n.depth) 4294967295) → value_at k ps ≡ None → qs ≡ with_value k v ps → IsMeasure more (map (pairs_of (plain_pairs qs)))
pair_measured m n more k v ps qs h i s d none is =
    let absent = trees_at k ps None none in
    rw (is, plain_with_value k v ps) (record {
      size_kept = omega (arith, s, h.size_kept, i.size_kept, size_put k (plain v) (plain_pairs ps) absent);
      depth_kept = omega (arith, d, h.depth_kept, i.depth_kept, depth_put k (plain v) (plain_pairs ps) absent);
    })

pub value_measured : (m o n more : Measure) (k : List ℕ) (u v : Value) (ps qs : List Entry) → IsMeasure m (map (pairs_of (plain_pairs ps))) → IsMeasure o (plain u) → IsMeasure n (plain v) → m.size < 18446744073709551615 → o.depth ≤ n.depth → more.size ≡ min (m.size - o.size + n.size) 18446744073709551615 → more.depth ≡ max m.depth (min (1 + n.depth) 4294967295) → IsInOrder ps → value_at k ps ≡ Some u → qs ≡ with_value k v ps → IsMeasure more (map (pairs_of (plain_pairs qs)))
value_measured m o n more k u v ps qs h j i low deep s d order at is =
    let there = replaced_at (plain v) (plain u) k (plain_pairs ps) _ refl (in_order_plain ps order) (trees_at k ps (Some u) at) in
    rw (is, plain_with_value k v ps) (record {
      size_kept = omega (arith, s, h.size_kept, j.size_kept, i.size_kept, low, there.sizes, there.held);
      depth_kept = omega (arith, d, h.depth_kept, j.depth_kept, i.depth_kept, deep, there.depths, there.deep);
    })
