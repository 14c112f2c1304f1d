-- A node gives a tree exactly where the relation holds of its lines and the tree.
use Rattle.std.proofs.Common.{◌≡◌, ◌↔◌, inl, inr, ℕ, zero, suc, ◌+◌, ◌≤◌, List, [], ◌∷◌, ◌++◌, Bool, true, false, cond, not, ◌&&◌, ◌||◌, ◌==◌, nat_lt, Option, Some, None, is_some, Result, Ok, Err, IfOk, refl, sym, ap, ◌∙◌, subst, true≢false, append-nil, append_assoc, arith, eqb-true, eq-eqb}
use Rattle.std.proofs.lemmas.Bool.Decides.{nat_tests}
use Rattle.std.specs.List.{AllByRecursion}
use Rattle.std.specs.Map.{keys_of}
use Rattle.std.proofs.lemmas.Bool.{and_parts, not-true}
use Rattle.wf_lemmas.proofs.Bools.{cond_false, cond_true}
use Rattle.wf_tree.specs.Trees.{Tree, Items, Pairs, null, boolean, integer, decimal, text, list, map, no_items, item, no_pairs, pair, items_of, pairs_of}
use Rattle.wf_value.specs.Maps.{IsInOrder, with_value}
use Rattle.wf_value.proofs.Order.{in_order_with_value, in_order_empty}
use Rattle.wf_yaml_line.specs.Marks.{is_same, is_one_of, behind_first, skip_blanks, ends_line}
use Rattle.wf_yaml_line.specs.declared.fault.Fault.{Fault}
use Rattle.wf_yaml_line.specs.declared.fault.Kind.{Kind}
use Rattle.wf_yaml_line.specs.declared.fault.Kind.TheVariants as kinds
use Rattle.wf_yaml_line.specs.Fault.{both, given, kept, refuse, refuse_if}
use Rattle.wf_yaml_line.specs.Keys.{Key, key_of}
use Rattle.wf_yaml_flow.specs.Flow.{depth_fault, max_depth}
use Rattle.wf_yaml_line.specs.Scalars.{is_delay_key}
use Rattle.wf_yaml_flow.proofs.Shallow.{within}
use Rattle.wf_yaml.specs.Rows.{Row, counting, has_tab, misplaced_at}
use Rattle.wf_yaml.specs.Cuts.{entries_of, heads}
use Rattle.wf_yaml.specs.Starts.{is_item, starts_block, has_tab_gap}
use Rattle.wf_yaml.specs.Blocks.{Reading, scalar, compact, item_content, list_entry, list_entries, pair_value, pair_faults, pair_entry, map_entry, with_key, map_entries, list_of_entries, block_list, map_of_entries, block_map, node_at, deep, node}
use Rattle.wf_yaml.specs.Relation.{BeginsList, BeginsMap, IsLeaf, Entry, IsBlock, IsItem, listed, Reads, ItemsRead, PairsRead}
use Rattle.wf_yaml.proofs.Ordered.{Named, HasNot, AreDistinct, key_put, added, first_put, in_order_distinct, in_order_added, others_distinct, others_all}
use Rattle.wf_yaml.proofs.Entries.{One, Match, put, taken}

-- ---- what parts a result has

pub record Parts {A B C : Type 0} (f : A → B → C) (r : Result A Fault) (q : Result B Fault) (c : C) : Type 0 where
  pub first : A
  pub second : B
  pub is_first : r ≡ Ok first
  pub is_second : q ≡ Ok second
  pub is : c ≡ f first second

pub parts : {A B C : Type 0} (f : A → B → C) (r : Result A Fault) (q : Result B Fault) (c : C) → both f r q ≡ Ok c → Parts f r q c
parts f (Ok a) (Ok b) c h = record { first = a; second = b; is_first = refl; is_second = refl; is = cc }
parts f (Ok a) (Err g) c h = absurd (cc)
parts f (Err g) (Ok b) c h = absurd (cc)
parts f (Err g) (Err k) c h = absurd (cc)

pub made : {A B C : Type 0} (f : A → B → C) (r : Result A Fault) (q : Result B Fault) (a : A) (b : B) → r ≡ Ok a → q ≡ Ok b → both f r q ≡ Ok (f a b)
made f r q a b h k = λ i. both f (h i) (k i)

record Changed {A B : Type 0} (f : A → B) (r : Result A Fault) (b : B) : Type 0 where
  pub old : A
  pub is_old : r ≡ Ok old
  pub is : b ≡ f old

changed : {A B : Type 0} (f : A → B) (r : Result A Fault) (b : B) → given f r ≡ Ok b → Changed f r b
changed f (Ok a) b h = record { old = a; is_old = refl; is = cc }
changed f (Err g) b h = absurd (cc)

pub ok_same : {A : Type 0} (a b : A) (r : Result A Fault) → r ≡ Ok a → r ≡ Ok b → a ≡ b
ok_same a b r h k = cc

passed : {A : Type 0} (b : Bool) (x : Result A Fault) (g : Fault) (a : A) → cond b x (Err g) ≡ Ok a → (b ≡ true) × (x ≡ Ok a)
passed true x g a h = (refl, h)
passed false x g a h = absurd (cc)

pub cleared : {A : Type 0} (b : Bool) (x : Result A Fault) (g : Fault) (a : A) → cond b (Err g) x ≡ Ok a → (b ≡ false) × (x ≡ Ok a)
cleared true x g a h = absurd (cc)
cleared false x g a h = (refl, h)

-- ---- what an item or a pair holds, below or beside

held : (b g : Bool) (x y : Result Tree Fault) (f : Fault) (t : Tree) (X Y : Type 0) → (x ≡ Ok t → X) → (y ≡ Ok t → Y) → cond b x (cond g (Err f) y) ≡ Ok t → (b ≡ true → X) × (b ≡ false → g ≡ false) × (b ≡ false → Y)
held true g x y f t X Y p q h = (λ _. p h, λ e. absurd (true≢false e), λ e. absurd (true≢false e))
held false true x y f t X Y p q h = absurd (cc)
held false false x y f t X Y p q h = (λ e. absurd (true≢false (sym e)), λ _. refl, λ _. q h)

holds : (b g : Bool) (x y : Result Tree Fault) (f : Fault) (t : Tree) → (b ≡ true → x ≡ Ok t) → (b ≡ false → g ≡ false) → (b ≡ false → y ≡ Ok t) → cond b x (cond g (Err f) y) ≡ Ok t
holds true g x y f t p u q = p refl
holds false g x y f t p u q = cond_false g (Err f) y (u refl) ∙ q refl

valued : (b : Bool) (x y : Result Tree Fault) (t : Tree) (X : Type 0) → (x ≡ Ok t → X) → cond b x y ≡ Ok t → (b ≡ true → X) × (b ≡ false → y ≡ Ok t)
valued true x y t X p h = (λ _. p h, λ e. absurd (true≢false e))
valued false x y t X p h = (λ e. absurd (true≢false (sym e)), λ _. h)

values : (b : Bool) (x y : Result Tree Fault) (t : Tree) → (b ≡ true → x ≡ Ok t) → (b ≡ false → y ≡ Ok t) → cond b x y ≡ Ok t
values true x y t p q = p refl
values false x y t p q = q refl

-- ---- what stands inside a list or a map

-- a reading gives a tree exactly where the relation holds
abbrev pub Agrees : Reading → ℕ → Type 0
Agrees read d = (floor : ℕ) (delay : Bool) (rs : List Row) (t : Tree) → (read floor d delay rs ≡ Ok t) ↔ Reads floor d delay rs t

abbrev trees_in : Items → List Tree
trees_in no_items = []
trees_in (item t ts) = t ∷ trees_in ts

trees_back : (ts : Items) → items_of (trees_in ts) ≡ ts
trees_back no_items = refl
trees_back (item t ts) = ap (item t) (trees_back ts)

pairs_back : (ps : Pairs) → pairs_of (listed ps) ≡ ps
pairs_back no_pairs = refl
pairs_back (pair k t ps) = ap (pair k t) (pairs_back ps)

pairs_listed : (ps : List Named) → listed (pairs_of ps) ≡ ps
pairs_listed [] = refl
pairs_listed (p ∷ ps) = ap (λ l. p ∷ l) (pairs_listed ps)

module _ (inner : Reading) (n d : ℕ) (agrees : Agrees inner (d + 1)) where
  -- ---- lists

  abbrev Item : Entry → Tree → Type 0
  Item e t = IsItem n e (λ rs. Reads (n + 1) (d + 1) false rs t)

  item_there : (e : Entry) (t : Tree) → list_entry inner n d e ≡ Ok t → Item e t
  item_there e t h =
      let p = passed (not (has_tab e.0) && (e.0.indent == n) && is_item e.0.text) (item_content inner n d e.0 e.1) (misplaced_at e.0.number e.0.text) t h in
      let q = and_parts (not (has_tab e.0) && (e.0.indent == n)) (is_item e.0.text) p.0 in
      let s = and_parts (not (has_tab e.0)) (e.0.indent == n) q.0 in
      let c = held (ends_line (behind_first e.0.text)) (has_tab_gap (behind_first e.0.text) && starts_block (compact n e.0).text) (inner (n + 1) (d + 1) false (counting e.1)) (inner (n + 1) (d + 1) false (compact n e.0 ∷ e.1))
      (record { line = e.0.number; kind = kinds.Tab }) t _ _ (agrees (n + 1) false (counting e.1) t).0 (agrees (n + 1) false (compact n e.0 ∷ e.1) t).0 p.1 in
      record { untabbed = not-true (has_tab e.0) s.0; column = eqb-true e.0.indent n s.1; begins = q.1; below = c.0; untabbed_block = c.1; beside = c.2 }

  item_made : (e : Entry) (t : Tree) → Item e t → list_entry inner n d e ≡ Ok t
  item_made e t is =
      cond_true (not (has_tab e.0) && (e.0.indent == n) && is_item e.0.text) _ _ (λ i. not (is.untabbed i) && eq-eqb e.0.indent n is.column i && is.begins i)
      ∙ holds (ends_line (behind_first e.0.text)) (has_tab_gap (behind_first e.0.text) && starts_block (compact n e.0).text) (inner (n + 1) (d + 1) false (counting e.1)) (inner (n + 1) (d + 1) false (compact n e.0 ∷ e.1))
      (record { line = e.0.number; kind = kinds.Tab }) t (λ b. (agrees (n + 1) false (counting e.1) t).1 (is.below b)) is.untabbed_block (λ b. (agrees (n + 1) false (compact n e.0 ∷ e.1) t).1 (is.beside b))

  record Behind (so_far : Result (List Tree) Fault) (es : List Entry) (ts : List Tree) : Type 0 where
    pub done : List Tree
    pub more : List Tree
    pub is_done : so_far ≡ Ok done
    pub all : ts ≡ done ++ more
    pub read : ItemsRead n d es (items_of more)

  items_there : (so_far : Result (List Tree) Fault) (es : List Entry) (ts : List Tree) → list_entries inner n d so_far es ≡ Ok ts → Behind so_far es ts
  items_there so_far [] ts h = record { done = ts; more = []; is_done = h; all = sym (append-nil ts); read = tt }
  items_there so_far (e ∷ es) ts h =
      let b = items_there (both (λ ts t. ts ++ t ∷ []) so_far (list_entry inner n d e)) es ts h in
      let p = parts (λ ts t. ts ++ t ∷ []) so_far (list_entry inner n d e) b.done b.is_done in
      record { done = p.first; more = p.second ∷ b.more; is_done = p.is_first; all = b.all ∙ ap (λ l. l ++ b.more) p.is ∙ append_assoc p.first (p.second ∷ []) b.more; read = (item_there e p.second p.is_second, b.read) }

  items_made : (done : List Tree) (es : List Entry) (ts : Items) → ItemsRead n d es ts → list_entries inner n d (Ok done) es ≡ Ok (done ++ trees_in ts)
  items_made done [] no_items is = ap Ok (sym (append-nil done))
  items_made done (e ∷ es) no_items is = absurd is
  items_made done [] (item t ts) is = absurd is
  items_made done (e ∷ es) (item t ts) is =
      ap (λ r. list_entries inner n d r es) (made (λ ts t. ts ++ t ∷ []) (Ok done) (list_entry inner n d e) done t refl (item_made e t is.0))
      ∙ items_made (done ++ t ∷ []) es ts is.1 ∙ ap Ok (append_assoc done (t ∷ []) (trees_in ts))

  -- ---- maps

  -- the entry is this pair, and no pair before has its key
  abbrev IsNew : List (List ℕ) → Entry → Named → Type 0
  IsNew keys e p = One n d e p × (is_one_of keys p.0 ≡ false) × (with_key (key_of e.0.text) keys ≡ p.0 ∷ keys)

  no_fault : (r : Result (Unit {0}) Fault) (b : Bool) (number : ℕ) (k : Kind) (a : Unit {0}) → both kept r (refuse_if b number k) ≡ Ok a → (both kept r (refuse_if false number k) ≡ Ok tt) × (b ≡ false)
  no_fault (Ok x) true number k a h = absurd (cc)
  no_fault (Ok x) false number k a h = (refl, refl)
  no_fault (Err g) true number k a h = absurd (cc)
  no_fault (Err g) false number k a h = absurd (cc)

  faultless : (r : Result (Unit {0}) Fault) (b : Bool) (number : ℕ) (k : Kind) → both kept r (refuse_if false number k) ≡ Ok tt → b ≡ false → both kept r (refuse_if b number k) ≡ Ok tt
  faultless r true number k h e = absurd (true≢false e)
  faultless r false number k h e = h

  pair_there : (keys : List (List ℕ)) (e : Entry) (p : Named) → has_tab e.0 ≡ false → e.0.indent ≡ n → (o : Option Key) → key_of e.0.text ≡ o → pair_entry inner n d keys e.0 e.1 o ≡ Ok p → IsNew keys e p
  pair_there keys e p tab column (Some k) own h =
      let q = parts (λ _ t. (k.text, t)) (pair_faults e.0.number keys k) (pair_value inner n d (is_delay_key k.text) e.0.number k.rest e.1) p h in
      let f = no_fault _ (is_one_of keys k.text) _ _ q.first q.is_first in
      let v = valued (ends_line k.rest) (inner (n + 1) (d + 1) (is_delay_key k.text) (counting e.1)) _ q.second _ (agrees (n + 1) (is_delay_key k.text) (counting e.1) q.second).0 q.is_second in
      let is : One n d e (k.text, q.second) = record { key = k; untabbed = tab; column = column; begins = own; good = f.0; named = refl; below = v.0; beside = v.1 } in
      subst (λ r. IsNew keys e r) (sym q.is) (is, f.1, ap (λ o. with_key o keys) own)
  pair_there keys e p tab column None own h =
      let q = parts (λ _ p. p) _ (refuse e.0.number kinds.Unsupported) p h in
      absurd (cc (q.is_second))

  entry_there : (keys : List (List ℕ)) (e : Entry) (p : Named) → map_entry inner n d keys e ≡ Ok p → IsNew keys e p
  entry_there keys e p h =
      let q = passed (not (has_tab e.0) && (e.0.indent == n)) (pair_entry inner n d keys e.0 e.1 (key_of e.0.text)) (misplaced_at e.0.number e.0.text) p h in
      let s = and_parts (not (has_tab e.0)) (e.0.indent == n) q.0 in
      pair_there keys e p (not-true (has_tab e.0) s.0) (eqb-true e.0.indent n s.1) (key_of e.0.text) refl q.1

  entry_made : (keys : List (List ℕ)) (e : Entry) (p : Named) → One n d e p → is_one_of keys p.0 ≡ false → (map_entry inner n d keys e ≡ Ok p) × (with_key (key_of e.0.text) keys ≡ p.0 ∷ keys)
  entry_made keys e p is new =
      let k = is.key in
      let delay = ap is_delay_key is.named in
      let value = values (ends_line k.rest) (inner (n + 1) (d + 1) (is_delay_key p.0) (counting e.1)) (scalar (n + 1) (d + 1) (is_delay_key p.0) e.0.number (skip_blanks k.rest) e.1) p.1 (λ b. (agrees (n + 1) (is_delay_key p.0) (counting e.1) p.1).1 (is.below b)) is.beside in
      let value_is : pair_value inner n d (is_delay_key k.text) e.0.number k.rest e.1 ≡ Ok p.1 = ap (λ b. pair_value inner n d b e.0.number k.rest e.1) delay ∙ value in
      let faults : pair_faults e.0.number keys k ≡ Ok tt = faultless _ (is_one_of keys k.text) _ _ is.good (ap (is_one_of keys) is.named ∙ new) in (
        cond_true (not (has_tab e.0) && (e.0.indent == n)) _ _ (λ i. not (is.untabbed i) && eq-eqb e.0.indent n is.column i)
            ∙ ap (pair_entry inner n d keys e.0 e.1) is.begins
            ∙ made (λ _ t. (k.text, t)) (pair_faults e.0.number keys k) (pair_value inner n d (is_delay_key k.text) e.0.number k.rest e.1) tt p.1 faults value_is
            ∙ ap (λ name. Ok (name, p.1)) is.named,
        ap (λ o. with_key o keys) is.begins ∙ ap (λ name. name ∷ keys) is.named,
      )

  -- the entries so far are the pairs so far
  abbrev Stands : List Entry → List (List ℕ) → List Named → Type 0
  Stands front keys done = Match n d front done × IsInOrder done × ((k : List ℕ) → is_one_of keys k ≡ is_one_of (keys_of done) k)

  stands_more : (front : List Entry) (keys : List (List ℕ)) (done : List Named) (e : Entry) (p : Named) → Stands front keys done → IsNew keys e p → Stands (front ++ e ∷ []) (with_key (key_of e.0.text) keys) (with_value p.0 p.1 done)
  stands_more front keys done e p s is = (
    put n d e p is.0 done (sym (s.2 p.0) ∙ is.1) front [] (subst (λ l. Match n d l done) (sym (append-nil front)) s.0),
    in_order_with_value p.0 p.1 done s.1,
    λ k. ap (λ l. is_one_of l k) is.2 ∙ ap (λ b. is_same p.0 k || b) (s.2 k) ∙ sym (key_put k p.0 p.1 done),
  )

  pairs_there : (so_far : Result (List Named) Fault) (keys : List (List ℕ)) (front es : List Entry) (ps : List Named) → ((done : List Named) → so_far ≡ Ok done → Stands front keys done) → map_entries inner n d so_far keys es ≡ Ok ps → Match n d (front ++ es) ps × IsInOrder ps
  pairs_there so_far keys front [] ps s h = let all = s ps h in (subst (λ l. Match n d l ps) (sym (append-nil front)) all.0, all.1)
  pairs_there so_far keys front (e ∷ es) ps s h =
      let more : (done : List Named) → both (λ ps p. with_value p.0 p.1 ps) so_far (map_entry inner n d keys e) ≡ Ok done → Stands (front ++ e ∷ []) (with_key (key_of e.0.text) keys) done =
      λ done k. let q = parts (λ ps p. with_value p.0 p.1 ps) so_far (map_entry inner n d keys e) done k in
      subst (λ l. Stands (front ++ e ∷ []) (with_key (key_of e.0.text) keys) l) (sym q.is) (stands_more front keys q.first e q.second (s q.first q.is_first) (entry_there keys e q.second q.is_second)) in
      let all = pairs_there (both (λ ps p. with_value p.0 p.1 ps) so_far (map_entry inner n d keys e)) (with_key (key_of e.0.text) keys) (front ++ e ∷ []) es ps more h in
      (subst (λ l. Match n d l ps) (append_assoc front (e ∷ []) es) all.0, all.1)

  -- none of these pairs has one of the keys
  abbrev AreNew : List (List ℕ) → List Named → Type 0
  AreNew keys ps = AllByRecursion (λ q. is_one_of keys q.0 ≡ false) ps

  new_behind : (k : List ℕ) (keys : List (List ℕ)) (ps : List Named) → HasNot k ps → AreNew keys ps → AreNew (k ∷ keys) ps
  new_behind k keys [] a b = tt
  new_behind k keys (q ∷ ps) a b = ((λ i. a.0 i || b.0 i), new_behind k keys ps a.1 b.1)

  pairs_made : (done : List Named) (keys : List (List ℕ)) (es : List Entry) (ps : List Named) → Match n d es ps → AreDistinct ps → AreNew keys ps → map_entries inner n d (Ok done) keys es ≡ Ok (added done ps)
  pairs_made done keys [] [] h apart new = refl
  pairs_made done keys [] (p ∷ ps) h apart new = none h.before h.all
    where
      none : (before : List Entry) → [] ≡ before ++ h.entry ∷ h.after → map_entries inner n d (Ok done) keys [] ≡ Ok (added done (p ∷ ps))
      none [] e = absurd (cc)
      none (b ∷ bs) e = absurd (cc)
  pairs_made done keys (e ∷ es) ps h apart new =
      let t = taken n d e es ps h in
      let apart' = others_distinct t.before t.pair t.after (subst AreDistinct t.all apart) in
      let new' = others_all (λ q. is_one_of keys q.0 ≡ false) t.before t.pair t.after (subst (λ l. AreNew keys l) t.all new) in
      let entry = entry_made keys e t.pair t.one new'.0 in
      ap (λ r. map_entries inner n d r (with_key (key_of e.0.text) keys) es) (made (λ ps p. with_value p.0 p.1 ps) (Ok done) (map_entry inner n d keys e) done t.pair refl entry.0)
      ∙ ap (λ l. map_entries inner n d (Ok (with_value t.pair.0 t.pair.1 done)) l es) entry.1
      ∙ pairs_made (with_value t.pair.0 t.pair.1 done) (t.pair.0 ∷ keys) es (t.before ++ t.after) t.others apart'.1 (new_behind t.pair.0 keys (t.before ++ t.after) apart'.0 new'.1)
      ∙ ap Ok (sym (first_put done t.before t.pair t.after apart'.0) ∙ ap (added done) (sym t.all))

  none_new : (ps : List Named) → AreNew [] ps
  none_new [] = tt
  none_new (p ∷ ps) = (refl, none_new ps)

  pub map_there : (es : List Entry) (ps : List Named) → map_entries inner n d (Ok []) [] es ≡ Ok ps → PairsRead n d es (pairs_of ps) × IsInOrder (listed (pairs_of ps))
  map_there es ps h =
      let start : (done : List Named) → Ok [] ≡ Ok done → Stands [] [] done = λ done k. subst (λ l. Stands [] [] l) (ok_same [] done (Ok []) refl k) (refl, in_order_empty {X = Tree} [] refl, λ _. refl) in
      let all = pairs_there (Ok []) [] [] es ps start h in
      (all.0, subst IsInOrder (sym (pairs_listed ps)) all.1)

  pub map_made : (es : List Entry) (ps : Pairs) → PairsRead n d es ps → IsInOrder (listed ps) → map_entries inner n d (Ok []) [] es ≡ Ok (listed ps)
  map_made es ps h s =
      pairs_made [] [] es (listed ps) (subst (λ l. PairsRead n d es l) (sym (pairs_back ps)) h) (in_order_distinct (listed ps) s) (none_new (listed ps)) ∙ ap Ok (in_order_added (listed ps) s)

  pub list_there : (es : List Entry) (ts : List Tree) → list_entries inner n d (Ok []) es ≡ Ok ts → ItemsRead n d es (items_of ts)
  list_there es ts h =
      let b = items_there (Ok []) es ts h in
      subst (λ l. ItemsRead n d es (items_of l)) (sym (b.all ∙ ap (λ l. l ++ b.more) (sym (ok_same [] b.done (Ok []) refl b.is_done)))) b.read

  pub list_made : (es : List Entry) (ts : Items) → ItemsRead n d es ts → list_entries inner n d (Ok []) es ≡ Ok (trees_in ts)
  list_made es ts h = items_made [] es ts h

-- ---- a node

abbrev pub InsideAgrees : Reading → ℕ → Type 0
InsideAgrees inner d = d ≤ 100 → Agrees inner (d + 1)

leaf : (floor d : ℕ) (delay : Bool) (rs : List Row) (t : Tree) → IsLeaf floor d delay rs t → Reads floor d delay rs t
leaf floor d delay rs null is = is
leaf floor d delay rs (boolean b) is = is
leaf floor d delay rs (integer z) is = is
leaf floor d delay rs (decimal s) is = is
leaf floor d delay rs (text s) is = is
leaf floor d delay rs (list ts) is = inl is
leaf floor d delay rs (map ps) is = inl is

shallow : (number d : ℕ) (a : Unit {0}) → depth_fault number d ≡ Ok a → d ≤ 100
shallow number d a h = subst (λ r. IfOk r (λ _. d ≤ 100)) h (within number d)

depth_made : (number d : ℕ) → d ≤ 100 → depth_fault number d ≡ Ok tt
depth_made number d h = by (nat_lt max_depth d) refl
  where
    by : (b : Bool) → nat_lt max_depth d ≡ b → refuse_if b number kinds.TooDeep ≡ Ok tt
    by true e = absurd (grind (arith, nat_tests, e, h))
    by false e = refl

module _ (inner : Reading) (d : ℕ) (agrees : InsideAgrees inner d) where
  list_block : (floor : ℕ) (delay : Bool) (r : Row) (behind : List Row) (t : Tree) → BeginsList r → block_list inner d r behind ≡ Ok t → Reads floor d delay (r ∷ behind) t
  list_block floor delay r behind t begins h =
      let p = parts (λ _ t. t) (depth_fault r.number d) (list_of_entries inner d r behind) t h in
      let c = changed (λ ts. list (items_of ts)) (list_entries inner r.indent d (Ok []) (entries_of (heads false r.indent) r behind)) p.second p.is_second in
      let deep = shallow r.number d p.first p.is_first in
      subst (λ u. Reads floor d delay (r ∷ behind) u) (sym (p.is ∙ c.is))
      (inr (record { first = r; behind = behind; lines = refl; begins = begins; shallow = deep; entries = list_there inner r.indent d (agrees deep) (entries_of (heads false r.indent) r behind) c.old c.is_old }))

  map_block : (floor : ℕ) (delay : Bool) (r : Row) (behind : List Row) (t : Tree) → BeginsMap r → block_map inner d r behind ≡ Ok t → Reads floor d delay (r ∷ behind) t
  map_block floor delay r behind t begins h =
      let p = parts (λ _ t. t) (depth_fault r.number d) (map_of_entries inner d r behind) t h in
      let c = changed (λ ps. map (pairs_of ps)) (map_entries inner r.indent d (Ok []) [] (entries_of (heads true r.indent) r behind)) p.second p.is_second in
      let deep = shallow r.number d p.first p.is_first in
      let all = map_there inner r.indent d (agrees deep) (entries_of (heads true r.indent) r behind) c.old c.is_old in
      subst (λ u. Reads floor d delay (r ∷ behind) u) (sym (p.is ∙ c.is))
      (inr (record { first = r; behind = behind; lines = refl; begins = begins; shallow = deep; entries = all.0 }, all.1))

  by_start : (floor : ℕ) (delay : Bool) (r : Row) (behind : List Row) (t : Tree) → has_tab r ≡ false → (i k : Bool) → is_item r.text ≡ i → is_some (key_of r.text) ≡ k
      → cond i (block_list inner d r behind) (cond k (block_map inner d r behind) (scalar floor d delay r.number r.text behind)) ≡ Ok t → Reads floor d delay (r ∷ behind) t
  by_start floor delay r behind t tab true k e f h = list_block floor delay r behind t (tab, e) h
  by_start floor delay r behind t tab false true e f h = map_block floor delay r behind t (tab, e, f) h
  by_start floor delay r behind t tab false false e f h = leaf floor d delay (r ∷ behind) t ((tab, e, f), h)

  node_there : (floor : ℕ) (delay : Bool) (rs : List Row) (t : Tree) → node_at inner floor d delay rs ≡ Ok t → Reads floor d delay rs t
  node_there floor delay [] t h = leaf floor d delay [] t (sym (ok_same null t (Ok null) refl h))
  node_there floor delay (r ∷ behind) t h =
      let c = cleared (has_tab r) (cond (is_item r.text) (block_list inner d r behind) (cond (is_some (key_of r.text)) (block_map inner d r behind) (scalar floor d delay r.number r.text behind))) (record { line = r.number; kind = kinds.Tab }) t h in
      by_start floor delay r behind t c.0 (is_item r.text) (is_some (key_of r.text)) refl refl c.1

  leaf_made : (floor : ℕ) (delay : Bool) (rs : List Row) (t : Tree) → IsLeaf floor d delay rs t → node_at inner floor d delay rs ≡ Ok t
  leaf_made floor delay [] t is = ap Ok (sym is)
  leaf_made floor delay (r ∷ behind) t is = cond_false (has_tab r) _ _ is.0.0 ∙ cond_false (is_item r.text) _ _ is.0.1 ∙ cond_false (is_some (key_of r.text)) _ _ is.0.2 ∙ is.1

  list_block_made : (floor : ℕ) (delay : Bool) (rs : List Row) (ts : Items) → IsBlock false BeginsList d rs (λ n es. ItemsRead n d es ts) → node_at inner floor d delay rs ≡ Ok (list ts)
  list_block_made floor delay rs ts is =
      let r = is.first in
      let entries = list_made inner r.indent d (agrees is.shallow) (entries_of (heads false r.indent) r is.behind) ts is.entries in
      ap (node_at inner floor d delay) is.lines ∙ cond_false (has_tab r) _ _ is.begins.0 ∙ cond_true (is_item r.text) _ _ is.begins.1
      ∙ made (λ _ t. t) (depth_fault r.number d) (list_of_entries inner d r is.behind) tt (list (items_of (trees_in ts))) (depth_made r.number d is.shallow) (ap (given (λ ts. list (items_of ts))) entries)
      ∙ ap (λ l. Ok (list l)) (trees_back ts)

  map_block_made : (floor : ℕ) (delay : Bool) (rs : List Row) (ps : Pairs) → IsBlock true BeginsMap d rs (λ n es. PairsRead n d es ps) → IsInOrder (listed ps) → node_at inner floor d delay rs ≡ Ok (map ps)
  map_block_made floor delay rs ps is order =
      let r = is.first in
      let entries = map_made inner r.indent d (agrees is.shallow) (entries_of (heads true r.indent) r is.behind) ps is.entries order in
      ap (node_at inner floor d delay) is.lines ∙ cond_false (has_tab r) _ _ is.begins.0 ∙ cond_false (is_item r.text) _ _ is.begins.1 ∙ cond_true (is_some (key_of r.text)) _ _ is.begins.2
      ∙ made (λ _ t. t) (depth_fault r.number d) (map_of_entries inner d r is.behind) tt (map (pairs_of (listed ps))) (depth_made r.number d is.shallow) (ap (given (λ ps. map (pairs_of ps))) entries)
      ∙ ap (λ l. Ok (map l)) (pairs_back ps)

  node_made : (floor : ℕ) (delay : Bool) (rs : List Row) (t : Tree) → Reads floor d delay rs t → node_at inner floor d delay rs ≡ Ok t
  node_made floor delay rs null is = leaf_made floor delay rs null is
  node_made floor delay rs (boolean b) is = leaf_made floor delay rs (boolean b) is
  node_made floor delay rs (integer z) is = leaf_made floor delay rs (integer z) is
  node_made floor delay rs (decimal s) is = leaf_made floor delay rs (decimal s) is
  node_made floor delay rs (text s) is = leaf_made floor delay rs (text s) is
  node_made floor delay rs (list ts) (inl is) = leaf_made floor delay rs (list ts) is
  node_made floor delay rs (list ts) (inr is) = list_block_made floor delay rs ts is
  node_made floor delay rs (map ps) (inl is) = leaf_made floor delay rs (map ps) is
  node_made floor delay rs (map ps) (inr is) = map_block_made floor delay rs ps is.0 is.1

  pub node_at_agrees : Agrees (λ floor e delay rs. node_at inner floor e delay rs) d
  node_at_agrees floor delay rs t = (node_there floor delay rs t, node_made floor delay rs t)

pub nodes_agree : (m d : ℕ) → m + d ≡ 101 → Agrees (λ floor e delay rs. node m floor e delay rs) d
nodes_agree zero d h = node_at_agrees deep d (λ le. absurd (omega (arith, h, le)))
nodes_agree (suc m) d h = node_at_agrees (λ f e k ls. node m f e k ls) d (λ le. nodes_agree m (d + 1) (omega (arith, h)))
