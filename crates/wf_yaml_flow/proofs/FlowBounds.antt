-- Flow collections without a bound: what each of them is, in the same words inside.
use Rattle.std.proofs.Common.{◌≡◌, ℕ, zero, suc, ◌<◌, ◌≤◌, List, [], ◌∷◌, length, Bool, true, false, cond, ◌==◌, ◌||◌, Option, Some, None, Ok, refl, ap, subst, arith}
use Rattle.std.specs.Str.{encode_utf8_all}
use Rattle.wf_yaml_line.specs.Fault.{both, kept, refuse_if}
use Rattle.wf_yaml_line.specs.declared.fault.Kind.TheVariants as kinds
use Rattle.wf_yaml_line.specs.Marks.{starts, is_empty, behind_first, is_one_of, is_same, comma, close_list, close_map}
use Rattle.wf_yaml_flow.specs.Pairs.{map_of}
use Rattle.wf_tree.specs.Trees.{Tree, list, items_of}
use Rattle.wf_yaml_flow.specs.Flow.{Seen, goes, stopped, joined, followed, seen_as, flow_blanks, Word, no_word, word, flow_word, behind_colon, property_fault, behind_property, Deeper, flow_value, key_fault, depth_fault, flow_item, behind_element, flow_items, key_value, pair_word, flow_pair, key_of_word, flow_pairs, collection, flow}
use Rattle.wf_yaml_line.specs.Scalars.{is_delay_key}
use Rattle.wf_yaml_flow.specs.FlowWalk.{inner, items, pairs, from_first, noting}
use Rattle.wf_yaml_flow.proofs.FlowLengths.{first_short, first_shorter, blanks_short, property_short, WordIn, word_in, BehindIn, colon_in}
use Rattle.wf_yaml_flow.proofs.FlowSteps.{Same, same_more, same_joined, same_as, same_followed, same_chosen, Alike, flow_value_same, flow_item_same}

same_element : {A : Type 0} (close n : ℕ) (r : List ℕ) (more other : List ℕ → Seen (List A)) → ((u : List ℕ) → length u < length r → Same (length u) (more u) (other u))
    → Same (length r) (behind_element close n r more) (behind_element close n r other)
same_element {A} close n r more other h =
    let s = flow_blanks r in
    let u = flow_blanks (behind_first s) in
    let end : Seen (List A) = cond (starts (λ b. b == close) s) (goes (Ok []) (behind_first s)) (stopped n) in
    let short = blanks_short r in
    same_chosen (starts (λ b. b == comma) s) (length r) (more u) end (other u) end
    (λ e.
    let less : length u < length r = omega (arith, blanks_short (behind_first s), first_shorter (λ b. b == comma) s e, short) in
    same_more (length u) (length r) (more u) (other u) (omega (arith, less)) (h u less))
    (λ _. same_chosen (starts (λ b. b == close) s) (length r) (goes (Ok []) (behind_first s)) (stopped n) (goes (Ok []) (behind_first s)) (stopped n)
    (λ _. (refl, omega (arith, first_short s, short)))
    (λ _. (refl, tt)))

-- ---- items

abbrev item_step : Deeper → ℕ → ℕ → List ℕ → (List ℕ → Seen (List Tree)) → Seen (List Tree)
item_step deeper n d s more =
    let all = followed (λ t ts. t ∷ ts) (flow_item deeper n (suc d) s) (λ r. behind_element close_list n r more) in
    cond (is_empty s) (stopped n) (cond (starts (λ b. b == close_list) s) (goes (Ok []) (behind_first s)) all)

same_item_step : (a b : Deeper) (n d : ℕ) (s : List ℕ) (more other : List ℕ → Seen (List Tree)) → Alike (length s) a b
    → ((u : List ℕ) → length u < length s → Same (length u) (more u) (other u)) → Same (length s) (item_step a n d s more) (item_step b n d s other)
same_item_step a b n d s more other alike h =
    let all = followed (λ t ts. t ∷ ts) (flow_item a n (suc d) s) (λ r. behind_element close_list n r more) in
    let same = followed (λ t ts. t ∷ ts) (flow_item b n (suc d) s) (λ r. behind_element close_list n r other) in
    let end : Seen (List Tree) = goes (Ok []) (behind_first s) in
    let closes = starts (λ b. b == close_list) s in
    same_chosen (is_empty s) (length s) (stopped n) (cond closes end all) (stopped n) (cond closes end same)
    (λ _. (refl, tt))
    (λ _. same_chosen closes (length s) end all end same
    (λ _. (refl, first_short s))
    (λ _. same_followed (λ t ts. t ∷ ts) (length s) (length s) (flow_item a n (suc d) s) (flow_item b n (suc d) s)
    (λ r. behind_element close_list n r more) (λ r. behind_element close_list n r other)
    (flow_item_same (length s) n a b alike (suc d) s (omega arith))
    (λ r k. same_more (length r) (length s) (behind_element close_list n r more) (behind_element close_list n r other) k
    (same_element close_list n r more other (λ u e. h u (omega (arith, e, k)))))))

alike_less : (m k : ℕ) (a b : Deeper) → k ≤ m → Alike m a b → Alike k a b
alike_less m k a b h alike d is_map s e = alike d is_map s (omega (arith, h, e))

same_items : (a b : Deeper) (j k n d : ℕ) (s : List ℕ) → length s < j → length s < k → Alike (length s) a b → Same (length s) (flow_items a j n d s) (flow_items b k n d s)
same_items a b zero k n d s h e alike = absurd (omega (arith, h))
same_items a b (suc j) zero n d s h e alike = absurd (omega (arith, e))
same_items a b (suc j) (suc k) n d s h e alike = same_item_step a b n d s (λ u. flow_items a j n d u) (λ u. flow_items b k n d u) alike
    (λ u less. same_items a b j k n d u (omega (arith, h, less)) (omega (arith, e, less)) (alike_less (length s) (length u) a b (omega (arith, less)) alike))

-- ---- pairs

abbrev pub SameKeys : List (List ℕ) → List (List ℕ) → Type 0
SameKeys ks ls = (k : List ℕ) → is_one_of ks k ≡ is_one_of ls k

same_key_value : (a b : Deeper) (n d : ℕ) (ks ls : List (List ℕ)) (k : List ℕ) (good : Bool) (o : Option (List ℕ)) (m : ℕ) → Alike m a b → SameKeys ks ls → BehindIn m o
    → Same m (key_value a n d ks k good o) (key_value b n d ls k good o)
same_key_value a b n d ks ls k good None m alike e h = (refl, tt)
same_key_value a b n d ks ls k good (Some behind) m alike e h =
    let key = encode_utf8_all k in
    let delay = is_delay_key key in
    let x = flow_value a n (suc d) delay behind in
    let y = flow_value b n (suc d) delay behind in
    let value : Same m x y = same_more (length behind) m x y (omega (arith, h)) (flow_value_same m n a b alike (suc d) delay behind (omega (arith, h))) in
    subst (λ t. Same {A = List ℕ × Tree} m (joined (λ _ v. (key, v)) (both kept (key_fault n good) (refuse_if (is_one_of ks key) n kinds.DoubleKey)) x) (joined (λ _ v. (key, v)) (both kept (key_fault n good) (refuse_if t n kinds.DoubleKey)) y)) (e key)
    (same_joined (λ _ v. (key, v)) (both kept (key_fault n good) (refuse_if (is_one_of ks key) n kinds.DoubleKey)) m x y value)

behind_more : (m k : ℕ) (o : Option (List ℕ)) → m ≤ k → BehindIn m o → BehindIn k o
behind_more m k None h e = tt
behind_more m k (Some r) h e = omega (arith, h, e)

same_pair_word : (a b : Deeper) (n d : ℕ) (ks ls : List (List ℕ)) (w : Word) (m : ℕ) → Alike m a b → SameKeys ks ls → WordIn m w → Same m (pair_word a n d ks w) (pair_word b n d ls w)
same_pair_word a b n d ks ls no_word m alike e h = (refl, tt)
same_pair_word a b n d ks ls (word k q g rest) m alike e h = same_key_value a b n d ks ls k g (behind_colon q rest) m alike e (behind_more (length rest) m (behind_colon q rest) h (colon_in q rest))

same_pair : (a b : Deeper) (n d : ℕ) (ks ls : List (List ℕ)) (s : List ℕ) → Alike (length s) a b → SameKeys ks ls → Same (length s) (flow_pair a n d ks s) (flow_pair b n d ls s)
same_pair a b n d ks ls s alike e =
    let t = behind_property s in
    let short = property_short s in
    let x = pair_word a n d ks (flow_word t) in
    let y = pair_word b n d ls (flow_word t) in
    same_joined (λ _ p. p) (property_fault n s) (length s) x y
    (same_more (length t) (length s) x y short (same_pair_word a b n d ks ls (flow_word t) (length t) (alike_less (length s) (length t) a b short alike) e (word_in t)))

abbrev Reader : Type 0
Reader = List (List ℕ) → List ℕ → Seen (List (List ℕ × Tree))

abbrev pair_step : Deeper → ℕ → ℕ → List (List ℕ) → List ℕ → Reader → Seen (List (List ℕ × Tree))
pair_step deeper n d keys s more =
    let key = key_of_word (flow_word (behind_property s)) in
    let all = followed (λ p ps. p ∷ ps) (flow_pair deeper n d keys s) (λ r. behind_element close_map n r (λ u. more (key ∷ keys) u)) in
    cond (is_empty s) (stopped n) (cond (starts (λ b. b == close_map) s) (goes (Ok []) (behind_first s)) all)

same_keys_more : (key : List ℕ) (ks ls : List (List ℕ)) → SameKeys ks ls → SameKeys (key ∷ ks) (key ∷ ls)
same_keys_more key ks ls e k = ap (λ t. is_same key k || t) (e k)

same_pair_step : (a b : Deeper) (n d : ℕ) (ks ls : List (List ℕ)) (s : List ℕ) (more other : Reader) → Alike (length s) a b → SameKeys ks ls
    → ((key : List ℕ) (u : List ℕ) → length u < length s → Same (length u) (more (key ∷ ks) u) (other (key ∷ ls) u)) → Same (length s) (pair_step a n d ks s more) (pair_step b n d ls s other)
same_pair_step a b n d ks ls s more other alike e h =
    let key = key_of_word (flow_word (behind_property s)) in
    let all = followed (λ p ps. p ∷ ps) (flow_pair a n d ks s) (λ r. behind_element close_map n r (λ u. more (key ∷ ks) u)) in
    let same = followed (λ p ps. p ∷ ps) (flow_pair b n d ls s) (λ r. behind_element close_map n r (λ u. other (key ∷ ls) u)) in
    let end : Seen (List (List ℕ × Tree)) = goes (Ok []) (behind_first s) in
    let closes = starts (λ b. b == close_map) s in
    same_chosen (is_empty s) (length s) (stopped n) (cond closes end all) (stopped n) (cond closes end same)
    (λ _. (refl, tt))
    (λ _. same_chosen closes (length s) end all end same
    (λ _. (refl, first_short s))
    (λ _. same_followed (λ p ps. p ∷ ps) (length s) (length s) (flow_pair a n d ks s) (flow_pair b n d ls s)
    (λ r. behind_element close_map n r (λ u. more (key ∷ ks) u)) (λ r. behind_element close_map n r (λ u. other (key ∷ ls) u))
    (same_pair a b n d ks ls s alike e)
    (λ r k. same_more (length r) (length s) (behind_element close_map n r (λ u. more (key ∷ ks) u)) (behind_element close_map n r (λ u. other (key ∷ ls) u)) k
    (same_element close_map n r (λ u. more (key ∷ ks) u) (λ u. other (key ∷ ls) u) (λ u l. h key u (omega (arith, l, k)))))))

same_pairs : (a b : Deeper) (j k n d : ℕ) (ks ls : List (List ℕ)) (s : List ℕ) → length s < j → length s < k → Alike (length s) a b → SameKeys ks ls
    → Same (length s) (flow_pairs a j n d ks s) (flow_pairs b k n d ls s)
same_pairs a b zero k n d ks ls s h e alike same = absurd (omega (arith, h))
same_pairs a b (suc j) zero n d ks ls s h e alike same = absurd (omega (arith, e))
same_pairs a b (suc j) (suc k) n d ks ls s h e alike same = same_pair_step a b n d ks ls s (λ ms u. flow_pairs a j n d ms u) (λ ms u. flow_pairs b k n d ms u) alike same
    (λ key u less. same_pairs a b j k n d (key ∷ ks) (key ∷ ls) u (omega (arith, h, less)) (omega (arith, e, less)) (alike_less (length s) (length u) a b (omega (arith, less)) alike) (same_keys_more key ks ls same))

-- ---- collections

abbrev bounded : ℕ → ℕ → Deeper
bounded m n e is_map r = collection m n e is_map r

pub same_collection : (j k n d : ℕ) (is_map : Bool) (s : List ℕ) → length s < j → length s < k → Same (length s) (collection j n d is_map s) (collection k n d is_map s)
same_collection zero k n d is_map s h e = absurd (omega (arith, h))
same_collection (suc j) zero n d is_map s h e = absurd (omega (arith, e))
same_collection (suc j) (suc k) n d true s h e =
    let t = flow_blanks s in
    let short = blanks_short s in
    let x = flow_pairs (bounded j n) (suc (length s)) n d [] t in
    let y = flow_pairs (bounded k n) (suc (length s)) n d [] t in
    let alike : Alike (length t) (bounded j n) (bounded k n) = λ f b r less. same_collection j k n f b r (omega (arith, h, less, short)) (omega (arith, e, less, short)) in
    same_joined (λ _ v. v) (depth_fault n d) (length s) (seen_as map_of x) (seen_as map_of y)
    (same_as map_of (length s) x y (same_more (length t) (length s) x y short
    (same_pairs (bounded j n) (bounded k n) (suc (length s)) (suc (length s)) n d [] [] t (omega (arith, short)) (omega (arith, short)) alike (λ _. refl))))
same_collection (suc j) (suc k) n d false s h e =
    let t = flow_blanks s in
    let short = blanks_short s in
    let x = flow_items (bounded j n) (suc (length s)) n d t in
    let y = flow_items (bounded k n) (suc (length s)) n d t in
    let alike : Alike (length t) (bounded j n) (bounded k n) = λ f b r less. same_collection j k n f b r (omega (arith, h, less, short)) (omega (arith, e, less, short)) in
    same_joined (λ _ v. v) (depth_fault n d) (length s) (seen_as (λ ts. list (items_of ts)) x) (seen_as (λ ts. list (items_of ts)) y)
    (same_as (λ ts. list (items_of ts)) (length s) x y (same_more (length t) (length s) x y short
    (same_items (bounded j n) (bounded k n) (suc (length s)) (suc (length s)) n d t (omega (arith, short)) (omega (arith, short)) alike)))

-- ---- without a bound

abbrev pub inside : ℕ → Deeper
inside n e is_map r = inner n e is_map r

alike_inner : (m n : ℕ) → Alike m (bounded m n) (inside n)
unfolding inner
alike_inner m n d is_map s h = same_collection m (suc (length s)) n d is_map s h (omega arith)

alike_itself : (m n : ℕ) → Alike m (inside n) (inside n)
unfolding inner
alike_itself m n d is_map s h = same_collection (suc (length s)) (suc (length s)) n d is_map s (omega arith) (omega arith)

pub items_next : (n d : ℕ) (s : List ℕ) → items n d s ≡ item_step (inside n) n d s (λ u. items n d u)
unfolding items
items_next n d s = (same_item_step (inside n) (inside n) n d s (λ u. flow_items (inside n) (length s) n d u) (λ u. flow_items (inside n) (suc (length u)) n d u) (alike_itself (length s) n)
    (λ u less. same_items (inside n) (inside n) (length s) (suc (length u)) n d u less (omega arith) (alike_itself (length u) n))).0

pub pairs_next : (n d : ℕ) (keys : List (List ℕ)) (s : List ℕ) → pairs n d keys s ≡ pair_step (inside n) n d keys s (λ ks u. pairs n d ks u)
unfolding pairs
pairs_next n d keys s = (same_pair_step (inside n) (inside n) n d keys keys s (λ ks u. flow_pairs (inside n) (length s) n d ks u) (λ ks u. flow_pairs (inside n) (suc (length u)) n d ks u) (alike_itself (length s) n) (λ _. refl)
    (λ key u less. same_pairs (inside n) (inside n) (length s) (suc (length u)) n d (key ∷ keys) (key ∷ keys) u less (omega arith) (alike_itself (length u) n) (λ _. refl))).0

pub pairs_same : (n d : ℕ) (ks ls : List (List ℕ)) (s : List ℕ) → SameKeys ks ls → pairs n d ks s ≡ pairs n d ls s
unfolding pairs
pairs_same n d ks ls s e = (same_pairs (inside n) (inside n) (suc (length s)) (suc (length s)) n d ks ls s (omega arith) (omega arith) (alike_itself (length s) n) e).0

pub inner_next : (n d : ℕ) (is_map : Bool) (s : List ℕ) → inner n d is_map s ≡ noting (depth_fault n d) (from_first n d is_map (flow_blanks s))
unfolding inner items pairs
inner_next n d true s =
    let t = flow_blanks s in
    let short = blanks_short s in
    ap (λ x. noting (depth_fault n d) (seen_as map_of x))
    (same_pairs (bounded (length s) n) (inside n) (suc (length s)) (suc (length t)) n d [] [] t (omega (arith, short)) (omega arith) (alike_less (length s) (length t) (bounded (length s) n) (inside n) short (alike_inner (length s) n)) (λ _. refl)).0
inner_next n d false s =
    let t = flow_blanks s in
    let short = blanks_short s in
    ap (λ x. noting (depth_fault n d) (seen_as (λ ts. list (items_of ts)) x))
    (same_items (bounded (length s) n) (inside n) (suc (length s)) (suc (length t)) n d t (omega (arith, short)) (omega arith) (alike_less (length s) (length t) (bounded (length s) n) (inside n) short (alike_inner (length s) n))).0

-- the whole collection
pub flow_inner : (p : ℕ → Bool) (n d : ℕ) (s : List ℕ) → starts p s ≡ true → flow n d s ≡ inner n d (starts (λ b. b == 123) s) (behind_first s)
unfolding inner
flow_inner p n d [] h = absurd (cc)
flow_inner p n d (b ∷ r) h = refl
