-- What is read nests no deeper than is left: where a list or a map would have depth d, a tree nests at most 101 - d deep.
use Rattle.std.proofs.Common.{◌≡◌, ℕ, zero, suc, ◌-◌, ◌≤◌, List, [], ◌∷◌, length, Bool, true, false, cond, not, ◌&&◌, ◌==◌, nat_lt, Option, Some, None, Ordering, Less, Equal, Greater, Result, Ok, Err, IfOk, refl, arith}
use Rattle.std.proofs.Math.Nat.{max-le}
use Rattle.std.proofs.lemmas.Bool.Decides.{nat_tests}
use Rattle.std.specs.List.{AllByRecursion}
use Rattle.std.specs.Ordering.{match_ordering}
use Rattle.std.specs.Str.{encode_utf8_all}
use Rattle.wf_tree.specs.Trees.{Tree, list, map, items_of, pairs_of, depth, items_depth, pairs_depth}
use Rattle.wf_value.specs.Maps.{key_cmp, with_value}
use Rattle.wf_yaml_line.specs.Fault.{both, kept, refuse_if}
use Rattle.wf_yaml_flow.specs.Flow.{Seen, goes, stops, joined, followed, seen_as, Word, no_word, word, flow_word, flow_blanks, behind_colon, is_property, property_fault, behind_property, with_property, Deeper, scalar_tree, ends_node, value_end, value_word, value_node, flow_value, one_pair, key_fault, depth_fault, item_end, item_word, item_node, flow_item, behind_element, flow_items, key_value, pair_word, flow_pair, key_of_word, flow_pairs, flow_list, flow_map, collection, flow, max_depth}
use Rattle.wf_yaml_line.specs.Scalars.{is_delay_key}
use Rattle.wf_yaml_flow.specs.Line.{quoted_tree, flow_tree, marked_tree, plain_line, one_line}
use Rattle.wf_yaml_line.specs.Marks.{starts, is_empty, behind_first, is_bracket, is_quote, is_blank, skip, skip_blanks, trimmed, before_comment, ends_line, comma, open_map, close_list, close_map}
use Rattle.wf_yaml_flow.specs.Pairs.{map_of, with_pairs}
use Rattle.wf_yaml_line.specs.Quoted.{Quoted, quoted}
use Rattle.wf_yaml_line.specs.Scalars.{plain_tree_by, is_delay, may_start_plain}
use Rattle.wf_yaml_line.specs.Words.{plain_kind}
use Rattle.wf_yaml_line.specs.declared.fault.Fault.{Fault}
use Rattle.wf_yaml_line.specs.declared.fault.Kind.TheVariants as kinds
use Rattle.wf_yaml_line.specs.declared.scalars.Plain.{Plain}
use Rattle.wf_yaml_line.specs.declared.scalars.Plain.TheVariants as kind

abbrev pub IsShallow : ℕ → Tree → Type 0
IsShallow d t = depth t ≤ 101 - d

-- ## What holds of what was read
abbrev pub Any : {A : Type 0} → A → Type 0
Any a = Unit {0}

pub any : {A : Type 0} (r : Result A Fault) → IfOk r Any
any (Ok a) = tt
any (Err f) = tt

pub both_is : {A B C : Type 0} (f : A → B → C) (P : A → Type 0) (Q : B → Type 0) (R : C → Type 0) (r : Result A Fault) (q : Result B Fault) → ((a : A) (b : B) → P a → Q b → R (f a b)) → IfOk r P → IfOk q Q → IfOk (both f r q) R
both_is f P Q R (Ok a) (Ok b) h p q = h a b p q
both_is f P Q R (Ok a) (Err g) h p q = tt
both_is f P Q R (Err g) (Ok b) h p q = tt
both_is f P Q R (Err g) (Err k) h p q = tt

pub cond_is : {A : Type 0} (P : A → Type 0) (b : Bool) (x y : Result A Fault) → IfOk x P → IfOk y P → IfOk (cond b x y) P
cond_is P true x y p q = p
cond_is P false x y p q = q

abbrev SeenIs : {A : Type 0} → (A → Type 0) → Seen A → Type 0
SeenIs P (goes r rest) = IfOk r P
SeenIs P (stops g) = Unit {0}

seen_cond : {A : Type 0} (P : A → Type 0) (b : Bool) (x y : Seen A) → SeenIs P x → SeenIs P y → SeenIs P (cond b x y)
seen_cond P true x y p q = p
seen_cond P false x y p q = q

joined_is : {A B C : Type 0} (f : A → B → C) (P : A → Type 0) (Q : B → Type 0) (R : C → Type 0) (r : Result A Fault) (seen : Seen B) → ((a : A) (b : B) → P a → Q b → R (f a b)) → IfOk r P → SeenIs Q seen → SeenIs R (joined f r seen)
joined_is f P Q R r (goes q rest) h p is = both_is f P Q R r q h p is
joined_is f P Q R (Ok a) (stops g) h p is = tt
joined_is f P Q R (Err k) (stops g) h p is = tt

followed_is : {A B C : Type 0} (f : A → B → C) (P : A → Type 0) (Q : B → Type 0) (R : C → Type 0) (seen : Seen A) (go : List ℕ → Seen B) → ((a : A) (b : B) → P a → Q b → R (f a b)) → SeenIs P seen → ((rest : List ℕ) → SeenIs Q (go rest)) → SeenIs R (followed f seen go)
followed_is f P Q R (goes r rest) go h p more = joined_is f P Q R r (go rest) h p (more rest)
followed_is f P Q R (stops g) go h p more = tt

seen_as_is : {A B : Type 0} (f : A → B) (P : A → Type 0) (R : B → Type 0) (seen : Seen A) → ((a : A) → P a → R (f a)) → SeenIs P seen → SeenIs R (seen_as f seen)
seen_as_is f P R (goes (Ok a) rest) h p = h a p
seen_as_is f P R (goes (Err g) rest) h p = tt
seen_as_is f P R (stops g) h p = tt

-- ## Scalars

plain_is : (d : ℕ) (k : Plain) (delay : Bool) (n : ℕ) (s : List ℕ) → IfOk (plain_tree_by k delay n s) (IsShallow d)
plain_is d kind.Null delay n s = omega arith
plain_is d (kind.Truth b) delay n s = omega arith
plain_is d (kind.Whole z) delay n s = omega arith
plain_is d kind.Decimal delay n s = cond_is (IsShallow d) (delay && is_delay s) _ _ (omega arith) tt
plain_is d kind.Text delay n s = omega arith

scalar_is : (d : ℕ) (delay : Bool) (n : ℕ) (s : List ℕ) (quoted good : Bool) → IfOk (scalar_tree delay n s quoted good) (IsShallow d)
scalar_is d delay n s true true = omega arith
scalar_is d delay n s true false = tt
scalar_is d delay n s false good = plain_is d (plain_kind s) delay n s

-- ## Lists and maps
pub within : (n d : ℕ) → IfOk (depth_fault n d) (λ _. d ≤ 100)
within n d = by (nat_lt max_depth d) refl
  where
    by : (b : Bool) → nat_lt max_depth d ≡ b → IfOk (refuse_if b n kinds.TooDeep) (λ _. d ≤ 100)
    by true is = tt
    by false is = grind (arith, nat_tests, is)

one_deeper : (d m : ℕ) → d ≤ 100 → m ≤ 101 - suc d → suc m ≤ 101 - d
one_deeper d m le h = omega (arith, le, h)

items_bound : (b : ℕ) (ts : List Tree) → AllByRecursion (λ t. depth t ≤ b) ts → items_depth (items_of ts) ≤ b
items_bound b [] all = omega arith
items_bound b (t ∷ ts) all = max-le all.0 (items_bound b ts all.1)

pairs_bound : (b : ℕ) (ps : List (List ℕ × Tree)) → AllByRecursion (λ p. depth p.1 ≤ b) ps → pairs_depth (pairs_of ps) ≤ b
pairs_bound b [] all = omega arith
pairs_bound b (p ∷ ps) all = max-le all.0 (pairs_bound b ps all.1)

pub list_is : (d : ℕ) (ts : List Tree) → d ≤ 100 → AllByRecursion (IsShallow (suc d)) ts → IsShallow d (list (items_of ts))
list_is d ts le all = one_deeper d _ le (items_bound (101 - suc d) ts all)

pub map_is : (d : ℕ) (ps : List (List ℕ × Tree)) → d ≤ 100 → AllByRecursion (λ p. IsShallow (suc d) p.1) ps → IsShallow d (map (pairs_of ps))
map_is d ps le all = one_deeper d _ le (pairs_bound (101 - suc d) ps all)

pub with_value_all : (P : Tree → Type 0) (k : List ℕ) (t : Tree) (ps : List (List ℕ × Tree)) → P t → AllByRecursion (λ p. P p.1) ps → AllByRecursion (λ p. P p.1) (with_value k t ps)
with_value_all P k t [] h all = (h, tt)
with_value_all P k t (p ∷ ps) h all = by (key_cmp k p.0) (with_value_all P k t ps h all.1)
  where
    by : (o : Ordering) → AllByRecursion (λ q. P q.1) (with_value k t ps) → AllByRecursion (λ q. P q.1) (match_ordering o ((k, t) ∷ p ∷ ps) ((p.0, t) ∷ ps) (p ∷ with_value k t ps))
    by Less more = (h, all)
    by Equal more = (h, all.1)
    by Greater more = (all.0, more)

with_pairs_all : (P : Tree → Type 0) (done ps : List (List ℕ × Tree)) → AllByRecursion (λ p. P p.1) done → AllByRecursion (λ p. P p.1) ps → AllByRecursion (λ p. P p.1) (with_pairs done ps)
with_pairs_all P done [] d all = d
with_pairs_all P done (p ∷ ps) d all = with_pairs_all P (with_value p.0 p.1 done) ps (with_value_all P p.0 p.1 done all.0 d) all.1

map_of_is : (d : ℕ) (ps : List (List ℕ × Tree)) → d ≤ 100 → AllByRecursion (λ p. IsShallow (suc d) p.1) ps → IsShallow d (map_of ps)
map_of_is d ps le all = map_is d (with_pairs [] ps) le (with_pairs_all (IsShallow (suc d)) [] ps tt all)

-- ## Flow collections
module _ (deeper : Deeper) (n : ℕ) (H : (d : ℕ) (b : Bool) (s : List ℕ) → SeenIs (IsShallow d) (deeper d b s)) where
  value_end_is : (d : ℕ) (r : Result Tree Fault) (o : Option (List ℕ)) (rest : List ℕ) → IfOk r (IsShallow d) → SeenIs (IsShallow d) (value_end r n o rest)
  value_end_is d r (Some behind) rest is = tt
  value_end_is d r None rest is = is

  value_word_is : (d : ℕ) (delay : Bool) (w : Word) → SeenIs (IsShallow d) (value_word delay n w)
  value_word_is d delay no_word = tt
  value_word_is d delay (word s q good rest) = value_end_is d (scalar_tree delay n s q good) (behind_colon q rest) rest (scalar_is d delay n s q good)

  value_node_is : (d : ℕ) (delay : Bool) (s : List ℕ) → SeenIs (IsShallow d) (value_node deeper n d delay s)
  value_node_is d delay s =
      seen_cond (IsShallow d) (ends_node s) _ _ (omega arith)
      (seen_cond (IsShallow d) (starts is_bracket s) _ _ (H d (starts (λ b. b == open_map) s) (behind_first s)) (value_word_is d delay (flow_word s)))

  property_is : (d : ℕ) (s : List ℕ) (seen : Seen Tree) → SeenIs (IsShallow d) seen → SeenIs (IsShallow d) (with_property n s seen)
  property_is d s seen is = joined_is (λ _ t. t) Any (IsShallow d) (IsShallow d) (property_fault n s) seen (λ a t p q. q) (any (property_fault n s)) is

  flow_value_is : (d : ℕ) (delay : Bool) (r : List ℕ) → SeenIs (IsShallow d) (flow_value deeper n d delay r)
  flow_value_is d delay r =
      seen_cond (IsShallow d) (is_empty (flow_blanks r)) _ _ tt (property_is d (flow_blanks r) _ (value_node_is d delay (behind_property (flow_blanks r))))

  pair_depth : (d : ℕ) (t : Tree) → d ≤ 100 → IsShallow (suc d) t → (k : List ℕ) → IsShallow d (one_pair k t)
  pair_depth d t le is k = map_is d ((k, t) ∷ []) le (is, tt)

  item_end_is : (d : ℕ) (s : List ℕ) (q good : Bool) (o : Option (List ℕ)) (rest : List ℕ) → SeenIs (IsShallow d) (item_end deeper n d s q good o rest)
  item_end_is d s q good (Some behind) rest =
      joined_is (λ _ t. one_pair (encode_utf8_all s) t) (λ _. d ≤ 100) (IsShallow (suc d)) (IsShallow d) (both kept (key_fault n good) (depth_fault n d)) (flow_value deeper n (suc d) (is_delay_key (encode_utf8_all s)) behind)
      (λ a t le is. pair_depth d t le is (encode_utf8_all s))
      (both_is kept Any (λ _. d ≤ 100) (λ _. d ≤ 100) (key_fault n good) (depth_fault n d) (λ a b p q. q) (any (key_fault n good)) (within n d))
      (flow_value_is (suc d) (is_delay_key (encode_utf8_all s)) behind)
  item_end_is d s q good None rest = scalar_is d false n s q good

  item_word_is : (d : ℕ) (w : Word) → SeenIs (IsShallow d) (item_word deeper n d w)
  item_word_is d no_word = tt
  item_word_is d (word s q good rest) = item_end_is d s q good (behind_colon q rest) rest

  item_node_is : (d : ℕ) (s : List ℕ) → SeenIs (IsShallow d) (item_node deeper n d s)
  item_node_is d s = seen_cond (IsShallow d) (starts is_bracket s) _ _ (H d (starts (λ b. b == open_map) s) (behind_first s)) (item_word_is d (flow_word s))

  flow_item_is : (d : ℕ) (s : List ℕ) → SeenIs (IsShallow d) (flow_item deeper n d s)
  flow_item_is d s =
      seen_cond (IsShallow d) (starts is_property s) _ _
      (property_is d s _ (seen_cond (IsShallow d) (ends_node (behind_property s)) _ _ (omega arith) (item_node_is d (behind_property s))))
      (item_node_is d s)

  behind_is : {A : Type 0} (P : List A → Type 0) (close : ℕ) (r : List ℕ) (more : List ℕ → Seen (List A)) → P [] → ((u : List ℕ) → SeenIs P (more u)) → SeenIs P (behind_element close n r more)
  behind_is P close r more none all =
      seen_cond P (starts (λ b. b == comma) (flow_blanks r)) _ _ (all (flow_blanks (behind_first (flow_blanks r)))) (seen_cond P (starts (λ b. b == close) (flow_blanks r)) _ _ none tt)

  items_are : (m d : ℕ) (s : List ℕ) → SeenIs (AllByRecursion (IsShallow (suc d))) (flow_items deeper m n d s)
  items_are zero d s = tt
  items_are (suc m) d s =
      seen_cond (AllByRecursion (IsShallow (suc d))) (is_empty s) _ _ tt
      (seen_cond (AllByRecursion (IsShallow (suc d))) (starts (λ b. b == close_list) s) _ _ tt
      (followed_is (λ t ts. t ∷ ts) (IsShallow (suc d)) (AllByRecursion (IsShallow (suc d))) (AllByRecursion (IsShallow (suc d))) (flow_item deeper n (suc d) s) _ (λ t ts p q. (p, q)) (flow_item_is (suc d) s)
      (λ r. behind_is (AllByRecursion (IsShallow (suc d))) close_list r _ tt (λ u. items_are m d u))))

  key_value_is : (d : ℕ) (keys : List (List ℕ)) (k : List ℕ) (good : Bool) (o : Option (List ℕ)) → SeenIs (λ p. IsShallow (suc d) p.1) (key_value deeper n d keys k good o)
  key_value_is d keys k good (Some behind) =
      joined_is (λ _ t. (encode_utf8_all k, t)) Any (IsShallow (suc d)) (λ p. IsShallow (suc d) p.1) _ (flow_value deeper n (suc d) (is_delay_key (encode_utf8_all k)) behind) (λ a t p q. q) (any _) (flow_value_is (suc d) (is_delay_key (encode_utf8_all k)) behind)
  key_value_is d keys k good None = tt

  pair_word_is : (d : ℕ) (keys : List (List ℕ)) (w : Word) → SeenIs (λ p. IsShallow (suc d) p.1) (pair_word deeper n d keys w)
  pair_word_is d keys no_word = tt
  pair_word_is d keys (word k q good rest) = key_value_is d keys k good (behind_colon q rest)

  flow_pair_is : (d : ℕ) (keys : List (List ℕ)) (s : List ℕ) → SeenIs (λ p. IsShallow (suc d) p.1) (flow_pair deeper n d keys s)
  flow_pair_is d keys s = joined_is (λ _ p. p) Any (λ p. IsShallow (suc d) p.1) (λ p. IsShallow (suc d) p.1) (property_fault n s) _ (λ a p x y. y) (any (property_fault n s)) (pair_word_is d keys (flow_word (behind_property s)))

  pairs_are : (m d : ℕ) (keys : List (List ℕ)) (s : List ℕ) → SeenIs (AllByRecursion (λ p. IsShallow (suc d) p.1)) (flow_pairs deeper m n d keys s)
  pairs_are zero d keys s = tt
  pairs_are (suc m) d keys s =
      seen_cond (AllByRecursion (λ p. IsShallow (suc d) p.1)) (is_empty s) _ _ tt
      (seen_cond (AllByRecursion (λ p. IsShallow (suc d) p.1)) (starts (λ b. b == close_map) s) _ _ tt
      (followed_is (λ p ps. p ∷ ps) (λ p. IsShallow (suc d) p.1) (AllByRecursion (λ p. IsShallow (suc d) p.1)) (AllByRecursion (λ p. IsShallow (suc d) p.1)) (flow_pair deeper n d keys s) _ (λ p ps x y. (x, y)) (flow_pair_is d keys s)
      (λ r. behind_is (AllByRecursion (λ p. IsShallow (suc d) p.1)) close_map r _ tt (λ u. pairs_are m d (key_of_word (flow_word (behind_property s)) ∷ keys) u))))

  flow_list_is : (d : ℕ) (s : List ℕ) → SeenIs (λ t. d ≤ 100 → IsShallow d t) (flow_list deeper n d s)
  flow_list_is d s = seen_as_is (λ ts. list (items_of ts)) (AllByRecursion (IsShallow (suc d))) (λ t. d ≤ 100 → IsShallow d t) _ (λ ts all le. list_is d ts le all) (items_are (suc (length s)) d (flow_blanks s))

  flow_map_is : (d : ℕ) (s : List ℕ) → SeenIs (λ t. d ≤ 100 → IsShallow d t) (flow_map deeper n d s)
  flow_map_is d s = seen_as_is map_of (AllByRecursion (λ p. IsShallow (suc d) p.1)) (λ t. d ≤ 100 → IsShallow d t) _ (λ ps all le. map_of_is d ps le all) (pairs_are (suc (length s)) d [] (flow_blanks s))

collection_is : (m n d : ℕ) (b : Bool) (s : List ℕ) → SeenIs (IsShallow d) (collection m n d b s)
collection_is zero n d b s = tt
collection_is (suc m) n d true s =
    joined_is (λ _ t. t) (λ _. d ≤ 100) (λ t. d ≤ 100 → IsShallow d t) (IsShallow d) (depth_fault n d) _ (λ a t le h. h le) (within n d)
    (flow_map_is (λ e b r. collection m n e b r) n (λ e b r. collection_is m n e b r) d s)
collection_is (suc m) n d false s =
    joined_is (λ _ t. t) (λ _. d ≤ 100) (λ t. d ≤ 100 → IsShallow d t) (IsShallow d) (depth_fault n d) _ (λ a t le h. h le) (within n d)
    (flow_list_is (λ e b r. collection m n e b r) n (λ e b r. collection_is m n e b r) d s)

flow_is : (n d : ℕ) (s : List ℕ) → SeenIs (IsShallow d) (flow n d s)
flow_is n d s = collection_is (length s) n d (starts (λ b. b == open_map) s) (behind_first s)

-- ## A line
flow_tree_is : (n d : ℕ) (seen : Seen Tree) → SeenIs (IsShallow d) seen → IfOk (flow_tree n seen) (IsShallow d)
flow_tree_is n d (goes r rest) is = both_is kept (IsShallow d) Any (IsShallow d) r _ (λ t a p q. p) is (any _)
flow_tree_is n d (stops g) is = tt

marked_is : (n d : ℕ) (s : List ℕ) → IfOk (marked_tree n d s) (IsShallow d)
marked_is n d s =
    let r = skip_blanks (skip (λ b. not (is_blank b)) s) in
    both_is (λ _ t. t) Any (IsShallow d) (IsShallow d) (property_fault n s) _ (λ a t p q. q) (any (property_fault n s)) (cond_is (IsShallow d) (starts is_bracket r) _ _ (flow_tree_is n d (flow n d r) (flow_is n d r)) (omega arith))

quoted_is : (n d : ℕ) (q : Quoted) (o : Option (List ℕ)) → IfOk (quoted_tree n q o) (IsShallow d)
quoted_is n d q (Some r) = cond_is (IsShallow d) (q.good && ends_line r) _ _ (omega arith) tt
quoted_is n d q None = tt

plain_line_is : (delay : Bool) (n d : ℕ) (s : List ℕ) → IfOk (plain_line delay n s) (IsShallow d)
plain_line_is delay n d s = both_is kept (IsShallow d) Any (IsShallow d) _ _ (λ t a p q. p) (plain_is d (plain_kind (trimmed (before_comment false s))) delay n (trimmed (before_comment false s))) (any _)

pub one_line_is : (delay : Bool) (n d : ℕ) (s : List ℕ) → IfOk (one_line delay n d s) (IsShallow d)
one_line_is delay n d s =
    cond_is (IsShallow d) (starts is_property s) _ _ (marked_is n d s)
    (cond_is (IsShallow d) (starts is_quote s) _ _ (quoted_is n d (quoted s) (quoted s).rest)
    (cond_is (IsShallow d) (starts is_bracket s) _ _ (flow_tree_is n d (flow n d s) (flow_is n d s))
    (cond_is (IsShallow d) (may_start_plain s) _ _ (plain_line_is delay n d s) tt)))
