-- What is read of one line has its decimals where they may stand.
use Rattle.std.proofs.Common.{◌≡◌, ℕ, zero, suc, List, [], ◌∷◌, length, Bool, true, false, cond, not, ◌&&◌, ◌==◌, Option, Some, None, Ordering, Less, Equal, Greater, is_eq, Result, Ok, Err, IfOk, refl, sym, ap, ◌∙◌, subst}
use Rattle.std.proofs.lemmas.Bool.{and_parts}
use Rattle.std.proofs.lemmas.Map.Text.{is_eq-slice_cmp}
use Rattle.std.proofs.lemmas.Slice.Eq.{bytes_eq-Decides}
use Rattle.std.specs.List.{AllByRecursion}
use Rattle.std.specs.Ordering.{match_ordering}
use Rattle.std.specs.Str.{encode_utf8_all}
use Rattle.wf_tree.specs.Trees.{Tree, decimal, list, map, items_of, pairs_of}
use Rattle.wf_value.specs.Maps.{key_cmp, with_value}
use Rattle.wf_yaml_flow.proofs.Shallow.{Any, any, both_is, cond_is}
use Rattle.wf_yaml_line.specs.Fault.{both, kept, refuse}
use Rattle.wf_yaml_flow.specs.Flow.{Seen, goes, stops, joined, followed, seen_as, Word, no_word, word, flow_word, flow_blanks, behind_colon, is_property, property_fault, behind_property, with_property, Deeper, scalar_tree, ends_node, value_end, value_word, value_node, flow_value, one_pair, key_fault, depth_fault, item_end, item_word, item_node, flow_item, behind_element, flow_items, key_value, pair_word, flow_pair, key_of_word, flow_pairs, flow_list, flow_map, collection, flow}
use Rattle.wf_yaml_line.specs.Scalars.{is_delay_key}
use Rattle.wf_yaml_flow.specs.Line.{quoted_tree, flow_tree, marked_tree, plain_line, one_line}
use Rattle.wf_yaml_line.specs.Marks.{starts, is_empty, behind_first, is_bracket, is_quote, is_blank, skip, skip_blanks, trimmed, before_comment, ends_line, comma, open_map, close_list, close_map}
use Rattle.wf_yaml_flow.specs.Pairs.{map_of, with_pairs}
use Rattle.wf_yaml_line.specs.Quoted.{Quoted, quoted}
use Rattle.wf_yaml_line.specs.Scalars.{plain_tree_by, is_delay, may_start_plain}
use Rattle.wf_yaml_line.specs.Words.{plain_kind}
use Rattle.wf_yaml_line.specs.declared.fault.Fault.{Fault}
use Rattle.wf_yaml_line.specs.declared.fault.Kind.TheVariants as kinds
use Rattle.wf_yaml_line.specs.declared.scalars.Plain.{Plain}
use Rattle.wf_yaml_line.specs.declared.scalars.Plain.TheVariants as kind
use Rattle.wf_yaml_write.specs.Whole.{DecimalsFit, DecimalsFitItems, DecimalsFitPairs}
use Rattle.wf_format_laws.proofs.Delays.{delay_kept}

-- ## What holds of what was read
abbrev SeenIs : {A : Type 0} → (A → Type 0) → Seen A → Type 0
SeenIs P (goes r rest) = IfOk r P
SeenIs P (stops g) = Unit {0}

seen_cond : {A : Type 0} (P : A → Type 0) (b : Bool) (x y : Seen A) → SeenIs P x → SeenIs P y → SeenIs P (cond b x y)
seen_cond P true x y p q = p
seen_cond P false x y p q = q

joined_is : {A B C : Type 0} (f : A → B → C) (P : A → Type 0) (Q : B → Type 0) (R : C → Type 0) (r : Result A Fault) (seen : Seen B) → ((a : A) (b : B) → P a → Q b → R (f a b)) → IfOk r P → SeenIs Q seen → SeenIs R (joined f r seen)
joined_is f P Q R r (goes q rest) h p is = both_is f P Q R r q h p is
joined_is f P Q R (Ok a) (stops g) h p is = tt
joined_is f P Q R (Err k) (stops g) h p is = tt

followed_is : {A B C : Type 0} (f : A → B → C) (P : A → Type 0) (Q : B → Type 0) (R : C → Type 0) (seen : Seen A) (go : List ℕ → Seen B) → ((a : A) (b : B) → P a → Q b → R (f a b)) → SeenIs P seen → ((rest : List ℕ) → SeenIs Q (go rest)) → SeenIs R (followed f seen go)
followed_is f P Q R (goes r rest) go h p more = joined_is f P Q R r (go rest) h p (more rest)
followed_is f P Q R (stops g) go h p more = tt

seen_as_is : {A B : Type 0} (f : A → B) (P : A → Type 0) (R : B → Type 0) (seen : Seen A) → ((a : A) → P a → R (f a)) → SeenIs P seen → SeenIs R (seen_as f seen)
seen_as_is f P R (goes (Ok a) rest) h p = h a p
seen_as_is f P R (goes (Err g) rest) h p = tt
seen_as_is f P R (stops g) h p = tt

-- ## Scalars
decimal_is : (delay : Bool) (n : ℕ) (s : List ℕ) (b : Bool) → (delay && is_delay s) ≡ b → IfOk (cond b (Ok (decimal (encode_utf8_all s))) (refuse n kinds.Decimal)) (DecimalsFit delay)
decimal_is delay n s true e = let k = and_parts delay (is_delay s) e in (k.0, delay_kept s k.1)
decimal_is delay n s false e = tt

plain_is : (k : Plain) (delay : Bool) (n : ℕ) (s : List ℕ) → IfOk (plain_tree_by k delay n s) (DecimalsFit delay)
plain_is kind.Null delay n s = tt
plain_is (kind.Truth b) delay n s = tt
plain_is (kind.Whole z) delay n s = tt
plain_is kind.Decimal delay n s = decimal_is delay n s (delay && is_delay s) refl
plain_is kind.Text delay n s = tt

scalar_is : (delay : Bool) (n : ℕ) (s : List ℕ) (quoted good : Bool) → IfOk (scalar_tree delay n s quoted good) (DecimalsFit delay)
scalar_is delay n s true true = tt
scalar_is delay n s true false = tt
scalar_is delay n s false good = plain_is (plain_kind s) delay n s

-- ## Lists and maps
abbrev pub ItemsFit : List Tree → Type 0
ItemsFit ts = AllByRecursion (DecimalsFit false) ts

-- a pair's value fits its key
abbrev pub PairFits : List ℕ × Tree → Type 0
PairFits p = DecimalsFit (is_delay_key p.0) p.1

items_all : (ts : List Tree) → ItemsFit ts → DecimalsFitItems (items_of ts)
items_all [] all = tt
items_all (t ∷ ts) all = (all.0, items_all ts all.1)

pairs_all : (ps : List (List ℕ × Tree)) → AllByRecursion PairFits ps → DecimalsFitPairs (pairs_of ps)
pairs_all [] all = tt
pairs_all (p ∷ ps) all = (all.0, pairs_all ps all.1)

pub list_is : (delay : Bool) (ts : List Tree) → ItemsFit ts → DecimalsFit delay (list (items_of ts))
list_is delay ts all = items_all ts all

pub map_is : (delay : Bool) (ps : List (List ℕ × Tree)) → AllByRecursion PairFits ps → DecimalsFit delay (map (pairs_of ps))
map_is delay ps all = pairs_all ps all

one_key : (k l : List ℕ) → key_cmp k l ≡ Equal → k ≡ l
one_key k l e = (bytes_eq-Decides k l).0 (sym (is_eq-slice_cmp k l) ∙ ap is_eq e)

pub with_value_all : (k : List ℕ) (t : Tree) (ps : List (List ℕ × Tree)) → PairFits (k, t) → AllByRecursion PairFits ps → AllByRecursion PairFits (with_value k t ps)
with_value_all k t [] h all = (h, tt)
with_value_all k t (p ∷ ps) h all = by (key_cmp k p.0) refl (with_value_all k t ps h all.1)
  where
    by : (o : Ordering) → key_cmp k p.0 ≡ o → AllByRecursion PairFits (with_value k t ps) → AllByRecursion PairFits (match_ordering o ((k, t) ∷ p ∷ ps) ((p.0, t) ∷ ps) (p ∷ with_value k t ps))
    by Less e more = (h, all)
    by Equal e more = (subst (λ l. DecimalsFit (is_delay_key l) t) (one_key k p.0 e) h, all.1)
    by Greater e more = (all.0, more)

with_pairs_all : (done ps : List (List ℕ × Tree)) → AllByRecursion PairFits done → AllByRecursion PairFits ps → AllByRecursion PairFits (with_pairs done ps)
with_pairs_all done [] d all = d
with_pairs_all done (p ∷ ps) d all = with_pairs_all (with_value p.0 p.1 done) ps (with_value_all p.0 p.1 done all.0 d) all.1

map_of_is : (delay : Bool) (ps : List (List ℕ × Tree)) → AllByRecursion PairFits ps → DecimalsFit delay (map_of ps)
map_of_is delay ps all = map_is delay (with_pairs [] ps) (with_pairs_all [] ps tt all)

-- ## Flow collections
module _ (deeper : Deeper) (n : ℕ) (H : (delay : Bool) (d : ℕ) (b : Bool) (s : List ℕ) → SeenIs (DecimalsFit delay) (deeper d b s)) where
  value_end_is : (delay : Bool) (r : Result Tree Fault) (o : Option (List ℕ)) (rest : List ℕ) → IfOk r (DecimalsFit delay) → SeenIs (DecimalsFit delay) (value_end r n o rest)
  value_end_is delay r (Some behind) rest is = tt
  value_end_is delay r None rest is = is

  value_word_is : (delay : Bool) (w : Word) → SeenIs (DecimalsFit delay) (value_word delay n w)
  value_word_is delay no_word = tt
  value_word_is delay (word s q good rest) = value_end_is delay (scalar_tree delay n s q good) (behind_colon q rest) rest (scalar_is delay n s q good)

  value_node_is : (d : ℕ) (delay : Bool) (s : List ℕ) → SeenIs (DecimalsFit delay) (value_node deeper n d delay s)
  value_node_is d delay s =
      seen_cond (DecimalsFit delay) (ends_node s) _ _ tt
      (seen_cond (DecimalsFit delay) (starts is_bracket s) _ _ (H delay d (starts (λ b. b == open_map) s) (behind_first s)) (value_word_is delay (flow_word s)))

  property_is : (delay : Bool) (s : List ℕ) (seen : Seen Tree) → SeenIs (DecimalsFit delay) seen → SeenIs (DecimalsFit delay) (with_property n s seen)
  property_is delay s seen is = joined_is (λ _ t. t) Any (DecimalsFit delay) (DecimalsFit delay) (property_fault n s) seen (λ a t p q. q) (any (property_fault n s)) is

  flow_value_is : (d : ℕ) (delay : Bool) (r : List ℕ) → SeenIs (DecimalsFit delay) (flow_value deeper n d delay r)
  flow_value_is d delay r =
      seen_cond (DecimalsFit delay) (is_empty (flow_blanks r)) _ _ tt (property_is delay (flow_blanks r) _ (value_node_is d delay (behind_property (flow_blanks r))))

  item_end_is : (d : ℕ) (s : List ℕ) (q good : Bool) (o : Option (List ℕ)) (rest : List ℕ) → SeenIs (DecimalsFit false) (item_end deeper n d s q good o rest)
  item_end_is d s q good (Some behind) rest =
      joined_is (λ _ t. one_pair (encode_utf8_all s) t) Any (DecimalsFit (is_delay_key (encode_utf8_all s))) (DecimalsFit false) (both kept (key_fault n good) (depth_fault n d)) (flow_value deeper n (suc d) (is_delay_key (encode_utf8_all s)) behind)
      (λ a t x is. (is, tt)) (any _) (flow_value_is (suc d) (is_delay_key (encode_utf8_all s)) behind)
  item_end_is d s q good None rest = scalar_is false n s q good

  item_word_is : (d : ℕ) (w : Word) → SeenIs (DecimalsFit false) (item_word deeper n d w)
  item_word_is d no_word = tt
  item_word_is d (word s q good rest) = item_end_is d s q good (behind_colon q rest) rest

  item_node_is : (d : ℕ) (s : List ℕ) → SeenIs (DecimalsFit false) (item_node deeper n d s)
  item_node_is d s = seen_cond (DecimalsFit false) (starts is_bracket s) _ _ (H false d (starts (λ b. b == open_map) s) (behind_first s)) (item_word_is d (flow_word s))

  flow_item_is : (d : ℕ) (s : List ℕ) → SeenIs (DecimalsFit false) (flow_item deeper n d s)
  flow_item_is d s =
      seen_cond (DecimalsFit false) (starts is_property s) _ _
      (property_is false s _ (seen_cond (DecimalsFit false) (ends_node (behind_property s)) _ _ tt (item_node_is d (behind_property s))))
      (item_node_is d s)

  behind_is : {A : Type 0} (P : List A → Type 0) (close : ℕ) (r : List ℕ) (more : List ℕ → Seen (List A)) → P [] → ((u : List ℕ) → SeenIs P (more u)) → SeenIs P (behind_element close n r more)
  behind_is P close r more none all =
      seen_cond P (starts (λ b. b == comma) (flow_blanks r)) _ _ (all (flow_blanks (behind_first (flow_blanks r)))) (seen_cond P (starts (λ b. b == close) (flow_blanks r)) _ _ none tt)

  items_are : (m d : ℕ) (s : List ℕ) → SeenIs ItemsFit (flow_items deeper m n d s)
  items_are zero d s = tt
  items_are (suc m) d s =
      seen_cond ItemsFit (is_empty s) _ _ tt
      (seen_cond ItemsFit (starts (λ b. b == close_list) s) _ _ tt
      (followed_is (λ t ts. t ∷ ts) (DecimalsFit false) ItemsFit ItemsFit (flow_item deeper n (suc d) s) _ (λ t ts p q. (p, q)) (flow_item_is (suc d) s)
      (λ r. behind_is ItemsFit close_list r _ tt (λ u. items_are m d u))))

  key_value_is : (d : ℕ) (keys : List (List ℕ)) (k : List ℕ) (good : Bool) (o : Option (List ℕ)) → SeenIs PairFits (key_value deeper n d keys k good o)
  key_value_is d keys k good (Some behind) =
      joined_is (λ _ t. (encode_utf8_all k, t)) Any (DecimalsFit (is_delay_key (encode_utf8_all k))) PairFits _ (flow_value deeper n (suc d) (is_delay_key (encode_utf8_all k)) behind) (λ a t p q. q) (any _) (flow_value_is (suc d) (is_delay_key (encode_utf8_all k)) behind)
  key_value_is d keys k good None = tt

  pair_word_is : (d : ℕ) (keys : List (List ℕ)) (w : Word) → SeenIs PairFits (pair_word deeper n d keys w)
  pair_word_is d keys no_word = tt
  pair_word_is d keys (word k q good rest) = key_value_is d keys k good (behind_colon q rest)

  flow_pair_is : (d : ℕ) (keys : List (List ℕ)) (s : List ℕ) → SeenIs PairFits (flow_pair deeper n d keys s)
  flow_pair_is d keys s = joined_is (λ _ p. p) Any PairFits PairFits (property_fault n s) _ (λ a p x y. y) (any (property_fault n s)) (pair_word_is d keys (flow_word (behind_property s)))

  pairs_are : (m d : ℕ) (keys : List (List ℕ)) (s : List ℕ) → SeenIs (AllByRecursion PairFits) (flow_pairs deeper m n d keys s)
  pairs_are zero d keys s = tt
  pairs_are (suc m) d keys s =
      seen_cond (AllByRecursion PairFits) (is_empty s) _ _ tt
      (seen_cond (AllByRecursion PairFits) (starts (λ b. b == close_map) s) _ _ tt
      (followed_is (λ p ps. p ∷ ps) PairFits (AllByRecursion PairFits) (AllByRecursion PairFits) (flow_pair deeper n d keys s) _ (λ p ps x y. (x, y)) (flow_pair_is d keys s)
      (λ r. behind_is (AllByRecursion PairFits) close_map r _ tt (λ u. pairs_are m d (key_of_word (flow_word (behind_property s)) ∷ keys) u))))

  flow_list_is : (delay : Bool) (d : ℕ) (s : List ℕ) → SeenIs (DecimalsFit delay) (flow_list deeper n d s)
  flow_list_is delay d s = seen_as_is (λ ts. list (items_of ts)) ItemsFit (DecimalsFit delay) _ (λ ts all. list_is delay ts all) (items_are (suc (length s)) d (flow_blanks s))

  flow_map_is : (delay : Bool) (d : ℕ) (s : List ℕ) → SeenIs (DecimalsFit delay) (flow_map deeper n d s)
  flow_map_is delay d s = seen_as_is map_of (AllByRecursion PairFits) (DecimalsFit delay) _ (λ ps all. map_of_is delay ps all) (pairs_are (suc (length s)) d [] (flow_blanks s))

collection_is : (m n : ℕ) (delay : Bool) (d : ℕ) (b : Bool) (s : List ℕ) → SeenIs (DecimalsFit delay) (collection m n d b s)
collection_is zero n delay d b s = tt
collection_is (suc m) n delay d true s =
    joined_is (λ _ t. t) Any (DecimalsFit delay) (DecimalsFit delay) (depth_fault n d) _ (λ a t p q. q) (any (depth_fault n d))
    (flow_map_is (λ e b r. collection m n e b r) n (λ k e b r. collection_is m n k e b r) delay d s)
collection_is (suc m) n delay d false s =
    joined_is (λ _ t. t) Any (DecimalsFit delay) (DecimalsFit delay) (depth_fault n d) _ (λ a t p q. q) (any (depth_fault n d))
    (flow_list_is (λ e b r. collection m n e b r) n (λ k e b r. collection_is m n k e b r) delay d s)

flow_is : (delay : Bool) (n d : ℕ) (s : List ℕ) → SeenIs (DecimalsFit delay) (flow n d s)
flow_is delay n d s = collection_is (length s) n delay d (starts (λ b. b == open_map) s) (behind_first s)

-- ## A line
flow_tree_is : (delay : Bool) (n : ℕ) (seen : Seen Tree) → SeenIs (DecimalsFit delay) seen → IfOk (flow_tree n seen) (DecimalsFit delay)
flow_tree_is delay n (goes r rest) is = both_is kept (DecimalsFit delay) Any (DecimalsFit delay) r _ (λ t a p q. p) is (any _)
flow_tree_is delay n (stops g) is = tt

marked_is : (delay : Bool) (n d : ℕ) (s : List ℕ) → IfOk (marked_tree n d s) (DecimalsFit delay)
marked_is delay n d s =
    let r = skip_blanks (skip (λ b. not (is_blank b)) s) in
    both_is (λ _ t. t) Any (DecimalsFit delay) (DecimalsFit delay) (property_fault n s) _ (λ a t p q. q) (any (property_fault n s)) (cond_is (DecimalsFit delay) (starts is_bracket r) _ _ (flow_tree_is delay n (flow n d r) (flow_is delay n d r)) tt)

quoted_is : (delay : Bool) (n : ℕ) (q : Quoted) (o : Option (List ℕ)) → IfOk (quoted_tree n q o) (DecimalsFit delay)
quoted_is delay n q (Some r) = cond_is (DecimalsFit delay) (q.good && ends_line r) _ _ tt tt
quoted_is delay n q None = tt

plain_line_is : (delay : Bool) (n : ℕ) (s : List ℕ) → IfOk (plain_line delay n s) (DecimalsFit delay)
plain_line_is delay n s =
    both_is kept (DecimalsFit delay) Any (DecimalsFit delay) _ _ (λ t a p q. p) (plain_is (plain_kind (trimmed (before_comment false s))) delay n (trimmed (before_comment false s))) (any _)

pub one_line_is : (delay : Bool) (n d : ℕ) (s : List ℕ) → IfOk (one_line delay n d s) (DecimalsFit delay)
one_line_is delay n d s =
    cond_is (DecimalsFit delay) (starts is_property s) _ _ (marked_is delay n d s)
    (cond_is (DecimalsFit delay) (starts is_quote s) _ _ (quoted_is delay n (quoted s) (quoted s).rest)
    (cond_is (DecimalsFit delay) (starts is_bracket s) _ _ (flow_tree_is delay n (flow n d s) (flow_is delay n d s))
    (cond_is (DecimalsFit delay) (may_start_plain s) _ _ (plain_line_is delay n s) tt)))
