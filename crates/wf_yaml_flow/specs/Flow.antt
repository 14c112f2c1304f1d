-- Flow collections: `[a, b]` and `{k: v}` on one line.
use Rattle.std.specs.Prelude.{ℕ, zero, suc, List, [], ◌∷◌, length, drop, take, Bool, true, false, cond, not, ◌&&◌, ◌||◌, ◌==◌, nat_lt, Option, Some, None, Result, Ok, Err}
use Rattle.std.specs.Str.{encode_utf8_all}
use Rattle.wf_yaml_line.specs.Marks.{among, is_one_of, starts, is_empty, behind_first, skip, is_blank, is_quote, is_bracket, is_flow_mark, is_reserved, is_guarded, ends_word, ends_with_colon, skip_blanks, trimmed, hash, colon, comma, dollar, backslash, close_list, open_map, close_map, bang}
use Rattle.wf_yaml_line.specs.declared.fault.Fault.{Fault}
use Rattle.wf_yaml_line.specs.Fault.{both, given, kept, refuse, refuse_if, first_of_two}
use Rattle.wf_yaml_line.specs.declared.fault.Kind.TheVariants as kinds
use Rattle.wf_tree.specs.Trees.{Tree, null, text, list, map, items_of, pairs_of}
use Rattle.wf_yaml_line.specs.Scalars.{plain_tree, is_delay_key}
use Rattle.wf_yaml_flow.specs.Pairs.{map_of}
use Rattle.wf_yaml_line.specs.Quoted.{quoted}

abbrev pub max_depth : ℕ
max_depth = 100

-- What was read of the front of a text: what it is, and the text behind it. Or nothing more of the line can be read.
pub data Seen (A : Type 0) : Type 0 where
  goes : Result A Fault → List ℕ → Seen A
  stops : Fault → Seen A

abbrev pub stopped : {A : Type 0} → ℕ → Seen A
stopped n = stops (record { line = n; kind = kinds.Flow })

abbrev pub joined : {A B C : Type 0} → (A → B → C) → Result A Fault → Seen B → Seen C
joined f r (goes q rest) = goes (both f r q) rest
joined f (Ok a) (stops g) = stops g
joined f (Err h) (stops g) = stops (first_of_two h g)

-- one part, and then another of what stands behind it
abbrev pub followed : {A B C : Type 0} → (A → B → C) → Seen A → (List ℕ → Seen B) → Seen C
followed f (goes r rest) go = joined f r (go rest)
followed f (stops g) go = stops g

abbrev pub seen_as : {A B : Type 0} → (A → B) → Seen A → Seen B
seen_as f (goes r rest) = goes (given f r) rest
seen_as f (stops g) = stops g

-- over blanks; behind a blank a comment takes the rest of the line
abbrev pub flow_blanks : List ℕ → List ℕ
flow_blanks s = cond (starts is_blank s && starts (λ b. b == hash) (skip_blanks s)) [] (skip_blanks s)

-- ---- scalars

-- A plain scalar ends before `, [ ] { }`, before a `:` that a blank or the end follows, and before a comment.
abbrev pub plain_part : Bool → List ℕ → List ℕ
plain_part after_blank [] = []
plain_part after_blank (b ∷ r) = cond (is_flow_mark b || (b == colon && ends_word r) || (after_blank && b == hash)) [] (b ∷ plain_part (is_blank b) r)

abbrev pub may_start_flow : List ℕ → Bool
may_start_flow [] = false
may_start_flow (b ∷ r) = not (is_reserved b) && not (is_guarded b && (ends_word r || starts is_flow_mark r))

abbrev pub one_more : Option ℕ → Option ℕ
one_more None = None
one_more (Some n) = Some (suc n)

-- How many characters an expression takes up to its `}`, which stands outside quoted texts. The number is the quote
-- of the text that the place stands in, or 0; the flag says that a backslash stands before.
abbrev pub expression_length : ℕ → Bool → List ℕ → Option ℕ
expression_length q escaped [] = None
expression_length q true (b ∷ r) = one_more (expression_length q false r)
expression_length zero false (b ∷ r) =
    let next = expression_length zero false r in
    let in_text = expression_length b false r in
    cond (b == close_map) (Some 1) (cond (is_quote b) (one_more in_text) (one_more next))
expression_length (suc q) false (b ∷ r) =
    let next = expression_length (suc q) false r in
    let escaped = expression_length (suc q) true r in
    let after = expression_length zero false r in
    cond (b == backslash) (one_more escaped) (cond (b == suc q) (one_more after) (one_more next))

-- what stands at a place where a scalar may stand: its characters, whether it was quoted and has good escapes,
-- and the text behind it
pub data Word : Type 0 where
  no_word : Word
  word : List ℕ → (quoted : Bool) → (good : Bool) → List ℕ → Word

abbrev pub quoted_word : List ℕ → Option (List ℕ) → Bool → Word
quoted_word s (Some rest) good = word s true good rest
quoted_word s None good = no_word

abbrev pub expression_word : List ℕ → Option ℕ → Word
expression_word s (Some n) = word (take n s) false true (drop n s)
expression_word s None = no_word

abbrev pub plain_word : List ℕ → List ℕ → Word
plain_word s part = cond (ends_with_colon part) no_word (word part false true (drop (length part) s))

abbrev pub starts_expression : List ℕ → Bool
starts_expression s = starts (λ b. b == dollar) s && starts (λ b. b == open_map) (behind_first s)

abbrev pub flow_word : List ℕ → Word
flow_word s =
    let q = quoted s in
    let in_quotes = quoted_word q.chars q.rest q.good in
    let expression = expression_word s (one_more (one_more (expression_length 0 false (behind_first (behind_first s))))) in
    let plain = plain_word s (trimmed (plain_part false s)) in
    cond (starts is_quote s) in_quotes (cond (starts_expression s) expression (cond (may_start_flow s) plain no_word))

-- the text behind the `:` of a pair, where one follows a key
abbrev pub behind_colon : Bool → List ℕ → Option (List ℕ)
behind_colon quoted s =
    let t = skip_blanks s in
    cond (starts (λ b. b == colon) t && (quoted || ends_word (behind_first t))) (Some (behind_first t)) None

-- ---- anchors, aliases and tags

abbrev pub is_property : ℕ → Bool
is_property b = b == 38 || b == 42 || b == bang

abbrev pub property_fault : ℕ → List ℕ → Result (Unit {0}) Fault
property_fault n s = refuse_if (starts is_property s) n (cond (starts (λ b. b == bang) s) kinds.Tag kinds.Anchor)

abbrev pub behind_property : List ℕ → List ℕ
behind_property s = cond (starts is_property s) (flow_blanks (skip (λ b. not (is_blank b || is_flow_mark b)) s)) s

abbrev pub with_property : ℕ → List ℕ → Seen Tree → Seen Tree
with_property n s seen = joined (λ _ t. t) (property_fault n s) seen

-- ---- nodes

-- a collection of this depth, of pairs or of items, from behind its bracket
abbrev pub Deeper : Type 0
Deeper = ℕ → Bool → List ℕ → Seen Tree

abbrev pub scalar_tree : Bool → ℕ → List ℕ → Bool → Bool → Result Tree Fault
scalar_tree delay n s true true = Ok (text (encode_utf8_all s))
scalar_tree delay n s true false = refuse n kinds.Quote
scalar_tree delay n s false good = plain_tree delay n s

abbrev pub ends_node : List ℕ → Bool
ends_node s = is_empty s || starts (λ b. among (comma ∷ close_list ∷ close_map ∷ []) b) s

-- a value behind which no other `:` may stand
abbrev pub value_end : Result Tree Fault → ℕ → Option (List ℕ) → List ℕ → Seen Tree
value_end r n (Some behind) rest = stopped n
value_end r n None rest = goes r rest

abbrev pub value_word : Bool → ℕ → Word → Seen Tree
value_word delay n no_word = stopped n
value_word delay n (word s quoted good rest) = value_end (scalar_tree delay n s quoted good) n (behind_colon quoted rest) rest

abbrev pub value_node : Deeper → ℕ → ℕ → Bool → List ℕ → Seen Tree
value_node deeper n d delay s =
    let inner = deeper d (starts (λ b. b == open_map) s) (behind_first s) in
    let scalar = value_word delay n (flow_word s) in
    cond (ends_node s) (goes (Ok null) s) (cond (starts is_bracket s) inner scalar)

-- a value from behind its `:`, and Null where none stands
abbrev pub flow_value : Deeper → ℕ → ℕ → Bool → List ℕ → Seen Tree
flow_value deeper n d delay r =
    let s = flow_blanks r in
    let node = with_property n s (value_node deeper n d delay (behind_property s)) in
    cond (is_empty s) (stopped n) node

abbrev pub one_pair : List ℕ → Tree → Tree
one_pair key t = map (pairs_of ((key, t) ∷ []))

abbrev pub key_fault : ℕ → Bool → Result (Unit {0}) Fault
key_fault n good = refuse_if (not good) n kinds.Quote

abbrev pub depth_fault : ℕ → ℕ → Result (Unit {0}) Fault
depth_fault n d = refuse_if (nat_lt max_depth d) n kinds.TooDeep

-- an item of a list: `k: v` is a one-pair map
abbrev pub item_end : Deeper → ℕ → ℕ → List ℕ → Bool → Bool → Option (List ℕ) → List ℕ → Seen Tree
item_end deeper n d s quoted good (Some behind) rest =
    let key = encode_utf8_all s in
    joined (λ _ t. one_pair key t) (both kept (key_fault n good) (depth_fault n d)) (flow_value deeper n (suc d) (is_delay_key key) behind)
item_end deeper n d s quoted good None rest = goes (scalar_tree false n s quoted good) rest

abbrev pub item_word : Deeper → ℕ → ℕ → Word → Seen Tree
item_word deeper n d no_word = stopped n
item_word deeper n d (word s quoted good rest) = item_end deeper n d s quoted good (behind_colon quoted rest) rest

abbrev pub item_node : Deeper → ℕ → ℕ → List ℕ → Seen Tree
item_node deeper n d s =
    let inner = deeper d (starts (λ b. b == open_map) s) (behind_first s) in
    let scalar = item_word deeper n d (flow_word s) in
    cond (starts is_bracket s) inner scalar

abbrev pub flow_item : Deeper → ℕ → ℕ → List ℕ → Seen Tree
flow_item deeper n d s =
    let node = item_node deeper n d s in
    let marked = with_property n s (cond (ends_node (behind_property s)) (goes (Ok null) (behind_property s)) (item_node deeper n d (behind_property s))) in
    cond (starts is_property s) marked node

-- ---- collections

-- What stands behind an item or a pair: a comma and more, or the closing bracket.
abbrev pub behind_element : {A : Type 0} → ℕ → ℕ → List ℕ → (List ℕ → Seen (List A)) → Seen (List A)
behind_element close n r more =
    let s = flow_blanks r in
    let next = more (flow_blanks (behind_first s)) in
    cond (starts (λ b. b == comma) s) next (cond (starts (λ b. b == close) s) (goes (Ok []) (behind_first s)) (stopped n))

-- The number bounds the items, and the length of the text is enough.
abbrev pub flow_items : Deeper → ℕ → ℕ → ℕ → List ℕ → Seen (List Tree)
flow_items deeper zero n d s = stopped n
flow_items deeper (suc m) n d s =
    let first = flow_item deeper n (suc d) s in
    let all = followed (λ t ts. t ∷ ts) first (λ r. behind_element close_list n r (λ u. flow_items deeper m n d u)) in
    cond (is_empty s) (stopped n) (cond (starts (λ b. b == close_list) s) (goes (Ok []) (behind_first s)) all)

abbrev pub key_value : Deeper → ℕ → ℕ → List (List ℕ) → List ℕ → Bool → Option (List ℕ) → Seen (List ℕ × Tree)
key_value deeper n d keys k good (Some behind) =
    let key = encode_utf8_all k in
    joined (λ _ t. (key, t)) (both kept (key_fault n good) (refuse_if (is_one_of keys key) n kinds.DoubleKey)) (flow_value deeper n (suc d) (is_delay_key key) behind)
key_value deeper n d keys k good None = stopped n

-- a pair of a map, of which the keys stand before
abbrev pub pair_word : Deeper → ℕ → ℕ → List (List ℕ) → Word → Seen (List ℕ × Tree)
pair_word deeper n d keys no_word = stopped n
pair_word deeper n d keys (word k quoted good rest) = key_value deeper n d keys k good (behind_colon quoted rest)

abbrev pub flow_pair : Deeper → ℕ → ℕ → List (List ℕ) → List ℕ → Seen (List ℕ × Tree)
flow_pair deeper n d keys s = joined (λ _ p. p) (property_fault n s) (pair_word deeper n d keys (flow_word (behind_property s)))

abbrev pub key_of_word : Word → List ℕ
key_of_word no_word = []
key_of_word (word k quoted good rest) = encode_utf8_all k

abbrev pub flow_pairs : Deeper → ℕ → ℕ → ℕ → List (List ℕ) → List ℕ → Seen (List (List ℕ × Tree))
flow_pairs deeper zero n d keys s = stopped n
flow_pairs deeper (suc m) n d keys s =
    let first = flow_pair deeper n d keys s in
    let key = key_of_word (flow_word (behind_property s)) in
    let all = followed (λ p ps. p ∷ ps) first (λ r. behind_element close_map n r (λ u. flow_pairs deeper m n d (key ∷ keys) u)) in
    cond (is_empty s) (stopped n) (cond (starts (λ b. b == close_map) s) (goes (Ok []) (behind_first s)) all)

abbrev pub flow_list : Deeper → ℕ → ℕ → List ℕ → Seen Tree
flow_list deeper n d s = seen_as (λ ts. list (items_of ts)) (flow_items deeper (suc (length s)) n d (flow_blanks s))

abbrev pub flow_map : Deeper → ℕ → ℕ → List ℕ → Seen Tree
flow_map deeper n d s = seen_as map_of (flow_pairs deeper (suc (length s)) n d [] (flow_blanks s))

-- The first number bounds how deep the collections nest, and the length of the text is enough. The second is the
-- line's, and the third the depth of the collection.
abbrev pub collection : ℕ → ℕ → ℕ → Bool → List ℕ → Seen Tree
collection zero n d is_map s = stopped n
collection (suc m) n d true s = joined (λ _ t. t) (depth_fault n d) (flow_map (λ e is_map r. collection m n e is_map r) n d s)
collection (suc m) n d false s = joined (λ _ t. t) (depth_fault n d) (flow_list (λ e is_map r. collection m n e is_map r) n d s)

-- the flow collection at the start of a text
abbrev pub flow : ℕ → ℕ → List ℕ → Seen Tree
flow n d s = collection (length s) n d (starts (λ b. b == open_map) s) (behind_first s)
