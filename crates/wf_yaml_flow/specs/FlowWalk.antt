-- A flow collection that is read in one walk: what is still to come at each place of it.
use Rattle.std.specs.Prelude.{ℕ, suc, ◌+◌, ◌*◌, List, [], ◌∷◌, ◌++◌, length, Bool, true, false, cond, not, ◌&&◌, ◌||◌, ◌==◌, Option, Some, None, Result, Ok}
use Rattle.wf_yaml_line.specs.Marks.{is_flow_mark, ends_word, is_one_of, hash, colon, close_list, close_map}
use Rattle.wf_yaml_line.specs.declared.fault.Fault.{Fault}
use Rattle.wf_yaml_line.specs.Fault.{both, kept, noted, refuse_if}
use Rattle.wf_yaml_line.specs.declared.fault.Kind.TheVariants as kinds
use Rattle.std.specs.Str.{encode_utf8_all}
use Rattle.wf_tree.specs.Trees.{Tree, null, list, map, items_of, pairs_of}
use Rattle.wf_tree.specs.Plain.{plain_tree}
use Rattle.wf_yaml_flow.specs.Pairs.{with_pairs, map_of}
use Rattle.wf_yaml_line.specs.Views.{keys_of}
use Rattle.wf_yaml_flow.specs.Flow.{Seen, goes, stopped, joined, followed, seen_as, Word, no_word, word, Deeper, one_pair, key_fault, behind_colon, flow_value, item_node, ends_node, flow_item, behind_element, flow_items, flow_pairs, collection}
use Rattle.wf_yaml_line.specs.Scalars.{is_delay_key}
use Rattle.wf_yaml_flow.specs.declared.places.Hand.{Hand}
use Rattle.wf_yaml_flow.specs.declared.places.Hand.TheVariants as hand
use Rattle.wf_yaml_flow.specs.declared.places.MapSoFar.{MapSoFar}
use Rattle.wf_yaml_flow.specs.declared.places.Frame.{Frame}
use Rattle.wf_yaml_flow.specs.declared.places.Frame.TheVariants as frame
use Rattle.wf_yaml_flow.specs.declared.places.Spot.{Spot}
use Rattle.wf_yaml_flow.specs.declared.places.Spot.TheVariants as spot
use Rattle.wf_yaml_flow.specs.declared.places.Place.{Place}
use Rattle.wf_yaml_flow.specs.declared.places.Place.TheVariants as place
use Rattle.wf_yaml_flow.specs.declared.places.Turn.{Turn}
use Rattle.wf_yaml_flow.specs.declared.words.FlowWord.{FlowWord}

-- what was found of a word
abbrev pub found_word : Option FlowWord → Word
found_word None = no_word
found_word (Some w) = word w.chars.items w.quoted w.good w.rest.now

-- whether a plain scalar ends before this character
abbrev pub ends_plain : Bool → ℕ → List ℕ → Bool
ends_plain after_blank b r = is_flow_mark b || (b == colon && ends_word r) || (after_blank && b == hash)

-- whether this character ends an expression
abbrev pub closes_expression : ℕ → Bool → ℕ → Bool
closes_expression quote escaped b = not escaped && quote == 0 && b == close_map

-- a collection, and what is left of the items or the pairs of one, with bounds that are enough
unfoldable pub inner : ℕ → Deeper
inner n d is_map s = collection (suc (length s)) n d is_map s

unfoldable pub items : ℕ → ℕ → List ℕ → Seen (List Tree)
items n d s = flow_items (λ e is_map r. inner n e is_map r) (suc (length s)) n d s

unfoldable pub pairs : ℕ → ℕ → List (List ℕ) → List ℕ → Seen (List (List ℕ × Tree))
pairs n d keys s = flow_pairs (λ e is_map r. inner n e is_map r) (suc (length s)) n d keys s

-- something was noted before
abbrev pub noting : {A : Type 0} → Result (Unit {0}) Fault → Seen A → Seen A
noting r seen = joined (λ _ a. a) r seen

-- an item, or Null where nothing stands
abbrev pub item_or_null : ℕ → ℕ → List ℕ → Seen Tree
item_or_null n d s =
    let node = item_node (λ e is_map r. inner n e is_map r) n d s in
    cond (ends_node s) (goes (Ok null) s) node

-- the elements that are left go behind those before
abbrev pub more_items : List Tree → Seen (List Tree) → Seen Tree
more_items ts seen = seen_as (λ us. list (items_of (ts ++ us))) seen

abbrev pub more_pairs : List (List ℕ × Tree) → Seen (List (List ℕ × Tree)) → Seen Tree
more_pairs ps seen = seen_as (λ qs. map (pairs_of (with_pairs ps qs))) seen

-- a collection, from before an element on; and from behind one
abbrev pub from_element : ℕ → ℕ → Hand → List ℕ → Seen Tree
from_element n d (hand.Items ts) s = more_items ts (items n d s)
from_element n d (hand.Pairs m) s = more_pairs m.pairs (pairs n d (keys_of m.keys) s)

abbrev pub behind_one : ℕ → ℕ → Hand → List ℕ → Seen Tree
behind_one n d (hand.Items ts) s = more_items ts (behind_element close_list n s (λ u. items n d u))
behind_one n d (hand.Pairs m) s = more_pairs m.pairs (behind_element close_map n s (λ u. pairs n d (keys_of m.keys) u))

-- a collection from its first element on; the bracket that closes one; and one that ends here
abbrev pub from_first : ℕ → ℕ → Bool → List ℕ → Seen Tree
from_first n d true s = seen_as map_of (pairs n d [] s)
from_first n d false s = seen_as (λ ts. list (items_of ts)) (items n d s)

abbrev pub closing : Hand → ℕ
closing (hand.Items ts) = close_list
closing (hand.Pairs m) = close_map

abbrev pub ended : Hand → Tree
ended (hand.Items ts) = list (items_of ts)
ended (hand.Pairs m) = map (pairs_of m.pairs)

-- a pair of a map, and all behind it
abbrev pub from_key : ℕ → ℕ → MapSoFar → List ℕ → Bool → Option (List ℕ) → Seen Tree
from_key n d m k good None = stopped n
from_key n d m k good (Some behind) =
    let key = encode_utf8_all k in
    let value = flow_value (λ e is_map r. inner n e is_map r) n (suc d) (is_delay_key key) behind in
    let all = followed (λ p qs. p ∷ qs) (seen_as (λ t. (key, t)) value) (λ r. behind_element close_map n r (λ u. pairs n d (key ∷ keys_of m.keys) u)) in
    noting (both kept (key_fault n good) (refuse_if (is_one_of (keys_of m.keys) key) n kinds.DoubleKey)) (more_pairs m.pairs all)

abbrev pub from_pair : ℕ → ℕ → MapSoFar → Word → Seen Tree
from_pair n d m no_word = stopped n
from_pair n d m (word k quoted good rest) = from_key n d m k good (behind_colon quoted rest)

-- what is open, once the node in it is read
abbrev pub complete : ℕ → ℕ → Frame → Seen Tree → Seen Tree
complete n d (frame.Item ts) seen = more_items ts (followed (λ t us. t ∷ us) seen (λ r. behind_element close_list n r (λ u. items n d u)))
complete n d (frame.Value m key) seen = more_pairs m.pairs (followed (λ p qs. p ∷ qs) (seen_as (λ t. (key, t)) seen) (λ r. behind_element close_map n r (λ u. pairs n d (keys_of m.keys) u)))
complete n d (frame.OnePair key) seen = seen_as (λ t. one_pair key t) seen

-- the same of all that is open, the outermost first
abbrev pub resume : ℕ → ℕ → List Frame → Seen Tree → Seen Tree
resume n d [] seen = seen
resume n d (f ∷ fs) seen = complete n d f (resume n (suc d) fs seen)

-- what is read next, where a node has this depth
abbrev pub next : ℕ → ℕ → Spot → Seen Tree
next n d (spot.Open is_map s) = inner n d is_map s.now
next n d (spot.Element h s) = from_element n d h s.now
next n d (spot.Item s) = flow_item (λ e is_map r. inner n e is_map r) n d s.now
next n d (spot.Value delay s) = flow_value (λ e is_map r. inner n e is_map r) n d delay s.now
next n d (spot.Behind h s) = behind_one n d h s.now

-- what is read at a place, where a node has this depth
abbrev pub here : ℕ → ℕ → Place → Seen Tree
here n d (place.Reading x) = next n d x
here n d (place.Node t s) = goes (Ok (plain_tree t)) s.now
here n d place.Stopped = stopped n

-- the whole collection, as it is known at a place
abbrev pub whole : ℕ → ℕ → List Frame → Option Fault → Place → Seen Tree
whole n d fs fault p = resume n d fs (noting (noted fault) (here n (d + length fs) p))

-- what a turn from a place of this depth comes to
abbrev pub turned_to : ℕ → ℕ → Option Frame → Option Fault → Place → Seen Tree
turned_to n d None fault p = noting (noted fault) (here n d p)
turned_to n d (Some f) fault p = complete n d f (noting (noted fault) (here n (suc d) p))

abbrev pub turned : ℕ → ℕ → Turn → Seen Tree
turned n d t = turned_to n d t.frame t.fault t.place

-- How far the walk is from its end. Each turn takes something off.
abbrev pub left : Spot → ℕ
left (spot.Open is_map s) = 8 * length s.now + 7
left (spot.Element h s) = 8 * length s.now + 6
left (spot.Item s) = 8 * length s.now + 3
left (spot.Value delay s) = 8 * length s.now + 3
left (spot.Behind h s) = 8 * length s.now + 2

abbrev pub ahead : Place → ℕ
ahead (place.Reading x) = left x
ahead (place.Node t s) = 8 * length s.now + 1
ahead place.Stopped = 0

abbrev pub opened : Option Frame → ℕ
opened None = 0
opened (Some f) = 2
