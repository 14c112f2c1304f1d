-- What each turn of the walk over a flow collection comes to.
use Rattle.std.proofs.Common.{◌≡◌, ℕ, suc, List, [], ◌∷◌, ◌++◌, Bool, true, false, cond, ◌||◌, ◌==◌, Option, Some, None, Ok, refl, sym, ap, ◌∙◌}
use Rattle.std.specs.Str.{encode_utf8_all}
use Rattle.wf_yaml_line.specs.declared.fault.Fault.{Fault}
use Rattle.wf_yaml_line.specs.Fault.{both, kept, noted, refuse_if}
use Rattle.wf_yaml_line.specs.declared.fault.Kind.TheVariants as kinds
use Rattle.wf_tree.specs.Trees.{Tree, list, items_of}
use Rattle.wf_yaml_line.specs.Marks.{starts, is_empty, behind_first, is_one_of, is_same, comma, close_list, close_map}
use Rattle.wf_yaml_line.specs.Views.{keys_of}
use Rattle.wf_yaml_flow.specs.Flow.{Seen, goes, stopped, followed, seen_as, flow_blanks, Word, no_word, word, flow_word, behind_colon, property_fault, behind_property, is_property, value_node, flow_value, one_pair, key_fault, depth_fault, item_end, item_word, item_node, flow_item, behind_element, key_value, pair_word, flow_pair, key_of_word}
use Rattle.wf_yaml_line.specs.Scalars.{is_delay_key}
use Rattle.wf_yaml_line.specs.declared.key_set.KeySet.{KeySet}
use Rattle.wf_yaml_flow.specs.declared.words.FlowWord.{FlowWord}
use Rattle.wf_yaml_flow.specs.declared.places.MapSoFar.{MapSoFar}
use Rattle.wf_yaml_flow.specs.declared.places.Hand.{Hand}
use Rattle.wf_yaml_flow.specs.declared.places.Hand.TheVariants as hand
use Rattle.wf_yaml_flow.specs.declared.places.Frame.TheVariants as frame
use Rattle.wf_yaml_flow.specs.FlowWalk.{found_word, inner, items, pairs, noting, item_or_null, more_items, more_pairs, from_element, behind_one, from_first, closing, ended, from_key, from_pair, complete}
use Rattle.wf_yaml_flow.proofs.FlowBounds.{inside, items_next, pairs_next, pairs_same, inner_next}
use Rattle.wf_yaml_flow.proofs.FlowJoins.{noting_nothing, as_noting, joined_as, followed_noting, complete_noting}

-- ---- items and values

item_end_pair : (n d : ℕ) (s : List ℕ) (q g : Bool) (rest behind : List ℕ)
    → seen_as (λ t. one_pair (encode_utf8_all s) t) (noting (both kept (key_fault n g) (depth_fault n d)) (flow_value (inside n) n (suc d) (is_delay_key (encode_utf8_all s)) behind))
    ≡ item_end (inside n) n d s q g (Some behind) rest
item_end_pair n d s q g rest behind =
    let pair : Tree → Tree = λ t. one_pair (encode_utf8_all s) t in
    let faults = both kept (key_fault n g) (depth_fault n d) in
    let value = flow_value (inside n) n (suc d) (is_delay_key (encode_utf8_all s)) behind in
    as_noting pair faults value ∙ sym (joined_as pair faults value)

pub item_turn : (n d : ℕ) (w : FlowWord) (s behind key : List ℕ) (delay : Bool) (f : Option Fault) → found_word (Some w) ≡ flow_word s → Some behind ≡ behind_colon w.quoted w.rest.now
    → key ≡ encode_utf8_all w.chars.items → delay ≡ is_delay_key key → noted f ≡ both kept (key_fault n w.good) (depth_fault n d)
    → complete n d (frame.OnePair key) (noting (noted f) (flow_value (inside n) n (suc d) delay behind)) ≡ item_word (inside n) n d (flow_word s)
item_turn n d w s behind key delay f ew eb ek ed ef =
    (λ i. seen_as (λ t. one_pair key t) (noting (ef i) (flow_value (inside n) n (suc d) (ed i) behind)))
    ∙ ap (λ k. seen_as (λ t. one_pair k t) (noting (both kept (key_fault n w.good) (depth_fault n d)) (flow_value (inside n) n (suc d) (is_delay_key k) behind))) ek
    ∙ item_end_pair n d w.chars.items w.quoted w.good w.rest.now behind
    ∙ ap (λ o. item_end (inside n) n d w.chars.items w.quoted w.good o w.rest.now) eb
    ∙ ap (item_word (inside n) n d) ew

pub marked_item : (n d : ℕ) (s t : List ℕ) (f : Option Fault) (seen x : Seen Tree) → starts is_property s ≡ true → t ≡ behind_property s → noted f ≡ property_fault n s
    → x ≡ noting (noted f) seen → seen ≡ item_or_null n d t → x ≡ flow_item (inside n) n d s
marked_item n d s t f seen x p et ef ex es =
    ex ∙ (λ i. noting (ef i) ((es ∙ ap (item_or_null n d) et) i))
    ∙ sym (ap (λ b. cond b (noting (property_fault n s) (item_or_null n d (behind_property s))) (item_node (inside n) n d s)) p)

pub marked_value : (n d : ℕ) (delay : Bool) (r s t : List ℕ) (f : Option Fault) (seen x : Seen Tree) → s ≡ flow_blanks r → is_empty s ≡ false → t ≡ behind_property s → noted f ≡ property_fault n s
    → x ≡ noting (noted f) seen → seen ≡ value_node (inside n) n d delay t → x ≡ flow_value (inside n) n d delay r
marked_value n d delay r s t f seen x eb some et ef ex es =
    ex ∙ (λ i. noting (ef i) ((es ∙ ap (value_node (inside n) n d delay) et) i))
    ∙ sym (ap (λ b. cond b (stopped n) (noting (property_fault n s) (value_node (inside n) n d delay (behind_property s)))) some)
    ∙ ap (λ u. cond (is_empty u) (stopped n) (noting (property_fault n u) (value_node (inside n) n d delay (behind_property u)))) eb

-- ---- collections

pub no_items : (ts : List Tree) (n d : ℕ) (s : List ℕ) → ts ≡ [] → from_element n d (hand.Items ts) s ≡ from_first n d false s
no_items ts n d s e = ap (λ us. more_items us (items n d s)) e

pub no_pairs : (m : MapSoFar) (n d : ℕ) (s : List ℕ) → m.pairs ≡ [] → keys_of m.keys ≡ [] → from_element n d (hand.Pairs m) s ≡ from_first n d true s
no_pairs m n d s e k = λ i. more_pairs (e i) (pairs n d (k i) s)

pub opened_turn : (n d : ℕ) (is_map : Bool) (s t : List ℕ) (h : Hand) (f : Option Fault) → noted f ≡ depth_fault n d → t ≡ flow_blanks s → from_element n d h t ≡ from_first n d is_map t
    → noting (noted f) (from_element n d h t) ≡ inner n d is_map s
opened_turn n d is_map s t h f ef et eh = (λ i. noting (ef i) ((eh ∙ ap (from_first n d is_map) et) i)) ∙ sym (inner_next n d is_map s)

all_appended : (ts : List Tree) → ts ++ [] ≡ ts
all_appended [] = refl
all_appended (t ∷ ts) = ap (λ us. t ∷ us) (all_appended ts)

pub element_missing : (n d : ℕ) (h : Hand) → from_element n d h [] ≡ stopped n
element_missing n d (hand.Items ts) = ap (more_items ts) (items_next n d [])
element_missing n d (hand.Pairs m) = ap (more_pairs m.pairs) (pairs_next n d (keys_of m.keys) [])

pub element_closes : (n d : ℕ) (h : Hand) (c : ℕ) (rest : List ℕ) → (c == closing h) ≡ true → goes (Ok (ended h)) rest ≡ from_element n d h (c ∷ rest)
element_closes n d (hand.Items ts) c rest e =
    let all = followed (λ t us. t ∷ us) (flow_item (inside n) n (suc d) (c ∷ rest)) (λ r. behind_element close_list n r (λ u. items n d u)) in
    ap (λ us. goes (Ok (list (items_of us))) rest) (sym (all_appended ts))
    ∙ sym (ap (λ b. more_items ts (cond b (goes (Ok []) rest) all)) e)
    ∙ sym (ap (more_items ts) (items_next n d (c ∷ rest)))
element_closes n d (hand.Pairs m) c rest e =
    let key = key_of_word (flow_word (behind_property (c ∷ rest))) in
    let all = followed (λ p ps. p ∷ ps) (flow_pair (inside n) n d (keys_of m.keys) (c ∷ rest)) (λ r. behind_element close_map n r (λ u. pairs n d (key ∷ keys_of m.keys) u)) in
    sym (ap (λ b. more_pairs m.pairs (cond b (goes (Ok []) rest) all)) e)
    ∙ sym (ap (more_pairs m.pairs) (pairs_next n d (keys_of m.keys) (c ∷ rest)))

pub missing_at : (n d : ℕ) (h : Hand) (s : List ℕ) (x : Seen Tree) → is_empty s ≡ true → x ≡ stopped n → x ≡ from_element n d h s
missing_at n d h [] x e ex = ex ∙ sym (element_missing n d h)
missing_at n d h (c ∷ rest) x e ex = absurd (cc)

pub closes_at : (n d : ℕ) (h : Hand) (s rest : List ℕ) (x : Seen Tree) → starts (λ b. b == closing h) s ≡ true → rest ≡ behind_first s → x ≡ goes (Ok (ended h)) rest → x ≡ from_element n d h s
closes_at n d h [] rest x e er ex = absurd (cc)
closes_at n d h (c ∷ r) rest x e er ex = ex ∙ ap (λ t. goes (Ok (ended h)) t) er ∙ element_closes n d h c r e

pub element_item : (n d : ℕ) (ts : List Tree) (s : List ℕ) → is_empty s ≡ false → starts (λ b. b == close_list) s ≡ false
    → complete n d (frame.Item ts) (noting (Ok tt) (flow_item (inside n) n (suc d) s)) ≡ from_element n d (hand.Items ts) s
element_item n d ts s some open_still =
    let all = followed (λ t us. t ∷ us) (flow_item (inside n) n (suc d) s) (λ r. behind_element close_list n r (λ u. items n d u)) in
    ap (complete n d (frame.Item ts)) (noting_nothing tt (flow_item (inside n) n (suc d) s))
    ∙ sym (λ i. more_items ts (cond (some i) (stopped n) (cond (open_still i) (goes (Ok []) (behind_first s)) all)))
    ∙ sym (ap (more_items ts) (items_next n d s))

pub element_item_of : (n d : ℕ) (h : Hand) (ts : List Tree) (s : List ℕ) → h ≡ hand.Items ts → is_empty s ≡ false → starts (λ b. b == closing h) s ≡ false
    → complete n d (frame.Item ts) (noting (Ok tt) (flow_item (inside n) n (suc d) s)) ≡ from_element n d h s
element_item_of n d h ts s e some open_still = element_item n d ts s some (sym (ap (λ x. starts (λ b. b == closing x) s) e) ∙ open_still) ∙ sym (ap (λ x. from_element n d x s) e)

-- ---- pairs

from_key_is : (n d : ℕ) (m : MapSoFar) (k : List ℕ) (good : Bool) (o : Option (List ℕ))
    → from_key n d m k good o ≡ more_pairs m.pairs (followed (λ p ps. p ∷ ps) (key_value (inside n) n d (keys_of m.keys) k good o) (λ r. behind_element close_map n r (λ u. pairs n d (encode_utf8_all k ∷ keys_of m.keys) u)))
from_key_is n d m k good None = refl
from_key_is n d m k good (Some behind) =
    let key = encode_utf8_all k in
    let pair : Tree → List ℕ × Tree = λ t. (key, t) in
    let faults = both kept (key_fault n good) (refuse_if (is_one_of (keys_of m.keys) key) n kinds.DoubleKey) in
    let value = flow_value (inside n) n (suc d) (is_delay_key key) behind in
    let go : List ℕ → Seen (List (List ℕ × Tree)) = λ r. behind_element close_map n r (λ u. pairs n d (key ∷ keys_of m.keys) u) in
    sym (as_noting _ faults (followed (λ p ps. p ∷ ps) (seen_as pair value) go))
    ∙ sym (ap (more_pairs m.pairs) (followed_noting (λ p ps. p ∷ ps) faults (seen_as pair value) go))
    ∙ sym (ap (λ x. more_pairs m.pairs (followed (λ p ps. p ∷ ps) x go)) (joined_as pair faults value))

from_pair_is : (n d : ℕ) (m : MapSoFar) (w : Word)
    → from_pair n d m w ≡ more_pairs m.pairs (followed (λ p ps. p ∷ ps) (pair_word (inside n) n d (keys_of m.keys) w) (λ r. behind_element close_map n r (λ u. pairs n d (key_of_word w ∷ keys_of m.keys) u)))
from_pair_is n d m no_word = refl
from_pair_is n d m (word k q g rest) = from_key_is n d m k g (behind_colon q rest)

pub element_pair : (n d : ℕ) (m : MapSoFar) (s t : List ℕ) (f : Option Fault) (seen x : Seen Tree) → is_empty s ≡ false → starts (λ b. b == close_map) s ≡ false → t ≡ behind_property s → noted f ≡ property_fault n s
    → x ≡ noting (noted f) seen → seen ≡ from_pair n d m (flow_word t) → x ≡ from_element n d (hand.Pairs m) s
element_pair n d m s t f seen x some open_still et ef ex es =
    let w = flow_word (behind_property s) in
    let one = pair_word (inside n) n d (keys_of m.keys) w in
    let go : List ℕ → Seen (List (List ℕ × Tree)) = λ r. behind_element close_map n r (λ u. pairs n d (key_of_word w ∷ keys_of m.keys) u) in
    let all = followed (λ p ps. p ∷ ps) (flow_pair (inside n) n d (keys_of m.keys) s) go in
    ex ∙ (λ i. noting (ef i) ((es ∙ ap (λ u. from_pair n d m (flow_word u)) et ∙ from_pair_is n d m w) i))
    ∙ sym (as_noting _ (property_fault n s) (followed (λ p ps. p ∷ ps) one go))
    ∙ sym (ap (more_pairs m.pairs) (followed_noting (λ p ps. p ∷ ps) (property_fault n s) one go))
    ∙ sym (λ i. more_pairs m.pairs (cond (some i) (stopped n) (cond (open_still i) (goes (Ok []) (behind_first s)) all)))
    ∙ sym (ap (more_pairs m.pairs) (pairs_next n d (keys_of m.keys) s))

pub element_pair_of : (n d : ℕ) (h : Hand) (m : MapSoFar) (s t : List ℕ) (f : Option Fault) (seen x : Seen Tree) → h ≡ hand.Pairs m → is_empty s ≡ false → starts (λ b. b == closing h) s ≡ false → t ≡ behind_property s → noted f ≡ property_fault n s
    → x ≡ noting (noted f) seen → seen ≡ from_pair n d m (flow_word t) → x ≡ from_element n d h s
element_pair_of n d h m s t f seen x e some open_still et ef ex es =
    element_pair n d m s t f seen x some (sym (ap (λ y. starts (λ b. b == closing y) s) e) ∙ open_still) et ef ex es ∙ sym (ap (λ y. from_element n d y s) e)

pub pair_turn : (n d : ℕ) (m : MapSoFar) (keys : KeySet) (w : FlowWord) (s behind key : List ℕ) (delay is_double : Bool) (f : Option Fault) → found_word (Some w) ≡ flow_word s → Some behind ≡ behind_colon w.quoted w.rest.now
    → key ≡ encode_utf8_all w.chars.items → delay ≡ is_delay_key key → is_double ≡ is_one_of (keys_of m.keys) key → noted f ≡ both kept (key_fault n w.good) (refuse_if is_double n kinds.DoubleKey)
    → ((k : List ℕ) → is_one_of (keys_of keys) k ≡ (is_same key k || is_one_of (keys_of m.keys) k))
    → complete n d (frame.Value (record { pairs = m.pairs; keys = keys }) key) (noting (noted f) (flow_value (inside n) n (suc d) delay behind)) ≡ from_pair n d m (flow_word s)
pair_turn n d m keys w s behind key delay is_double f ew eb ek ed eo ef em =
    let value = flow_value (inside n) n (suc d) (is_delay_key key) behind in
    let faults = both kept (key_fault n w.good) (refuse_if (is_one_of (keys_of m.keys) key) n kinds.DoubleKey) in
    let open_value = frame.Value (record { pairs = m.pairs; keys = keys }) key in
    (λ i. complete n d open_value (noting (ef i) (flow_value (inside n) n (suc d) (ed i) behind)))
    ∙ ap (λ b. complete n d open_value (noting (both kept (key_fault n w.good) (refuse_if b n kinds.DoubleKey)) value)) eo
    ∙ complete_noting n d open_value faults value
    ∙ (λ i. noting faults (more_pairs m.pairs (followed (λ p ps. p ∷ ps) (seen_as (λ t. (key, t)) value) (λ r. behind_element close_map n r (λ u. pairs_same n d (keys_of keys) (key ∷ keys_of m.keys) u em i)))))
    ∙ ap (λ k. noting (both kept (key_fault n w.good) (refuse_if (is_one_of (keys_of m.keys) k) n kinds.DoubleKey)) (more_pairs m.pairs (followed (λ p ps. p ∷ ps) (seen_as (λ t. (k, t)) (flow_value (inside n) n (suc d) (is_delay_key k) behind)) (λ r. behind_element close_map n r (λ u. pairs n d (k ∷ keys_of m.keys) u))))) ek
    ∙ ap (λ o. from_key n d m w.chars.items w.good o) eb
    ∙ ap (from_pair n d m) ew

-- ---- behind an element

more_chosen : {A : Type 0} (f : Seen A → Seen Tree) (a b : Bool) (x y z : Seen A) → f (cond a x (cond b y z)) ≡ cond a (f x) (cond b (f y) (f z))
more_chosen f true b x y z = refl
more_chosen f false true x y z = refl
more_chosen f false false x y z = refl

pub behind_at : (n d : ℕ) (h : Hand) (r s : List ℕ) → s ≡ flow_blanks r
    → cond (starts (λ b. b == comma) s) (from_element n d h (flow_blanks (behind_first s))) (cond (starts (λ b. b == closing h) s) (goes (Ok (ended h)) (behind_first s)) (stopped n)) ≡ behind_one n d h r
behind_at n d (hand.Items ts) r s e =
    ap (λ us. cond (starts (λ b. b == comma) s) (more_items ts (items n d (flow_blanks (behind_first s)))) (cond (starts (λ b. b == close_list) s) (goes (Ok (list (items_of us))) (behind_first s)) (stopped n))) (sym (all_appended ts))
    ∙ sym (more_chosen (more_items ts) (starts (λ b. b == comma) s) (starts (λ b. b == close_list) s) (items n d (flow_blanks (behind_first s))) (goes (Ok []) (behind_first s)) (stopped n))
    ∙ ap (λ t. more_items ts (cond (starts (λ b. b == comma) t) (items n d (flow_blanks (behind_first t))) (cond (starts (λ b. b == close_list) t) (goes (Ok []) (behind_first t)) (stopped n)))) e
behind_at n d (hand.Pairs m) r s e =
    sym (more_chosen (more_pairs m.pairs) (starts (λ b. b == comma) s) (starts (λ b. b == close_map) s) (pairs n d (keys_of m.keys) (flow_blanks (behind_first s))) (goes (Ok []) (behind_first s)) (stopped n))
    ∙ ap (λ t. more_pairs m.pairs (cond (starts (λ b. b == comma) t) (pairs n d (keys_of m.keys) (flow_blanks (behind_first t))) (cond (starts (λ b. b == close_map) t) (goes (Ok []) (behind_first t)) (stopped n)))) e

pub comma_at : (n d : ℕ) (h : Hand) (r s rest more : List ℕ) → s ≡ flow_blanks r → starts (λ b. b == comma) s ≡ true → rest ≡ behind_first s → more ≡ flow_blanks rest
    → noting (Ok tt) (from_element n d h more) ≡ behind_one n d h r
comma_at n d h r s rest more es ec er em =
    noting_nothing tt (from_element n d h more)
    ∙ ap (from_element n d h) (em ∙ ap flow_blanks er)
    ∙ sym (ap (λ b. cond b (from_element n d h (flow_blanks (behind_first s))) (cond (starts (λ b. b == closing h) s) (goes (Ok (ended h)) (behind_first s)) (stopped n))) ec)
    ∙ behind_at n d h r s es

pub end_at : (n d : ℕ) (h : Hand) (r s rest : List ℕ) (x : Seen Tree) → s ≡ flow_blanks r → starts (λ b. b == comma) s ≡ false → starts (λ b. b == closing h) s ≡ true → rest ≡ behind_first s
    → x ≡ goes (Ok (ended h)) rest → x ≡ behind_one n d h r
end_at n d h r s rest x es ec ed er ex =
    ex ∙ ap (λ t. goes (Ok (ended h)) t) er
    ∙ sym (λ i. cond (ec i) (from_element n d h (flow_blanks (behind_first s))) (cond (ed i) (goes (Ok (ended h)) (behind_first s)) (stopped n)))
    ∙ behind_at n d h r s es

pub stop_at : (n d : ℕ) (h : Hand) (r s : List ℕ) (x : Seen Tree) → s ≡ flow_blanks r → starts (λ b. b == comma) s ≡ false → starts (λ b. b == closing h) s ≡ false → x ≡ stopped n → x ≡ behind_one n d h r
stop_at n d h r s x es ec ed ex =
    ex
    ∙ sym (λ i. cond (ec i) (from_element n d h (flow_blanks (behind_first s))) (cond (ed i) (goes (Ok (ended h)) (behind_first s)) (stopped n)))
    ∙ behind_at n d h r s es
