-- A value with a new one at places below it, place by place.
use Rattle.std.proofs.Common.{◌≡◌, ◌<◌, ◌≤◌, ◌+◌, ℕ, zero, suc, List, [], ◌∷◌, ◌++◌, length, map, take, drop, ℤ, pos, negsuc, slice_get, slice_set, Option, Some, None, Result, Ok, Err, refl, sym, ap, subst, ◌∙◌, get_or, add-one, append_assoc, arith}
use Rattle.std.proofs.lemmas.List.{set_split}
use Rattle.std.proofs.lemmas.Slice.{first_rest}
use Rattle.std.specs.List.{between}
use Rattle.wf_ast.specs.Places.{written}
use Rattle.wf_value.specs.Data.{Data, integer, text, list, items_of, pairs_of}
use Rattle.wf_value.specs.Data as tree
use Rattle.wf_value.specs.Errors.{Answer, ◌>>=◌, or_error}
use Rattle.wf_value.specs.Maps.{value_at, with_value}
use Rattle.wf_value.specs.Pairs.{items, pair_list}
use Rattle.wf_value.specs.Plain.{plain, plain_items}
use Rattle.wf_value.specs.declared.Tag.{Tag}
use Rattle.wf_value.specs.declared.Tag.TheVariants.{IndexError, KeyError}
use Rattle.wf_value.specs.declared.Value.{Value}
use Rattle.wf_value.specs.declared.Value.TheVariants as value
use Rattle.wf_scope.specs.Faults.{Makes, faulted}
use Rattle.wf_scope.specs.Places.{item_at, key_data, member, with_item, with_key, with_member}
use Rattle.wf_scope.specs.declared.fault.AssignFault.{AssignFault}
use Rattle.wf_scope.specs.declared.fault.AssignFault.TheVariants as fault
use Rattle.wf_scope.specs.declared.key.Key.{Key}
use Rattle.wf_scope.specs.declared.key.Key.TheVariants as key

pub pairs_listed : (ps : List (List ℕ × Data)) → pair_list (pairs_of ps) ≡ ps
pairs_listed [] = refl
pairs_listed (p ∷ ps) = ap (λ l. p ∷ l) (pairs_listed ps)

pub items_listed : (vs : List Data) → items (items_of vs) ≡ vs
items_listed [] = refl
items_listed (v ∷ vs) = ap (λ l. v ∷ l) (items_listed vs)

-- ## The definition, by its first place
pub written_last : (k v new : Data) → written (k ∷ []) v new ≡ with_member k new v
written_last (text k) (tree.map ps) new = refl
written_last (integer (pos i)) (list vs) new = refl
written_last (integer (negsuc i)) (list vs) new = refl
written_last k v new = refl

twice : (o : Option Data) (f : Data → Answer Data) (g : Data → Data) → (or_error IndexError o >>= λ w. f w >>= λ u. Ok (g u)) ≡ (or_error IndexError o >>= λ w. f w >>= λ u. or_error IndexError o >>= λ x. Ok (g u))
twice None f g = refl
twice (Some w) f g = refl

pub written_more : (k j : Data) (js : List Data) (v new : Data) → written (k ∷ j ∷ js) v new ≡ (member k v >>= λ w. written (j ∷ js) w new >>= λ u. with_member k u v)
written_more (text k) j js (tree.map ps) new = refl
written_more (integer (pos i)) j js (list vs) new = twice (slice_get (items vs) i) (λ w. written (j ∷ js) w new) (λ u. list (items_of (slice_set (items vs) i u)))
written_more (integer (negsuc i)) j js (list vs) new = refl
written_more k j js v new = refl

module _ (k j : Data) (js : List Data) (v new : Data) where
  past : (a : Answer Data) → member k v ≡ a → written (k ∷ j ∷ js) v new ≡ (a >>= λ w. written (j ∷ js) w new >>= λ u. with_member k u v)
  past a e = written_more k j js v new ∙ ap (λ b. b >>= λ w. written (j ∷ js) w new >>= λ u. with_member k u v) e

  behind : (w : Data) (a : Answer Data) → member k v ≡ Ok w → written (j ∷ js) w new ≡ a → written (k ∷ j ∷ js) v new ≡ (a >>= λ u. with_member k u v)
  behind w a e f = past (Ok w) e ∙ ap (λ b. b >>= λ u. with_member k u v) f

-- ## Answers
gives_same : (r : Result Value AssignFault) (a b : Answer Data) → a ≡ b → Makes r (faulted a) → Makes r (faulted b)
gives_same r a b e h = subst (λ (c : Answer Data). Makes r (faulted c)) e h

pub answer_ok : (a : Answer Data) (d : Data) → faulted a ≡ Ok d → a ≡ Ok d
answer_ok (Ok x) d h = let same : x ≡ d = cc h in ap Ok same
answer_ok (Err t) d h = cc

answer_fault : (a : Answer Data) (f : AssignFault) → faulted a ≡ Err f → (t : Tag) × (a ≡ Err t)
answer_fault (Ok x) f h = cc
answer_fault (Err t) f h = (t, refl)

-- one fault becomes another's
goes_on : (f : AssignFault) (a b : Answer Data) → ((t : Tag) → a ≡ Err t → b ≡ Err t) → faulted a ≡ Err f → faulted b ≡ Err f
goes_on f a b on h = let t = answer_fault a f h in ap faulted (on t.0 t.1 ∙ sym t.1) ∙ h

gives_on : (f : AssignFault) (a b : Answer Data) → ((t : Tag) → a ≡ Err t → b ≡ Err t) → Makes (Err f) (faulted a) → Makes (Err f) (faulted b)
gives_on fault.OutOfMemory a b on h = tt
gives_on f a b on h = goes_on f a b on h

-- ## What `written` answers
-- a path of more than one place, and what it is behind the first
two_places : (path : List Key) (first : Key) → 2 ≤ length path → first ≡ get_or path 0 first → (j : Key) × (js : List Key) × (path ≡ first ∷ j ∷ js)
two_places [] first long is = absurd (omega (arith, long))
two_places (k ∷ []) first long is = absurd (omega (arith, long))
two_places (k ∷ j ∷ js) first long is = (j, js, ap (λ x. x ∷ j ∷ js) (sym is))

rest_is : (path : List Key) (first j : Key) (js : List Key) → path ≡ first ∷ j ∷ js → between 1 (length path) path ≡ j ∷ js
rest_is path first j js e = let whole = first_rest path first (omega (arith, ap (λ (p : List Key). length p) e)) in cc

pub shorter : (path : List Key) (first : Key) → 2 ≤ length path → first ≡ get_or path 0 first → length (between 1 (length path) path) < length path
shorter path first long is =
    let two = two_places path first long is in
    omega (arith, ap (λ (p : List Key). length p) two.2, ap (λ (p : List Key). length p) (rest_is path first two.0 two.1 two.2))

module _ (path : List Key) (first : Key) (v new : Data) (long : 2 ≤ length path) (is : first ≡ get_or path 0 first) where
  pub more_given : (r : Result Value AssignFault) (w u : Data) → faulted (member (key_data first) v) ≡ Ok w → faulted (written (map key_data (between 1 (length path) path)) w new) ≡ Ok u → Makes r (faulted (with_member (key_data first) u v)) → Makes r (faulted (written (map key_data path) v new))
  more_given r w u e f h =
      let two = two_places path first long is in
      let rest = rest_is path first two.0 two.1 two.2 in
      let inner = ap (λ (ks : List Key). written (map key_data ks) w new) (sym rest) ∙ answer_ok (written (map key_data (between 1 (length path) path)) w new) u f in
      gives_same r (with_member (key_data first) u v) (written (map key_data path) v new)
      (sym (ap (λ (ks : List Key). written (map key_data ks) v new) two.2 ∙ behind (key_data first) (key_data two.0) (map key_data two.1) v new w (Ok u) (answer_ok (member (key_data first) v) w e) inner)) h

  pub fault_behind : (f : AssignFault) (w : Data) → faulted (member (key_data first) v) ≡ Ok w → Makes (Err f) (faulted (written (map key_data (between 1 (length path) path)) w new)) → Makes (Err f) (faulted (written (map key_data path) v new))
  fault_behind f w e h =
      let two = two_places path first long is in
      let rest = rest_is path first two.0 two.1 two.2 in
      gives_on f (written (map key_data (between 1 (length path) path)) w new) (written (map key_data path) v new)
      (λ t g. ap (λ (ks : List Key). written (map key_data ks) v new) two.2 ∙ behind (key_data first) (key_data two.0) (map key_data two.1) v new w (Err t) (answer_ok (member (key_data first) v) w e) (ap (λ (ks : List Key). written (map key_data ks) w new) (sym rest) ∙ g)) h

-- ## Lists
plain_take : (vs : List Value) (i : ℕ) → plain_items (take i vs) ≡ take i (plain_items vs)
plain_take [] zero = refl
plain_take [] (suc i) = refl
plain_take (v ∷ vs) zero = refl
plain_take (v ∷ vs) (suc i) = ap (λ l. plain v ∷ l) (plain_take vs i)

plain_drop : (vs : List Value) (i : ℕ) → plain_items (drop i vs) ≡ drop i (plain_items vs)
plain_drop [] zero = refl
plain_drop [] (suc i) = refl
plain_drop (v ∷ vs) zero = refl
plain_drop (v ∷ vs) (suc i) = plain_drop vs i

pub long : (vs : List Value) → length (plain_items vs) ≡ length vs
long [] = refl
long (v ∷ vs) = ap suc (long vs)

pub replaced_is : (vs before behind : List Value) (i : ℕ) (n : Value) (none front some all : List Data) → i < length vs → before ≡ take i vs → behind ≡ drop (i + 1) vs
    → none ≡ [] → front ≡ none ++ plain_items before → some ≡ front ++ plain n ∷ [] → all ≡ some ++ plain_items behind → all ≡ slice_set (plain_items vs) i (plain n)
replaced_is vs before behind i n none front some all w cut rest e f g h =
    let start : front ≡ take i (plain_items vs) = f ∙ ap (λ l. l ++ plain_items before) e ∙ ap plain_items cut ∙ plain_take vs i in
    let end : plain_items behind ≡ drop (suc i) (plain_items vs) = ap plain_items rest ∙ plain_drop vs (i + 1) ∙ ap (λ j. drop j (plain_items vs)) (add-one i) in
    h ∙ ap (λ l. l ++ plain_items behind) g ∙ append_assoc front (plain n ∷ []) (plain_items behind)
    ∙ ap (λ l. l ++ plain n ∷ plain_items behind) start ∙ ap (λ l. take i (plain_items vs) ++ plain n ∷ l) end
    ∙ sym (set_split (plain_items vs) i (plain n) (omega (arith, w, long vs)))

-- the trees up to an index, and one more
taken : (vs : List Value) (i : ℕ) (x : Value) → i < length vs → x ≡ get_or vs i x → take (suc i) (plain_items vs) ≡ take i (plain_items vs) ++ plain x ∷ []
taken [] i x h is = absurd (omega (arith, h))
taken (v ∷ vs) zero x h is = ap (λ y. plain y ∷ []) (sym is)
taken (v ∷ vs) (suc i) x h is = ap (λ l. plain v ∷ l) (taken vs i x (omega (arith, h)) is)

pub item_more : (first had more : List Data) (vs : List Value) (i : ℕ) (x y : Value) → i < length vs → x ≡ get_or vs i x → y ≡ x → more ≡ had ++ plain y ∷ [] → had ≡ first ++ take i (plain_items vs) → more ≡ first ++ take (i + 1) (plain_items vs)
item_more first had more vs i x y h is same grown so =
    grown ∙ ap (λ z. had ++ plain z ∷ []) same ∙ ap (λ l. l ++ plain x ∷ []) so ∙ append_assoc first (take i (plain_items vs)) (plain x ∷ [])
    ∙ ap (λ l. first ++ l) (sym (taken vs i x h is)) ∙ ap (λ j. first ++ take j (plain_items vs)) (sym (add-one i))

-- ## Places of a value
pub member_name : (k : Key) (v : Value) (t : List ℕ) (ps : List (List ℕ × Data)) → k ≡ key.Name t → v ≡ value.Map ps → member (key_data k) (plain v) ≡ or_error KeyError (value_at t ps)
member_name k v t ps e f = ap (λ x. member (key_data x) (plain v)) e ∙ ap (λ x. member (text t) (plain x)) f ∙ ap (λ qs. or_error KeyError (value_at t qs)) (pairs_listed ps)

pub member_index : (k : Key) (v : Value) (i : ℤ) (ds : List Data) → k ≡ key.At i → v ≡ value.List ds → member (key_data k) (plain v) ≡ or_error IndexError (item_at i ds)
member_index k v i ds e f = ap (λ x. member (key_data x) (plain v)) e ∙ ap (λ x. member (integer i) (plain x)) f ∙ ap (λ vs. or_error IndexError (item_at i vs)) (items_listed ds)

pub key_put : (v w : Value) (ps qs : List (List ℕ × Data)) (s t : List ℕ) (n : Value) → w ≡ v → w ≡ value.Map ps → s ≡ t → qs ≡ with_value s (plain n) ps → faulted (with_key t (plain n) (plain v)) ≡ Ok (tree.map (pairs_of qs))
key_put v w ps qs s t n copy is name put =
    ap (λ z. faulted (with_key t (plain n) (plain z))) (sym copy ∙ is)
    ∙ ap (λ l. Ok (tree.map (pairs_of (with_value t (plain n) l)))) (pairs_listed ps)
    ∙ ap (λ y. Ok (tree.map (pairs_of (with_value y (plain n) ps)))) (sym name)
    ∙ ap (λ l. Ok (tree.map (pairs_of l))) (sym put)

pub member_named : (k : Key) (v : Value) (s t : List ℕ) (ps : List (List ℕ × Data)) (o : Option Data) → k ≡ key.Name t → v ≡ value.Map ps → s ≡ t → o ≡ value_at s ps → faulted (member (key_data k) (plain v)) ≡ faulted (or_error KeyError o)
member_named k v s t ps o e f g h =
    ap faulted (member_name k v t ps e f ∙ ap (λ x. or_error KeyError (value_at x ps)) (sym g) ∙ ap (or_error KeyError) (sym h))

pub member_indexed : (k : Key) (v : Value) (i j : ℤ) (ds : List Data) (xs : List Value) (o : Option Data) → k ≡ key.At i → j ≡ i → v ≡ value.List ds → plain_items xs ≡ ds → o ≡ item_at j (plain_items xs) → faulted (member (key_data k) (plain v)) ≡ faulted (or_error IndexError o)
member_indexed k v i j ds xs o e same f g h =
    ap faulted (member_index k v i ds e f ∙ ap (λ l. or_error IndexError (item_at i l)) (sym g) ∙ ap (λ n. or_error IndexError (item_at n (plain_items xs))) (sym same) ∙ ap (or_error IndexError) (sym h))

pub index_put : (r : Result Value AssignFault) (k : Key) (v : Value) (i j : ℤ) (ds : List Data) (xs : List Value) (n : Data) → k ≡ key.At i → j ≡ i → v ≡ value.List ds → plain_items xs ≡ ds → Makes r (faulted (with_item j n (plain_items xs))) → Makes r (faulted (with_member (key_data k) n (plain v)))
index_put r k v i j ds xs n e same f g h =
    gives_same r (with_item j n (plain_items xs)) (with_member (key_data k) n (plain v))
    (ap (λ m. with_item m n (plain_items xs)) same ∙ ap (with_item i n) (g ∙ sym (items_listed ds)) ∙ sym (ap (λ x. with_member (integer i) n (plain x)) f) ∙ sym (ap (λ x. with_member (key_data x) n (plain v)) e)) h
