-- The bounds with which a flow collection is read don't matter, where they are enough.
use Rattle.std.proofs.Common.{◌≡◌, ℕ, suc, ◌<◌, ◌≤◌, List, length, Bool, true, false, cond, ◌==◌, Option, Some, None, Result, Ok, Err, refl, ap, subst, arith}
use Rattle.std.specs.Str.{encode_utf8_all}
use Rattle.wf_yaml_line.specs.declared.fault.Fault.{Fault}
use Rattle.wf_yaml_line.specs.Fault.{both, kept}
use Rattle.wf_yaml_line.specs.Marks.{starts, is_empty, is_bracket, behind_first, open_map}
use Rattle.wf_tree.specs.Trees.{Tree, null}
use Rattle.wf_yaml_flow.specs.Flow.{Seen, goes, stops, stopped, joined, followed, seen_as, flow_blanks, Word, no_word, word, flow_word, behind_colon, property_fault, behind_property, Deeper, scalar_tree, ends_node, is_property, with_property, value_end, value_word, value_node, flow_value, one_pair, key_fault, depth_fault, item_end, item_word, item_node, flow_item}
use Rattle.wf_yaml_line.specs.Scalars.{is_delay_key}
use Rattle.wf_yaml_flow.proofs.FlowLengths.{first_short, first_shorter, blanks_short, property_short, WordIn, word_in, BehindIn, colon_in}

-- what is left behind is no longer than this
abbrev pub Leaves : {A : Type 0} → ℕ → Seen A → Type 0
Leaves m (goes r rest) = length rest ≤ m
Leaves m (stops g) = Unit {0}

-- the same is read, and no more is left behind
abbrev pub Same : {A : Type 0} → ℕ → Seen A → Seen A → Type 0
Same m x y = (x ≡ y) × Leaves m x

leaves_more : {A : Type 0} (k m : ℕ) (x : Seen A) → k ≤ m → Leaves k x → Leaves m x
leaves_more k m (goes r rest) h l = omega (arith, h, l)
leaves_more k m (stops g) h l = tt

pub same_more : {A : Type 0} (k m : ℕ) (x y : Seen A) → k ≤ m → Same k x y → Same m x y
same_more k m x y h e = (e.0, leaves_more k m x h e.1)

leaves_joined : {A B C : Type 0} (f : A → B → C) (r : Result A Fault) (m : ℕ) (x : Seen B) → Leaves m x → Leaves m (joined f r x)
leaves_joined f r m (goes q rest) h = h
leaves_joined f (Ok a) m (stops g) h = tt
leaves_joined f (Err e) m (stops g) h = tt

pub same_joined : {A B C : Type 0} (f : A → B → C) (r : Result A Fault) (m : ℕ) (x y : Seen B) → Same m x y → Same m (joined f r x) (joined f r y)
same_joined f r m x y h = (ap (joined f r) h.0, leaves_joined f r m x h.1)

leaves_as : {A B : Type 0} (f : A → B) (m : ℕ) (x : Seen A) → Leaves m x → Leaves m (seen_as f x)
leaves_as f m (goes r rest) h = h
leaves_as f m (stops g) h = tt

pub same_as : {A B : Type 0} (f : A → B) (m : ℕ) (x y : Seen A) → Same m x y → Same m (seen_as f x) (seen_as f y)
same_as f m x y h = (ap (seen_as f) h.0, leaves_as f m x h.1)

followed_by : {A B C : Type 0} (f : A → B → C) (m k : ℕ) (x : Seen A) (go other : List ℕ → Seen B) → Leaves m x
    → ((r : List ℕ) → length r ≤ m → Same k (go r) (other r)) → Same k (followed f x go) (followed f x other)
followed_by f m k (goes r rest) go other h e = same_joined f r k (go rest) (other rest) (e rest h)
followed_by f m k (stops g) go other h e = (refl, tt)

pub same_followed : {A B C : Type 0} (f : A → B → C) (m k : ℕ) (x y : Seen A) (go other : List ℕ → Seen B) → Same m x y
    → ((r : List ℕ) → length r ≤ m → Same k (go r) (other r)) → Same k (followed f x go) (followed f y other)
same_followed f m k x y go other h e = subst (λ z. Same k (followed f x go) (followed f z other)) h.0 (followed_by f m k x go other h.1 e)

pub same_chosen : {A : Type 0} (b : Bool) (m : ℕ) (x y u v : Seen A) → (b ≡ true → Same m x u) → (b ≡ false → Same m y v) → Same m (cond b x y) (cond b u v)
same_chosen true m x y u v h k = h refl
same_chosen false m x y u v h k = k refl

-- ---- nodes, over two readers of what is inside

-- two readers that read the same of each text shorter than this
abbrev pub Alike : ℕ → Deeper → Deeper → Type 0
Alike m a b = (d : ℕ) (is_map : Bool) (s : List ℕ) → length s < m → Same (length s) (a d is_map s) (b d is_map s)

module _ (m n : ℕ) (a b : Deeper) (alike : Alike m a b) where
  inner_same : (d : ℕ) (s : List ℕ) → length s ≤ m → starts is_bracket s ≡ true
      → Same (length s) (a d (starts (λ c. c == open_map) s) (behind_first s)) (b d (starts (λ c. c == open_map) s) (behind_first s))
  inner_same d s h e =
      let is_map = starts (λ c. c == open_map) s in
      let rest = behind_first s in
      let less : length rest < m = omega (arith, h, first_shorter is_bracket s e) in
      same_more (length rest) (length s) (a d is_map rest) (b d is_map rest) (first_short s) (alike d is_map rest less)

  value_end_leaves : (r : Result Tree Fault) (o : Option (List ℕ)) (rest : List ℕ) (k : ℕ) → length rest ≤ k → Leaves k (value_end r n o rest)
  value_end_leaves r None rest k h = h
  value_end_leaves r (Some x) rest k h = tt

  value_word_leaves : (delay : Bool) (w : Word) (k : ℕ) → WordIn k w → Leaves k (value_word delay n w)
  value_word_leaves delay no_word k h = tt
  value_word_leaves delay (word s q g rest) k h = value_end_leaves (scalar_tree delay n s q g) (behind_colon q rest) rest k h

  value_node_same : (d : ℕ) (delay : Bool) (s : List ℕ) → length s ≤ m → Same (length s) (value_node a n d delay s) (value_node b n d delay s)
  value_node_same d delay s h =
      let is_map = starts (λ c. c == open_map) s in
      let scalar = value_word delay n (flow_word s) in
      same_chosen (ends_node s) (length s) (goes (Ok null) s) (cond (starts is_bracket s) (a d is_map (behind_first s)) scalar) (goes (Ok null) s) (cond (starts is_bracket s) (b d is_map (behind_first s)) scalar)
      (λ _. (refl, omega arith))
      (λ _. same_chosen (starts is_bracket s) (length s) (a d is_map (behind_first s)) scalar (b d is_map (behind_first s)) scalar
      (λ e. inner_same d s h e)
      (λ _. (refl, value_word_leaves delay (flow_word s) (length s) (word_in s))))

  pub flow_value_same : (d : ℕ) (delay : Bool) (r : List ℕ) → length r ≤ m → Same (length r) (flow_value a n d delay r) (flow_value b n d delay r)
  flow_value_same d delay r h =
      let s = flow_blanks r in
      let t = behind_property s in
      let short : length t ≤ length r = omega (arith, blanks_short r, property_short s) in
      let node = same_more (length t) (length r) (value_node a n d delay t) (value_node b n d delay t) short (value_node_same d delay t (omega (arith, short, h))) in
      same_chosen (is_empty s) (length r) (stopped n) (with_property n s (value_node a n d delay t)) (stopped n) (with_property n s (value_node b n d delay t))
      (λ _. (refl, tt))
      (λ _. same_joined (λ _ y. y) (property_fault n s) (length r) (value_node a n d delay t) (value_node b n d delay t) node)

  item_end_same : (d : ℕ) (s : List ℕ) (q g : Bool) (o : Option (List ℕ)) (rest : List ℕ) (k : ℕ) → k ≤ m → length rest ≤ k → BehindIn (length rest) o
      → Same k (item_end a n d s q g o rest) (item_end b n d s q g o rest)
  item_end_same d s q g None rest k h r e = (refl, r)
  item_end_same d s q g (Some behind) rest k h r e =
      let key = encode_utf8_all s in
      let delay = is_delay_key key in
      let value = same_more (length behind) k (flow_value a n (suc d) delay behind) (flow_value b n (suc d) delay behind) (omega (arith, r, e)) (flow_value_same (suc d) delay behind (omega (arith, h, r, e))) in
      same_joined (λ _ t. one_pair key t) (both kept (key_fault n g) (depth_fault n d)) k (flow_value a n (suc d) delay behind) (flow_value b n (suc d) delay behind) value

  item_word_same : (d : ℕ) (w : Word) (k : ℕ) → k ≤ m → WordIn k w → Same k (item_word a n d w) (item_word b n d w)
  item_word_same d no_word k h r = (refl, tt)
  item_word_same d (word s q g rest) k h r = item_end_same d s q g (behind_colon q rest) rest k h r (colon_in q rest)

  item_node_same : (d : ℕ) (s : List ℕ) → length s ≤ m → Same (length s) (item_node a n d s) (item_node b n d s)
  item_node_same d s h =
      let is_map = starts (λ c. c == open_map) s in
      same_chosen (starts is_bracket s) (length s) (a d is_map (behind_first s)) (item_word a n d (flow_word s)) (b d is_map (behind_first s)) (item_word b n d (flow_word s))
      (λ e. inner_same d s h e)
      (λ _. item_word_same d (flow_word s) (length s) h (word_in s))

  pub flow_item_same : (d : ℕ) (s : List ℕ) → length s ≤ m → Same (length s) (flow_item a n d s) (flow_item b n d s)
  flow_item_same d s h =
      let t = behind_property s in
      let short = property_short s in
      let marked = cond (ends_node t) (goes (Ok null) t) (item_node a n d t) in
      let other = cond (ends_node t) (goes (Ok null) t) (item_node b n d t) in
      same_chosen (starts is_property s) (length s) (with_property n s marked) (item_node a n d s) (with_property n s other) (item_node b n d s)
      (λ _. same_joined (λ _ y. y) (property_fault n s) (length s) marked other
      (same_chosen (ends_node t) (length s) (goes (Ok null) t) (item_node a n d t) (goes (Ok null) t) (item_node b n d t)
      (λ _. (refl, short))
      (λ _. same_more (length t) (length s) (item_node a n d t) (item_node b n d t) short (item_node_same d t (omega (arith, h, short))))))
      (λ _. item_node_same d s h)
