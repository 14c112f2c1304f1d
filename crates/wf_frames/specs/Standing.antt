-- Where a task stands, as a fact with at most one proof: what `Stands` says, with tests in place of the nodes and layers that are there.
--     Standing          the frames fit the table, and the layers stand in the store
--     Standing-prop     it has at most one proof
use Rattle.std.specs.Prelude.{◌≡◌, ℕ, ◌+◌, ◌<◌, ◌≤◌, Bool, true, false, List, [], ◌∷◌, length, slice_get, is_some, Some, None, Option, option_map, unwrap_or}
use Rattle.std.specs.Coded.{Coded-set, codes, coded_bool, coded_list, coded_option, coded_ℕ, le_prop, Unit-prop, ×_prop, Π_prop, →_prop}
use Rattle.std.specs.List.Sorted.{IsStrictlySortedBy-prop}
use Rattle.std.specs.Map.{keys_of}
use Rattle.wf_frames.specs.Fits.{Nests, entries_at, has_next, list_at, view_at}
use Rattle.wf_frames.specs.Frames.{inner}
use Rattle.wf_frames.specs.Owned.{AreAlone, Around, OnlyInside, besides, first_key, next_own, outer_for, own_of}
use Rattle.wf_frames.specs.declared.frames.Frame.{Frame}
use Rattle.wf_frames.specs.declared.frames.Frame.TheVariants as frame
use Rattle.wf_frames.specs.declared.frames.Frames.{Frames}
use Rattle.wf_model.specs.Local.{layers_total, outers_total}
use Rattle.wf_model.specs.NodeKinds.{Listed}
use Rattle.wf_model.specs.Spots.{Spot}
use Rattle.wf_model.specs.declared.node.Node.{Node}
use Rattle.wf_model.specs.declared.node.NodeKind.{NodeKind}
use Rattle.wf_model.specs.declared.node.NodeKind.TheVariants as variant
use Rattle.wf_scope.specs.Layers.{Layer, find, total_of, vars_at}
use Rattle.wf_scope.specs.Store.{layers_of}
use Rattle.wf_frames.specs.Tasks.{AreApart, AreOthers, Far, Own, far_layers, numbers, own_layers}
use Rattle.wf_scope.specs.declared.scopes.Scopes.{Scopes}
use Rattle.wf_value.specs.Code.{coded_data}
use Rattle.wf_value.specs.Data.{depth}
use Rattle.wf_value.specs.Maps.{IsInOrder, key_cmp}
use Rattle.wf_value.specs.Plain.{plain}

-- ## Frames
-- the steps of a list that may be there
abbrev pub steps_of : Option Listed → List ℕ
steps_of None = []
steps_of (Some b) = b.steps

abbrev pub is_loop : NodeKind → Bool
is_loop (variant.For b) = true
is_loop k = false

-- whether a node is there, and is a loop
abbrev pub is_loop_node : Option Node → Bool
is_loop_node None = false
is_loop_node (Some x) = is_loop x.kind

abbrev pub is_try : NodeKind → Bool
is_try (variant.Try t) = true
is_try k = false

abbrev pub is_try_node : Option Node → Bool
is_try_node None = false
is_try_node (Some x) = is_try x.kind

abbrev pub is_call : NodeKind → Bool
is_call (variant.Call f) = true
is_call k = false

abbrev pub is_call_node : Option Node → Bool
is_call_node None = false
is_call_node (Some x) = is_call x.kind

abbrev pub StandsCall : List Node → Option ℕ → Type 0
StandsCall nodes None = Unit {0}
StandsCall nodes (Some n) = is_call_node (slice_get nodes n) ≡ true

-- the frame's number is that of a node of its kind, and an error on which is decided nests within the limit
abbrev pub StandsAt : List Node → Frame → Type 0
StandsAt nodes (frame.Do n at) = (is_some (list_at nodes n) ≡ true) × (at ≤ length (steps_of (list_at nodes n)))
StandsAt nodes (frame.Lone n done) = n < length nodes
StandsAt nodes (frame.Entries n at) = (is_some (entries_at nodes n) ≡ true) × (at ≤ length (unwrap_or (entries_at nodes n) []))
StandsAt nodes (frame.Then n) = (n < length nodes) × (has_next (view_at nodes n) ≡ true)
StandsAt nodes (frame.Loop looping) = is_loop_node (slice_get nodes looping.value.node) ≡ true
StandsAt nodes (frame.Try trying) = is_try_node (slice_get nodes trying.value.node) ≡ true
StandsAt nodes (frame.Mark number) = Unit {0}
StandsAt nodes (frame.Back call number) = StandsCall nodes call
StandsAt nodes (frame.Judge judging) = (is_try_node (slice_get nodes judging.value.node) ≡ true) × (depth (plain judging.value.error) ≤ 100)

abbrev pub AllStandAt : List Spot → List Node → List Frame → Type 0
AllStandAt ns nodes [] = Unit {0}
AllStandAt ns nodes (f ∷ fs) = (StandsAt nodes f × Nests ns nodes f fs) × AllStandAt ns nodes fs

-- ## Layers
-- the layer of this number is live, and stands directly inside that one
abbrev pub LiesIn : ℕ → Option ℕ → List Layer → Type 0
LiesIn n outer ls = option_map (λ l. l.outer) (find n ls) ≡ Some outer

abbrev pub OwnLie : Option ℕ → List Own → List Layer → Type 0
OwnLie last [] ls = Unit {0}
OwnLie last (o ∷ os) ls = LiesIn o.number (outer_for o.by_call (next_own last os)) ls × OwnLie last os ls

abbrev pub KeysLie : List Far → List Layer → Type 0
KeysLie [] ls = Unit {0}
KeysLie (k ∷ ks) ls = LiesIn k.number (first_key ks) ls × KeysLie ks ls

-- ## Of a task
pub record Standing (a : Around) (nodes : List Node) (fs : Frames) (x : Scopes) : Type 0 where
  pub fit : AllStandAt a.spots nodes (inner fs)
  pub own : OwnLie (first_key a.keys) (own_of fs) (layers_of x)
  pub outside : KeysLie a.keys (layers_of x)
  pub apart : AreApart (numbers (own_of fs) a.keys)
  pub alone : AreAlone None (own_of fs) (layers_of x)
  pub limit : x.limit ≡ a.limit
  pub order : (n : ℕ) → IsInOrder (vars_at n (layers_of x))
  pub unseen : besides (numbers (own_of fs) a.keys) (layers_of x) ≡ a.rest
  pub sum : layers_total (own_layers (own_of fs) (layers_of x)) + outers_total (far_layers a.keys (layers_of x)) + a.others ≡ total_of (layers_of x)

-- ## At most one proof
StandsCall-prop : (nodes : List Node) (call : Option ℕ) → IsProp (StandsCall nodes call)
StandsCall-prop nodes None = Unit-prop
StandsCall-prop nodes (Some n) = Coded-set coded_bool _ _

StandsAt-prop : (nodes : List Node) (f : Frame) → IsProp (StandsAt nodes f)
StandsAt-prop nodes (frame.Do n at) = ×_prop (Coded-set coded_bool _ _) le_prop
StandsAt-prop nodes (frame.Lone n done) = le_prop
StandsAt-prop nodes (frame.Entries n at) = ×_prop (Coded-set coded_bool _ _) le_prop
StandsAt-prop nodes (frame.Then n) = ×_prop le_prop (Coded-set coded_bool _ _)
StandsAt-prop nodes (frame.Loop looping) = Coded-set coded_bool _ _
StandsAt-prop nodes (frame.Try trying) = Coded-set coded_bool _ _
StandsAt-prop nodes (frame.Mark number) = Unit-prop
StandsAt-prop nodes (frame.Back call number) = StandsCall-prop nodes call
StandsAt-prop nodes (frame.Judge judging) = ×_prop (Coded-set coded_bool _ _) le_prop

Nests-prop : (ns : List Spot) (nodes : List Node) (f : Frame) (fs : List Frame) → IsProp (Nests ns nodes f fs)
Nests-prop ns nodes (frame.Do n at) fs = Coded-set (coded_list coded_ℕ) _ _
Nests-prop ns nodes (frame.Lone n done) fs = Coded-set (coded_list coded_ℕ) _ _
Nests-prop ns nodes (frame.Entries n at) fs = Unit-prop
Nests-prop ns nodes (frame.Then n) fs = Coded-set (coded_list coded_ℕ) _ _
Nests-prop ns nodes (frame.Loop looping) fs = Unit-prop
Nests-prop ns nodes (frame.Try trying) fs = Coded-set (coded_list coded_ℕ) _ _
Nests-prop ns nodes (frame.Mark number) fs = Unit-prop
Nests-prop ns nodes (frame.Back call number) fs = Unit-prop
Nests-prop ns nodes (frame.Judge judging) fs = Coded-set (coded_list coded_ℕ) _ _

pub AllStandAt-prop : (ns : List Spot) (nodes : List Node) (fs : List Frame) → IsProp (AllStandAt ns nodes fs)
AllStandAt-prop ns nodes [] = Unit-prop
AllStandAt-prop ns nodes (f ∷ fs) = ×_prop (×_prop (StandsAt-prop nodes f) (Nests-prop ns nodes f fs)) (AllStandAt-prop ns nodes fs)

LiesIn-prop : (n : ℕ) (outer : Option ℕ) (ls : List Layer) → IsProp (LiesIn n outer ls)
LiesIn-prop n outer ls = Coded-set (coded_option (coded_option coded_ℕ)) _ _

pub OwnLie-prop : (last : Option ℕ) (os : List Own) (ls : List Layer) → IsProp (OwnLie last os ls)
OwnLie-prop last [] ls = Unit-prop
OwnLie-prop last (o ∷ os) ls = ×_prop (LiesIn-prop o.number (outer_for o.by_call (next_own last os)) ls) (OwnLie-prop last os ls)

KeysLie-prop : (ks : List Far) (ls : List Layer) → IsProp (KeysLie ks ls)
KeysLie-prop [] ls = Unit-prop
KeysLie-prop (k ∷ ks) ls = ×_prop (LiesIn-prop k.number (first_key ks) ls) (KeysLie-prop ks ls)

AreOthers-prop : (n : ℕ) (ns : List ℕ) → IsProp (AreOthers n ns)
AreOthers-prop n [] = Unit-prop
AreOthers-prop n (m ∷ ns) = ×_prop (Coded-set coded_bool _ _) (AreOthers-prop n ns)

pub AreApart-prop : (ns : List ℕ) → IsProp (AreApart ns)
AreApart-prop [] = Unit-prop
AreApart-prop (n ∷ ns) = ×_prop (AreOthers-prop n ns) (AreApart-prop ns)

OnlyInside-prop : (i : Option ℕ) (n : ℕ) (ls : List Layer) → IsProp (OnlyInside i n ls)
OnlyInside-prop i n [] = Unit-prop
OnlyInside-prop i n (l ∷ ls) = ×_prop (→_prop (Coded-set (coded_option coded_ℕ) _ _)) (OnlyInside-prop i n ls)

AreAlone-prop : (i : Option ℕ) (os : List Own) (ls : List Layer) → IsProp (AreAlone i os ls)
AreAlone-prop i [] ls = Unit-prop
AreAlone-prop i (o ∷ os) ls = ×_prop (OnlyInside-prop i o.number ls) (AreAlone-prop (Some o.number) os ls)

-- layers are told apart
Layer-set : (ls ms : List Layer) → IsProp (ls ≡ ms)
Layer-set ls ms = Coded-set (coded_list (hlevel (codes, coded_data))) ls ms

pub order_prop : (ls : List Layer) → IsProp ((n : ℕ) → IsInOrder (vars_at n ls))
order_prop ls = Π_prop (λ n. IsStrictlySortedBy-prop key_cmp (keys_of (vars_at n ls)))

pub Standing-prop : (a : Around) (nodes : List Node) (fs : Frames) (x : Scopes) → IsProp (Standing a nodes fs x)
Standing-prop a nodes fs x g h = λ i. record {
  fit = AllStandAt-prop a.spots nodes (inner fs) g.fit h.fit i;
  own = OwnLie-prop (first_key a.keys) (own_of fs) (layers_of x) g.own h.own i;
  outside = KeysLie-prop a.keys (layers_of x) g.outside h.outside i;
  apart = AreApart-prop (numbers (own_of fs) a.keys) g.apart h.apart i;
  alone = AreAlone-prop None (own_of fs) (layers_of x) g.alone h.alone i;
  limit = Coded-set coded_ℕ x.limit a.limit g.limit h.limit i;
  order = order_prop (layers_of x) g.order h.order i;
  unseen = Layer-set (besides (numbers (own_of fs) a.keys) (layers_of x)) a.rest g.unseen h.unseen i;
  sum = Coded-set coded_ℕ (layers_total (own_layers (own_of fs) (layers_of x)) + outers_total (far_layers a.keys (layers_of x)) + a.others) (total_of (layers_of x)) g.sum h.sum i;
}
