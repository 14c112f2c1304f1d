-- A task stands in the one form where it stands in the other.
use Rattle.std.proofs.Common.{◌≡◌, ℕ, ◌≤◌, true, List, [], ◌∷◌, length, Option, Some, None, is_some, refl, sym, ap, subst, ◌∙◌}
use Rattle.std.specs.Prelude.{option_map, slice_get, unwrap_or}
use Rattle.wf_frames.specs.Fits.{Fits, HasNode, IsCall, IsLoop, IsTry, entries_at, list_at}
use Rattle.wf_frames.specs.Frames.{inner}
use Rattle.wf_frames.specs.Owned.{Around, IsInside, KeysStand, OwnStand, first_key, next_own, outer_for, own_of}
use Rattle.wf_frames.specs.Standing.{AllStandAt, KeysLie, LiesIn, OwnLie, Standing, StandsAt, is_call, is_call_node, is_loop, is_loop_node, is_try, is_try_node, steps_of}
use Rattle.wf_frames.specs.Stands.{Stands}
use Rattle.wf_frames.specs.declared.frames.Frame.{Frame}
use Rattle.wf_frames.specs.declared.frames.Frame.TheVariants as frame
use Rattle.wf_frames.specs.declared.frames.Frames.{Frames}
use Rattle.wf_model.specs.NodeKinds.{Listed}
use Rattle.wf_model.specs.Spots.{Spot}
use Rattle.wf_model.specs.declared.node.CallNode.{CallNode}
use Rattle.wf_model.specs.declared.node.LoopNode.{LoopNode}
use Rattle.wf_model.specs.declared.node.Node.{Node}
use Rattle.wf_model.specs.declared.node.NodeKind.{NodeKind}
use Rattle.wf_model.specs.declared.node.NodeKind.TheVariants as variant
use Rattle.wf_model.specs.declared.node.TryNode.{TryNode}
use Rattle.wf_scope.specs.Layers.{Layer, find}
use Rattle.wf_scope.specs.Store.{layers_of}
use Rattle.wf_frames.specs.Tasks.{Far, Own}
use Rattle.wf_scope.specs.declared.scopes.Scopes.{Scopes}

-- ## Frames
loop_kind : (k : NodeKind) → is_loop k ≡ true → (b : LoopNode) × (k ≡ variant.For b)
loop_kind (variant.For b) t = (b, refl)
loop_kind k t = absurd (cc t)

try_kind : (k : NodeKind) → is_try k ≡ true → (t : TryNode) × (k ≡ variant.Try t)
try_kind (variant.Try t) e = (t, refl)
try_kind k e = absurd (cc e)

call_kind : (k : NodeKind) → is_call k ≡ true → (f : CallNode) × (k ≡ variant.Call f)
call_kind (variant.Call f) e = (f, refl)
call_kind k e = absurd (cc e)

module _ (nodes : List Node) where
  at_node : (f : Frame) → HasNode nodes f → StandsAt nodes f
  at_node (frame.Do n at) h = (ap is_some h.1, subst (λ o. at ≤ length (steps_of o)) (sym h.1) h.2)
  at_node (frame.Lone n done) h = h
  at_node (frame.Entries n at) h = (ap is_some h.1, subst (λ (o : Option (List ℕ)). at ≤ length (unwrap_or o [])) (sym h.1) h.2)
  at_node (frame.Then n) h = h
  at_node (frame.Loop looping) h = ap is_loop_node h.1.at ∙ ap is_loop h.1.is
  at_node (frame.Try trying) h = ap is_try_node h.1.at ∙ ap is_try h.1.is
  at_node (frame.Mark m) h = tt
  at_node (frame.Back None m) h = tt
  at_node (frame.Back (Some n) m) h = ap is_call_node h.1.at ∙ ap is_call h.1.is
  at_node (frame.Judge judging) h = (ap is_try_node h.0.1.at ∙ ap is_try h.0.1.is, h.1)

  list_there : (n at : ℕ) (o : Option Listed) → list_at nodes n ≡ o → is_some o ≡ true → at ≤ length (steps_of o) → HasNode nodes (frame.Do n at)
  list_there n at None e t w = absurd (cc t)
  list_there n at (Some b) e t w = (b, e, w)

  entries_there : (n at : ℕ) (o : Option (List ℕ)) → entries_at nodes n ≡ o → is_some o ≡ true → at ≤ length (unwrap_or o []) → HasNode nodes (frame.Entries n at)
  entries_there n at None e t w = absurd (cc t)
  entries_there n at (Some numbers) e t w = (numbers, e, w)

  loop_there : (n : ℕ) (o : Option Node) → slice_get nodes n ≡ o → is_loop_node o ≡ true → (b : LoopNode) × IsLoop nodes n b
  loop_there n None e t = absurd (cc t)
  loop_there n (Some x) e t = let k = loop_kind x.kind t in (k.0, record { node = x; at = e; is = k.1 })

  try_there : (n : ℕ) (o : Option Node) → slice_get nodes n ≡ o → is_try_node o ≡ true → (t : TryNode) × IsTry nodes n t
  try_there n None e t = absurd (cc t)
  try_there n (Some x) e t = let k = try_kind x.kind t in (k.0, record { node = x; at = e; is = k.1 })

  call_there : (n : ℕ) (o : Option Node) → slice_get nodes n ≡ o → is_call_node o ≡ true → (f : CallNode) × IsCall nodes n f
  call_there n None e t = absurd (cc t)
  call_there n (Some x) e t = let k = call_kind x.kind t in (k.0, record { node = x; at = e; is = k.1 })

  has_node : (f : Frame) → StandsAt nodes f → HasNode nodes f
  has_node (frame.Do n at) h = list_there n at (list_at nodes n) refl h.0 h.1
  has_node (frame.Lone n done) h = h
  has_node (frame.Entries n at) h = entries_there n at (entries_at nodes n) refl h.0 h.1
  has_node (frame.Then n) h = h
  has_node (frame.Loop looping) h = loop_there looping.value.node (slice_get nodes looping.value.node) refl h
  has_node (frame.Try trying) h = try_there trying.value.node (slice_get nodes trying.value.node) refl h
  has_node (frame.Mark m) h = tt
  has_node (frame.Back None m) h = tt
  has_node (frame.Back (Some n) m) h = call_there n (slice_get nodes n) refl h
  has_node (frame.Judge judging) h = (try_there judging.value.node (slice_get nodes judging.value.node) refl h.0, h.1)

  all_at : (ns : List Spot) (fs : List Frame) → Fits ns nodes fs → AllStandAt ns nodes fs
  all_at ns [] h = tt
  all_at ns (f ∷ fs) h = ((at_node f h.0.0, h.0.1), all_at ns fs h.1)

  all_fit : (ns : List Spot) (fs : List Frame) → AllStandAt ns nodes fs → Fits ns nodes fs
  all_fit ns [] h = tt
  all_fit ns (f ∷ fs) h = ((has_node f h.0.0, h.0.1), all_fit ns fs h.1)

-- ## Layers
lies_in : (n : ℕ) (o : Option ℕ) (ls : List Layer) → IsInside n o ls → LiesIn n o ls
lies_in n o ls h = ap (option_map (λ l. l.outer)) h.1 ∙ ap Some h.2

is_inside : (n : ℕ) (o : Option ℕ) (ls : List Layer) → LiesIn n o ls → IsInside n o ls
is_inside n o ls = by (find n ls) refl
  where
    by : (g : Option Layer) → find n ls ≡ g → option_map (λ l. l.outer) g ≡ Some o → IsInside n o ls
    by None e h = absurd (cc h)
    by (Some l) e h = let same : l.outer ≡ o = cc h in (l, e, same)

pub own_lie : (last : Option ℕ) (os : List Own) (ls : List Layer) → OwnStand last os ls → OwnLie last os ls
own_lie last [] ls h = tt
own_lie last (o ∷ os) ls h = (lies_in o.number (outer_for o.by_call (next_own last os)) ls h.0, own_lie last os ls h.1)

pub own_stand : (last : Option ℕ) (os : List Own) (ls : List Layer) → OwnLie last os ls → OwnStand last os ls
own_stand last [] ls h = tt
own_stand last (o ∷ os) ls h = (is_inside o.number (outer_for o.by_call (next_own last os)) ls h.0, own_stand last os ls h.1)

pub keys_lie : (ks : List Far) (ls : List Layer) → KeysStand ks ls → KeysLie ks ls
keys_lie [] ls h = tt
keys_lie (k ∷ ks) ls h = (lies_in k.number (first_key ks) ls h.0, keys_lie ks ls h.1)

keys_stand : (ks : List Far) (ls : List Layer) → KeysLie ks ls → KeysStand ks ls
keys_stand [] ls h = tt
keys_stand (k ∷ ks) ls h = (is_inside k.number (first_key ks) ls h.0, keys_stand ks ls h.1)

-- ## Of a task
pub standing : (a : Around) (nodes : List Node) (fs : Frames) (x : Scopes) → Stands a nodes fs x → Standing a nodes fs x
standing a nodes fs x h = record {
  fit = all_at nodes a.spots (inner fs) h.fits;
  own = own_lie (first_key a.keys) (own_of fs) (layers_of x) h.linked.layers.stand;
  outside = keys_lie a.keys (layers_of x) h.linked.layers.keys;
  apart = h.linked.layers.apart;
  alone = h.linked.layers.alone;
  limit = h.linked.limit;
  order = h.linked.order;
  unseen = h.linked.unseen;
  sum = h.linked.sum;
}

pub stands : (a : Around) (nodes : List Node) (fs : Frames) (x : Scopes) → Standing a nodes fs x → Stands a nodes fs x
stands a nodes fs x h = record {
  fits = all_fit nodes a.spots (inner fs) h.fit;
  linked = record {
    layers = record {
      stand = own_stand (first_key a.keys) (own_of fs) (layers_of x) h.own;
      keys = keys_stand a.keys (layers_of x) h.outside;
      apart = h.apart;
      alone = h.alone;
    };
    limit = h.limit;
    order = h.order;
    unseen = h.unseen;
    sum = h.sum;
  };
}
