-- An assignment in a store does what it does in a task whose layers stand there.
use Rattle.std.proofs.Common.{◌≡◌, inl, inr, ℕ, zero, suc, ◌+◌, Bool, true, false, ◌&&◌, List, [], ◌∷◌, map, length, pos, negsuc, slice_get, slice_set, Option, Some, None, Ok, Err, is_some, refl, sym, ap, subst, ◌∙◌, arith}
use Rattle.std.specs.Prelude.{if◌then◌else◌, nat_eq, nat_le, unwrap_or}
use Rattle.std.proofs.lemmas.Bool.{eqb-false, eqb-true, ne_eqb}
use Rattle.wf_lemmas.proofs.Numbers.{unequal_turned}
use Rattle.wf_model.specs.Config as model
use Rattle.wf_model.specs.Config.{limits}
use Rattle.wf_model.specs.Layers.{Done, Refused, Held, Own, Outside, Nowhere, all_share, assign, assign_at, held, held_in, held_outside, made_new, put_layer, put_outer, put_outside, put_own, within_limits, written}
use Rattle.wf_model.specs.Local.{Local, Outer, Scene, layers_total, outers_total, total}
use Rattle.wf_value.proofs.Order.{in_order_empty}
use Rattle.wf_value.specs.Data.{Data, integer, text, list, map as mapping, items_of, depth, size, pairs_size, pairs_of}
use Rattle.wf_value.specs.Errors.{Answer, ◌>>=◌, or_error}
use Rattle.wf_value.specs.Maps.{IsInOrder, value_at, with_value}
use Rattle.wf_value.specs.Pairs.{Text, get, items, put}
use Rattle.wf_value.specs.declared.Raise.TheVariants as raise
use Rattle.wf_value.specs.declared.Tag.{Tag}
use Rattle.wf_value.specs.declared.Tag.TheVariants.{IndexError, KeyError, ResourceLimitError, TypeError}
use Rattle.wf_scope.specs.Changes.{assigned, assigned_at, bound, bound_to, changed}
use Rattle.wf_scope.specs.Faults.{fault_of, faulted, raised}
use Rattle.wf_scope.specs.Layers.{IsLive, Layer, chain, chain_in, depth_in, find, holder_in, put_at, total_of, variable_size, vars_at, vars_in, with_variable}
use Rattle.wf_scope.specs.Places.{member, with_member}
use Rattle.wf_frames.specs.Tasks as task
use Rattle.wf_frames.specs.Tasks.{AreApart, AreOthers, AssignsAsTasksDo, Far, Holds, OneLayerHolds, SameAnswer, far_layer, far_layers, layer_of, numbers, numbers_seen, own_layers, with_layers}
use Rattle.wf_scope.specs.declared.fault.AssignFault.TheVariants as fault
use Rattle.wf_scope.proofs.Numbers.{find_head, find_tail, found_cases, live_found, number_found}
use Rattle.wf_scope.proofs.Seen.{vars_found}
use Rattle.wf_scope.proofs.Totals.{put_size, put_total}
use Rattle.wf_scope.proofs.Writing.{pairs_listed, written_last, written_more}

-- ## A layer behind a change

other_vars : (k n : ℕ) (x : Text) (u : Data) (ls : List Layer) → nat_eq k n ≡ false → vars_at k (put_at n x u ls) ≡ vars_at k ls
other_vars k n x u [] h = refl
other_vars k n x u (y ∷ ls) h = by (nat_eq y.number n) refl (other_vars k n x u ls h)
  where
    keep : (c : Bool) → vars_at k (put_at n x u ls) ≡ vars_at k ls → vars_in (if c then Some y else find k (put_at n x u ls)) ≡ vars_in (if c then Some y else find k ls)
    keep true later = refl
    keep false later = later

    by : (b : Bool) → nat_eq y.number n ≡ b → vars_at k (put_at n x u ls) ≡ vars_at k ls → vars_at k (if b then with_variable x u y ∷ ls else y ∷ put_at n x u ls) ≡ vars_at k (y ∷ ls)
    by true t later =
        let past : nat_eq y.number k ≡ false = ne_eqb y.number k (λ s. eqb-false k n h (sym s ∙ eqb-true y.number n t)) in
        ap vars_in (find_tail k (with_variable x u y) ls past) ∙ sym (ap vars_in (find_tail k y ls past))
    by false t later = keep (nat_eq y.number k) later

own_vars : (n : ℕ) (x : Text) (u : Data) (ls : List Layer) (l : Layer) → find n ls ≡ Some l → vars_at n (put_at n x u ls) ≡ with_value x u l.vars
own_vars n x u [] l e = cc
own_vars n x u (y ∷ ls) l e = elim (found_cases n y ls l e) [
  | inl h ↦
      let head : put_at n x u (y ∷ ls) ≡ with_variable x u y ∷ ls = ap (λ (b : Bool). if b then with_variable x u y ∷ ls else y ∷ put_at n x u ls) h.0 in
      ap (vars_at n) head ∙ ap vars_in (find_head n (with_variable x u y) ls h.0) ∙ ap (λ (z : Layer). with_value x u z.vars) h.1
  | inr h ↦
      let tail : put_at n x u (y ∷ ls) ≡ y ∷ put_at n x u ls = ap (λ (b : Bool). if b then with_variable x u y ∷ ls else y ∷ put_at n x u ls) h.0 in
      ap (vars_at n) tail ∙ ap vars_in (find_tail n y (put_at n x u ls) h.0) ∙ own_vars n x u ls l h.1
]

-- a layer of these variables, and one outside
abbrev as_layer : Bool → List (Text × Data) → model.Layer
as_layer b ps = record { vars = pairs_of ps; by_call = b }

abbrev as_far : Far → model.Layer → Outer
as_far f y = record { task = f.task; above = f.above; layer = y; shared = f.shared }

module _ (x : Text) (ls : List Layer) where
  -- a layer with a variable, as steps have it
  abbrev put_in : ℕ → Bool → Data → model.Layer
  put_in n b u = record { vars = put x u (pairs_of (vars_at n ls)); by_call = b }

  -- the changed layer
  changed_layer : (n : ℕ) (b : Bool) (u : Data) → IsLive n ls → layer_of n b (put_at n x u ls) ≡ put_in n b u
  changed_layer n b u live =
      let found = live_found n ls live in
      let vars = vars_found n ls found.0 found.1 in
      ap (as_layer b) (own_vars n x u ls found.0 found.1 ∙ ap (with_value x u) (sym vars ∙ sym (pairs_listed (vars_at n ls))))

  -- and any other one
  same_layer : (k n : ℕ) (b : Bool) (u : Data) → nat_eq k n ≡ false → layer_of k b (put_at n x u ls) ≡ layer_of k b ls
  same_layer k n b u h = ap (as_layer b) (other_vars k n x u ls h)

  same_own : (n : ℕ) (u : Data) (os : List task.Own) (fs : List Far) → AreOthers n (numbers os fs) → own_layers os (put_at n x u ls) ≡ own_layers os ls
  same_own n u [] fs h = refl
  same_own n u (o ∷ os) fs h =
      ap (λ y. y ∷ own_layers os (put_at n x u ls)) (same_layer o.number n o.by_call u (unequal_turned n o.number h.0)) ∙ ap (λ ys. layer_of o.number o.by_call ls ∷ ys) (same_own n u os fs h.1)

  far_stays : (f : Far) (n : ℕ) (u : Data) → nat_eq f.number n ≡ false → far_layer f (put_at n x u ls) ≡ far_layer f ls
  far_stays f n u h = ap (as_far f) (same_layer f.number n f.by_call u h)

  same_far : (n : ℕ) (u : Data) (fs : List Far) → AreOthers n (map (λ f. f.number) fs) → far_layers fs (put_at n x u ls) ≡ far_layers fs ls
  same_far n u [] h = refl
  same_far n u (f ∷ fs) h =
      ap (λ y. y ∷ far_layers fs (put_at n x u ls)) (far_stays f n u (unequal_turned n f.number h.0)) ∙ ap (λ ys. far_layer f ls ∷ ys) (same_far n u fs h.1)

  others_far : (n : ℕ) (os : List task.Own) (fs : List Far) → AreOthers n (numbers os fs) → AreOthers n (map (λ f. f.number) fs)
  others_far n [] fs h = h
  others_far n (o ∷ os) fs h = others_far n os fs h.1

  changed_size : (n : ℕ) (u : Data) → IsLive n ls → IsInOrder (vars_at n ls) → pairs_size (pairs_of (vars_at n (put_at n x u ls))) + variable_size x (value_at x (vars_at n ls)) ≡ pairs_size (pairs_of (vars_at n ls)) + (2 + length x + size u)
  changed_size n u live order =
      let found = live_found n ls live in
      let after = own_vars n x u ls found.0 found.1 ∙ ap (with_value x u) (sym (vars_found n ls found.0 found.1)) in
      omega (arith, put_size x u (vars_at n ls) order, ap (λ ps. pairs_size (pairs_of ps)) after)

  has_live : (n : ℕ) (w : Data) → value_at x (vars_at n ls) ≡ Some w → IsLive n ls
  has_live n w h = by (find n ls) refl h
    where
      by : (o : Option Layer) → find n ls ≡ o → value_at x (vars_in o) ≡ Some w → IsLive n ls
      by None e g = cc
      by (Some l) e g = ap is_some e

  -- ## What is found
  -- the innermost layer of some numbers that has the name
  abbrev holder_of : List ℕ → Option ℕ
  holder_of [] = None
  holder_of (n ∷ ns) = elim (value_at x (vars_at n ls)) [ None ↦ holder_of ns | Some v ↦ Some n ]

  -- what a task's layers come to
  abbrev weight : List task.Own → List Far → List Layer → ℕ
  weight os fs ys = layers_total (own_layers os ys) + outers_total (far_layers fs ys)

  -- the layer of this number has the name, and is one of the task's
  record Hit (os : List task.Own) (fs : List Far) (m : ℕ) (w : Data) : Type 0 where
    value : value_at x (vars_at m ls) ≡ Some w
    among : (k : ℕ) → AreOthers k (numbers os fs) → nat_eq k m ≡ false
    sum : (u : Data) → IsInOrder (vars_at m ls) → weight os fs (put_at m x u ls) + (2 + length x + size w) ≡ weight os fs ls + (2 + length x + size u)

  -- where a task finds a name, and the number of that layer
  abbrev Finds : List task.Own → List Far → Held → Option ℕ → Type 0
  Finds os fs Nowhere None = Unit {0}
  Finds os fs (Own j w) (Some m) =
      Hit os fs m w × ((u : Data) → put_layer j x u (own_layers os ls) ≡ own_layers os (put_at m x u ls)) × ((u : Data) → far_layers fs (put_at m x u ls) ≡ far_layers fs ls)
  Finds os fs (Outside j shared w) (Some m) =
      Hit os fs m w × ((u : Data) → put_outer j x u (far_layers fs ls) ≡ far_layers fs (put_at m x u ls)) × ((u : Data) → own_layers os (put_at m x u ls) ≡ own_layers os ls)
  Finds os fs h o = ⊥

  -- the first one
  front_far : (f : Far) (fs : List Far) (u : Data) → IsLive f.number ls → AreOthers f.number (map (λ g. g.number) fs) → put_outer zero x u (far_layers (f ∷ fs) ls) ≡ far_layers (f ∷ fs) (put_at f.number x u ls)
  front_far f fs u live a =
      sym (ap (λ y. as_far f y ∷ far_layers fs (put_at f.number x u ls)) (changed_layer f.number f.by_call u live)
      ∙ ap (λ ys. as_far f (put_in f.number f.by_call u) ∷ ys) (same_far f.number u fs a))

  first_far : (f : Far) (fs : List Far) (w : Data) → value_at x (vars_at f.number ls) ≡ Some w → AreOthers f.number (map (λ g. g.number) fs) → Finds [] (f ∷ fs) (Outside zero f.shared w) (Some f.number)
  first_far f fs w e a =
      let live = has_live f.number w e in (
        record {
          value = e;
          among = λ k h. h.0;
          sum = λ u o. omega (arith, changed_size f.number u live o, ap (variable_size x) e, ap outers_total (same_far f.number u fs a));
        },
        λ u. front_far f fs u live a,
        λ u. refl,
      )

  front_own : (p : task.Own) (os : List task.Own) (fs : List Far) (u : Data) → IsLive p.number ls → AreOthers p.number (numbers os fs) → put_layer zero x u (own_layers (p ∷ os) ls) ≡ own_layers (p ∷ os) (put_at p.number x u ls)
  front_own p os fs u live a =
      sym (ap (λ y. y ∷ own_layers os (put_at p.number x u ls)) (changed_layer p.number p.by_call u live)
      ∙ ap (λ ys. put_in p.number p.by_call u ∷ ys) (same_own p.number u os fs a))

  front_sum : (p : task.Own) (os : List task.Own) (fs : List Far) (u : Data) → IsLive p.number ls → AreOthers p.number (numbers os fs) → IsInOrder (vars_at p.number ls)
      → weight (p ∷ os) fs (put_at p.number x u ls) + variable_size x (value_at x (vars_at p.number ls)) ≡ weight (p ∷ os) fs ls + (2 + length x + size u)
  front_sum p os fs u live a o =
      omega (arith, changed_size p.number u live o, ap layers_total (same_own p.number u os fs a), ap outers_total (same_far p.number u fs (others_far p.number os fs a)))

  first_own : (p : task.Own) (os : List task.Own) (fs : List Far) (w : Data) → value_at x (vars_at p.number ls) ≡ Some w → AreOthers p.number (numbers os fs) → Finds (p ∷ os) fs (Own zero w) (Some p.number)
  first_own p os fs w e a =
      let live = has_live p.number w e in (
        record {
          value = e;
          among = λ k h. h.0;
          sum = λ u o. omega (arith, front_sum p os fs u live a o, ap (variable_size x) e);
        },
        λ u. front_own p os fs u live a,
        λ u. same_far p.number u fs (others_far p.number os fs a),
      )

  -- one further out
  abbrev further : Held → Held
  further (Own j w) = Own (suc j) w
  further h = h

  abbrev past : Held → Held
  past (Outside j shared w) = Outside (suc j) shared w
  past h = h

  outside_past : (n : ℕ) (os : List Outer) → held_outside x (suc n) os ≡ past (held_outside x n os)
  outside_past n [] = refl
  outside_past n (o ∷ os) = by (get x o.layer.vars) (outside_past (suc n) os)
    where
      by : (g : Option Data) → held_outside x (suc (suc n)) os ≡ past (held_outside x (suc n) os)
          → elim g [ Some v ↦ Outside (suc n) o.shared v | None ↦ held_outside x (suc (suc n)) os ] ≡ past (elim g [ Some v ↦ Outside n o.shared v | None ↦ held_outside x (suc n) os ])
      by None later = later
      by (Some v) later = refl

  outside_stays : (n : ℕ) (os : List Outer) → further (held_outside x n os) ≡ held_outside x n os
  outside_stays n [] = refl
  outside_stays n (o ∷ os) = by (get x o.layer.vars) (outside_stays (suc n) os)
    where
      by : (g : Option Data) → further (held_outside x (suc n) os) ≡ held_outside x (suc n) os
          → further (elim g [ Some v ↦ Outside n o.shared v | None ↦ held_outside x (suc n) os ]) ≡ elim g [ Some v ↦ Outside n o.shared v | None ↦ held_outside x (suc n) os ]
      by None later = later
      by (Some v) later = refl

  own_further : (n : ℕ) (ms : List model.Layer) (out : Held) → further out ≡ out → held_in x (suc n) ms out ≡ further (held_in x n ms out)
  own_further n [] out e = sym e
  own_further n (m ∷ ms) out e = by (get x m.vars) m.by_call (own_further (suc n) ms out e)
    where
      by : (g : Option Data) (b : Bool) → held_in x (suc (suc n)) ms out ≡ further (held_in x (suc n) ms out)
          → elim g [ Some v ↦ Own (suc n) v | None ↦ if b then Nowhere else held_in x (suc (suc n)) ms out ] ≡ further (elim g [ Some v ↦ Own n v | None ↦ if b then Nowhere else held_in x (suc n) ms out ])
      by None true later = refl
      by None false later = later
      by (Some v) b later = refl

  grown_far : (f : Far) (fs : List Far) (m : ℕ) (w : Data) → AreOthers f.number (map (λ g. g.number) fs) → Hit [] fs m w → Hit [] (f ∷ fs) m w
  grown_far f fs m w a h = record {
    value = h.value;
    among = λ k b. h.among k b.1;
    sum = λ u o. omega (arith, h.sum u o, ap (λ y. pairs_size y.vars) (same_layer f.number m f.by_call u (h.among f.number a)));
  }

  grow_far : (f : Far) (fs : List Far) (h : Held) (o : Option ℕ) → AreOthers f.number (map (λ g. g.number) fs) → Finds [] fs h o → Finds [] (f ∷ fs) (past h) o
  grow_far f fs Nowhere None a d = tt
  grow_far f fs Nowhere (Some m) a d = absurd d
  grow_far f fs (Own j w) None a d = absurd d
  grow_far f fs (Outside j shared w) None a d = absurd d
  grow_far f fs (Own j w) (Some m) a d =
      (grown_far f fs m w a d.0, d.1, λ u. ap (λ y. y ∷ far_layers fs (put_at m x u ls)) (far_stays f m u (d.0.among f.number a)) ∙ ap (λ ys. far_layer f ls ∷ ys) (d.2 u))
  grow_far f fs (Outside j shared w) (Some m) a d =
      (grown_far f fs m w a d.0, λ u. ap (λ ys. far_layer f ls ∷ ys) (d.1 u) ∙ sym (ap (λ y. y ∷ far_layers fs (put_at m x u ls)) (far_stays f m u (d.0.among f.number a))), d.2)

  grown_own : (p : task.Own) (os : List task.Own) (fs : List Far) (m : ℕ) (w : Data) → AreOthers p.number (numbers os fs) → Hit os fs m w → Hit (p ∷ os) fs m w
  grown_own p os fs m w a h = record {
    value = h.value;
    among = λ k b. h.among k b.1;
    sum = λ u o. omega (arith, h.sum u o, ap (λ y. pairs_size y.vars) (same_layer p.number m p.by_call u (h.among p.number a)));
  }

  grow_own : (p : task.Own) (os : List task.Own) (fs : List Far) (h : Held) (o : Option ℕ) → AreOthers p.number (numbers os fs) → Finds os fs h o → Finds (p ∷ os) fs (further h) o
  grow_own p os fs Nowhere None a d = tt
  grow_own p os fs Nowhere (Some m) a d = absurd d
  grow_own p os fs (Own j w) None a d = absurd d
  grow_own p os fs (Outside j shared w) None a d = absurd d
  grow_own p os fs (Own j w) (Some m) a d =
      (grown_own p os fs m w a d.0, λ u. ap (λ ys. layer_of p.number p.by_call ls ∷ ys) (d.1 u) ∙ sym (ap (λ y. y ∷ own_layers os (put_at m x u ls)) (same_layer p.number m p.by_call u (d.0.among p.number a))), d.2)
  grow_own p os fs (Outside j shared w) (Some m) a d =
      (grown_own p os fs m w a d.0, d.1, λ u. ap (λ y. y ∷ own_layers os (put_at m x u ls)) (same_layer p.number m p.by_call u (d.0.among p.number a)) ∙ ap (λ ys. layer_of p.number p.by_call ls ∷ ys) (d.2 u))

  got : (n : ℕ) (b : Bool) → get x (layer_of n b ls).vars ≡ value_at x (vars_at n ls)
  got n b = ap (value_at x) (pairs_listed (vars_at n ls))

  find_far : (fs : List Far) → AreApart (map (λ f. f.number) fs) → Finds [] fs (held_outside x zero (far_layers fs ls)) (holder_of (map (λ f. f.number) fs))
  find_far [] a = tt
  find_far (f ∷ fs) a =
      subst (λ (g : Option Data). Finds [] (f ∷ fs) (elim g [ Some v ↦ Outside zero f.shared v | None ↦ held_outside x (suc zero) (far_layers fs ls) ]) (holder_of (map (λ g. g.number) (f ∷ fs))))
      (sym (got f.number f.by_call)) (by (value_at x (vars_at f.number ls)) refl (find_far fs a.1))
    where
      by : (g : Option Data) → value_at x (vars_at f.number ls) ≡ g → Finds [] fs (held_outside x zero (far_layers fs ls)) (holder_of (map (λ g. g.number) fs))
          → Finds [] (f ∷ fs) (elim g [ Some v ↦ Outside zero f.shared v | None ↦ held_outside x (suc zero) (far_layers fs ls) ]) (elim g [ None ↦ holder_of (map (λ g. g.number) fs) | Some v ↦ Some f.number ])
      by None e d = subst (λ (h : Held). Finds [] (f ∷ fs) h (holder_of (map (λ g. g.number) fs))) (sym (outside_past zero (far_layers fs ls))) (grow_far f fs (held_outside x zero (far_layers fs ls)) (holder_of (map (λ g. g.number) fs)) a.0 d)
      by (Some w) e d = first_far f fs w e a.0

  find_own : (os : List task.Own) (fs : List Far) → AreApart (numbers os fs) → Finds os fs (held_in x zero (own_layers os ls) (held_outside x zero (far_layers fs ls))) (holder_of (numbers_seen os fs))
  find_own [] fs a = find_far fs a
  find_own (p ∷ os) fs a =
      subst (λ (g : Option Data). Finds (p ∷ os) fs (elim g [ Some v ↦ Own zero v | None ↦ if p.by_call then Nowhere else held_in x (suc zero) (own_layers os ls) (held_outside x zero (far_layers fs ls)) ]) (holder_of (numbers_seen (p ∷ os) fs)))
      (sym (got p.number p.by_call)) (by (value_at x (vars_at p.number ls)) p.by_call refl (find_own os fs a.1))
    where
      by : (g : Option Data) (b : Bool) → value_at x (vars_at p.number ls) ≡ g → Finds os fs (held_in x zero (own_layers os ls) (held_outside x zero (far_layers fs ls))) (holder_of (numbers_seen os fs))
          → Finds (p ∷ os) fs (elim g [ Some v ↦ Own zero v | None ↦ if b then Nowhere else held_in x (suc zero) (own_layers os ls) (held_outside x zero (far_layers fs ls)) ]) (elim g [ None ↦ holder_of (if b then [] else numbers_seen os fs) | Some v ↦ Some p.number ])
      by None true e d = tt
      by None false e d =
          subst (λ (h : Held). Finds (p ∷ os) fs h (holder_of (numbers_seen os fs))) (sym (own_further zero (own_layers os ls) (held_outside x zero (far_layers fs ls)) (outside_stays zero (far_layers fs ls))))
          (grow_own p os fs (held_in x zero (own_layers os ls) (held_outside x zero (far_layers fs ls))) (holder_of (numbers_seen os fs)) a.0 d)
      by (Some w) b e d = first_own p os fs w e a.0

  -- ## The chain
  abbrev AllFound : List Layer → Type 0
  AllFound [] = Unit {0}
  AllFound (c ∷ cs) = (find c.number ls ≡ Some c) × AllFound cs

  chain_found : (d : ℕ) (o : Option ℕ) → AllFound (chain_in d o ls)
  chain_found d None = tt
  chain_found zero (Some n) = tt
  chain_found (suc d) (Some n) = by (find n ls) refl (λ q. chain_found d q)
    where
      by : (g : Option Layer) → find n ls ≡ g → ((q : Option ℕ) → AllFound (chain_in d q ls)) → AllFound (elim g [ None ↦ [] | Some l ↦ l ∷ chain_in d l.outer ls ])
      by None e more = tt
      by (Some l) e more = (ap (λ (k : ℕ). find k ls) (number_found n ls l e) ∙ e, more l.outer)

  holder_found : (cs : List Layer) → AllFound cs → holder_in x cs ≡ holder_of (map (λ l. l.number) cs)
  holder_found [] h = refl
  holder_found (c ∷ cs) h =
      ap {B = Option ℕ} (λ g. elim g [ None ↦ holder_in x cs | Some v ↦ Some c.number ]) (ap (value_at x) (sym (vars_found c.number ls c h.0)))
      ∙ ap {B = Option ℕ} (λ r. elim (value_at x (vars_at c.number ls)) [ None ↦ r | Some v ↦ Some c.number ]) (holder_found cs h.1)

  none_here : (n : ℕ) (ns : List ℕ) → holder_of (n ∷ ns) ≡ None → value_at x (vars_at n ls) ≡ None
  none_here n ns h = by (value_at x (vars_at n ls)) refl h
    where
      by : (g : Option Data) → value_at x (vars_at n ls) ≡ g → ◌≡◌ {A = Option ℕ} (elim g [ None ↦ holder_of ns | Some v ↦ Some n ]) None → value_at x (vars_at n ls) ≡ None
      by None e k = e
      by (Some w) e k = cc

-- ## The tags that places raise
abbrev IsTold : Tag → Type 0
IsTold t = raised (fault_of t) ≡ raise.Error t

told_key : (t : Tag) → KeyError ≡ t → IsTold t
told_key t e = subst IsTold e refl

told_index : (t : Tag) → IndexError ≡ t → IsTold t
told_index t e = subst IsTold e refl

told_type : (t : Tag) → TypeError ≡ t → IsTold t
told_type t e = subst IsTold e refl

found_told : (o : Option Data) (t : Tag) → or_error KeyError o ≡ Err t → IsTold t
found_told None t h = told_key t (cc h)
found_told (Some w) t h = cc

item_told : {B : Type 0} (o : Option Data) (f : Data → B) (t : Tag) → (or_error IndexError o >>= λ w. Ok (f w)) ≡ Err t → IsTold t
item_told None f t h = told_index t (cc h)
item_told (Some w) f t h = cc

member_told : (k v : Data) (t : Tag) → member k v ≡ Err t → IsTold t
member_told (text k) (mapping ps) t h = found_told (get k ps) t h
member_told (integer (pos i)) (list vs) t h = at (slice_get (items vs) i) h
  where
    at : (o : Option Data) → or_error IndexError o ≡ Err t → IsTold t
    at None g = told_index t (cc g)
    at (Some w) g = cc g
member_told (integer (negsuc i)) (list vs) t h = told_index t (cc h)
member_told k v t h = told_type t (cc h)

with_told : (k u v : Data) (t : Tag) → with_member k u v ≡ Err t → IsTold t
with_told (text k) u (mapping ps) t h = cc
with_told (integer (pos i)) u (list vs) t h = item_told (slice_get (items vs) i) (λ w. list (items_of (slice_set (items vs) i u))) t h
with_told (integer (negsuc i)) u (list vs) t h = told_index t (cc h)
with_told k u v t h = told_type t (cc h)

places_told : (path : List Data) (w v : Data) (t : Tag) → written path w v ≡ Err t → IsTold t
places_told [] w v t h = cc
places_told (k ∷ []) w v t h = with_told k v w t (sym (written_last k w v) ∙ h)
places_told (k ∷ j ∷ js) w v t h = by (member k w) refl (sym (written_more k j js w v) ∙ h) (λ z. places_told (j ∷ js) z v t)
  where
    inner : (z : Data) (a : Answer Data) → written (j ∷ js) z v ≡ a → (a >>= λ u. with_member k u w) ≡ Err t → (written (j ∷ js) z v ≡ Err t → IsTold t) → IsTold t
    inner z (Ok u) e g later = with_told k u w t g
    inner z (Err s) e g later = later (e ∙ g)

    by : (a : Answer Data) → member k w ≡ a → (a >>= λ z. written (j ∷ js) z v >>= λ u. with_member k u w) ≡ Err t → ((z : Data) → written (j ∷ js) z v ≡ Err t → IsTold t) → IsTold t
    by (Err s) e g later = member_told k w t (e ∙ g)
    by (Ok z) e g later = inner z (written (j ∷ js) z v) refl g (later z)

made_told : (path : List Data) (v : Data) (t : Tag) → made_new path v ≡ Err t → IsTold t
made_told [] v t h = cc
made_told (k ∷ ks) v t h = told_key t (cc h)

-- ## Assigning
module _ (s : Scene) (t : Local) (o : task.Own) (os : List task.Own) (fs : List Far) (ls : List Layer) (holds : Holds s t o os fs ls) (x : Text) where
  -- the task with these layers
  abbrev standing : List model.Layer → List Outer → Local
  standing ms gs = record t { layers = ms; outer = gs }

  -- the totals, with a variable put into one of the task's layers
  totals : (m : ℕ) (u : Data) (old : ℕ) → IsLive m ls → variable_size x (value_at x (vars_at m ls)) ≡ old → weight x ls (o ∷ os) fs (put_at m x u ls) + old ≡ weight x ls (o ∷ os) fs ls + (2 + length x + size u)
      → total s (with_layers (o ∷ os) fs t (put_at m x u ls)) ≡ total_of (put_at m x u ls)
  totals m u old live was sum =
      let found = live_found m ls live in
      let vars = vars_found m ls found.0 found.1 in
      let put = put_total m x u ls found.0 found.1 (subst (λ ps. IsInOrder ps) vars (holds.order m)) in
      omega (arith, put, sum, was, holds.sum, ap (λ ps. variable_size x (value_at x ps)) vars)

  limited : (b c : Bool) (ys : List Layer) (z : Local) → z ≡ with_layers (o ∷ os) fs t ys
      → SameAnswer (with_layers (o ∷ os) fs t) (if b then (if c then Ok ys else Err fault.TooDeep) else Err fault.TooLarge) (if b && c then Done z else Refused ResourceLimitError)
  limited true true ys z e = e
  limited true false ys z e = refl
  limited false c ys z e = refl

  -- a value within the limits, or past them
  put_same : (m : ℕ) (u : Data) (z : Local) → z ≡ with_layers (o ∷ os) fs t (put_at m x u ls) → total s (with_layers (o ∷ os) fs t (put_at m x u ls)) ≡ total_of (put_at m x u ls)
      → SameAnswer (with_layers (o ∷ os) fs t) (bound (limits s.facts.rules).variables m x u ls) (within_limits s u z)
  put_same m u z e sum =
      subst (λ (k : ℕ). SameAnswer (with_layers (o ∷ os) fs t) (bound (limits s.facts.rules).variables m x u ls) (if nat_le k (limits s.facts.rules).variables && nat_le (depth u) 100 then Done z else Refused ResourceLimitError))
      (sym (ap (total s) e ∙ sum)) (limited (nat_le (total_of (put_at m x u ls)) (limits s.facts.rules).variables) (nat_le (depth u) 100) (put_at m x u ls) z e)

  module _ (path : List Data) (v : Data) where
    inside_same : (j m : ℕ) (w : Data) → Finds x ls (o ∷ os) fs (Own j w) (Some m)
        → SameAnswer (with_layers (o ∷ os) fs t) (assigned_at (limits s.facts.rules).variables m x path v ls) (assign_at s x path v (Own j w) (with_layers (o ∷ os) fs t ls))
    inside_same j m w d =
        subst (λ (g : Option Data). SameAnswer (with_layers (o ∷ os) fs t) (bound_to (limits s.facts.rules).variables m x (faulted (changed g path v)) ls) (put_own s x j (written path w v) (with_layers (o ∷ os) fs t ls)))
        (sym d.0.value) (by (written path w v) refl)
      where
        by : (a : Answer Data) → written path w v ≡ a → SameAnswer (with_layers (o ∷ os) fs t) (bound_to (limits s.facts.rules).variables m x (faulted a) ls) (put_own s x j a (with_layers (o ∷ os) fs t ls))
        by (Err g) e = places_told path w v g e
        by (Ok u) e =
            put_same m u (standing (put_layer j x u (own_layers (o ∷ os) ls)) (far_layers fs ls))
            (ap (λ (ys : List model.Layer). standing ys (far_layers fs ls)) (d.1 u) ∙ sym (ap (λ (ys : List Outer). standing (own_layers (o ∷ os) (put_at m x u ls)) ys) (d.2 u)))
            (totals m u (2 + length x + size w) (has_live x ls m w d.0.value) (ap (variable_size x) d.0.value) (d.0.sum u (holds.order m)))

    outside_same : (j m : ℕ) (shared : List (List Text)) (w : Data) → Finds x ls (o ∷ os) fs (Outside j shared w) (Some m)
        → SameAnswer (with_layers (o ∷ os) fs t) (assigned_at (limits s.facts.rules).variables m x path v ls) (assign_at s x path v (Outside j shared w) (with_layers (o ∷ os) fs t ls))
    outside_same j m shared w d =
        subst (λ (g : Option Data). SameAnswer (with_layers (o ∷ os) fs t) (bound_to (limits s.facts.rules).variables m x (faulted (changed g path v)) ls) (put_outside s x j (all_share x shared) (written path w v) (with_layers (o ∷ os) fs t ls)))
        (sym d.0.value) (by (all_share x shared) (written path w v) refl)
      where
        by : (b : Bool) (a : Answer Data) → written path w v ≡ a → SameAnswer (with_layers (o ∷ os) fs t) (bound_to (limits s.facts.rules).variables m x (faulted a) ls) (put_outside s x j b a (with_layers (o ∷ os) fs t ls))
        by false (Err g) e = places_told path w v g e
        by true (Err g) e = places_told path w v g e
        by false (Ok u) e = tt
        by true (Ok u) e =
            put_same m u (standing (own_layers (o ∷ os) ls) (put_outer j x u (far_layers fs ls)))
            (ap (λ (ys : List Outer). standing (own_layers (o ∷ os) ls) ys) (d.1 u) ∙ sym (ap (λ (ys : List model.Layer). standing ys (far_layers fs (put_at m x u ls))) (d.2 u)))
            (totals m u (2 + length x + size w) (has_live x ls m w d.0.value) (ap (variable_size x) d.0.value) (d.0.sum u (holds.order m)))

    new_same : value_at x (vars_at o.number ls) ≡ None
        → SameAnswer (with_layers (o ∷ os) fs t) (assigned_at (limits s.facts.rules).variables o.number x path v ls) (assign_at s x path v Nowhere (with_layers (o ∷ os) fs t ls))
    new_same none =
        subst (λ (g : Option Data). SameAnswer (with_layers (o ∷ os) fs t) (bound_to (limits s.facts.rules).variables o.number x (faulted (changed g path v)) ls) (put_own s x zero (made_new path v) (with_layers (o ∷ os) fs t ls)))
        (sym none) (by (made_new path v) refl)
      where
        by : (a : Answer Data) → made_new path v ≡ a → SameAnswer (with_layers (o ∷ os) fs t) (bound_to (limits s.facts.rules).variables o.number x (faulted a) ls) (put_own s x zero a (with_layers (o ∷ os) fs t ls))
        by (Err g) e = made_told path v g e
        by (Ok u) e =
            put_same o.number u (standing (put_layer zero x u (own_layers (o ∷ os) ls)) (far_layers fs ls))
            (ap (λ (ys : List model.Layer). standing ys (far_layers fs ls)) (front_own x ls o os fs u holds.live holds.apart.0)
            ∙ sym (ap (λ (ys : List Outer). standing (own_layers (o ∷ os) (put_at o.number x u ls)) ys) (same_far x ls o.number u fs (others_far x ls o.number os fs holds.apart.0))))
            (totals o.number u (variable_size x (value_at x (vars_at o.number ls))) holds.live refl (front_sum x ls o os fs u holds.live holds.apart.0 (holds.order o.number)))

    found_same : (h : Held) (q : Option ℕ) → holder_of x ls (numbers_seen (o ∷ os) fs) ≡ q → Finds x ls (o ∷ os) fs h q
        → SameAnswer (with_layers (o ∷ os) fs t) (assigned_at (limits s.facts.rules).variables (unwrap_or q o.number) x path v ls) (assign_at s x path v h (with_layers (o ∷ os) fs t ls))
    found_same Nowhere None e d = new_same (none_here x ls o.number (if o.by_call then [] else numbers_seen os fs) e)
    found_same Nowhere (Some m) e d = absurd d
    found_same (Own j w) None e d = absurd d
    found_same (Outside j shared w) None e d = absurd d
    found_same (Own j w) (Some m) e d = inside_same j m w d
    found_same (Outside j shared w) (Some m) e d = outside_same j m shared w d

    all_same : SameAnswer (with_layers (o ∷ os) fs t) (assigned (limits s.facts.rules).variables o.number x path v ls) (assign s x path v (with_layers (o ∷ os) fs t ls))
    all_same =
        let holder : holder_in x (chain o.number ls) ≡ holder_of x ls (numbers_seen (o ∷ os) fs) = holder_found x ls (chain o.number ls) (chain_found x ls (suc (depth_in (find o.number ls))) (Some o.number)) ∙ ap (holder_of x ls) holds.sight in
        subst (λ (q : Option ℕ). SameAnswer (with_layers (o ∷ os) fs t) (assigned_at (limits s.facts.rules).variables (unwrap_or q o.number) x path v ls) (assign s x path v (with_layers (o ∷ os) fs t ls)))
        (sym holder) (found_same (held x (with_layers (o ∷ os) fs t ls)) (holder_of x ls (numbers_seen (o ∷ os) fs)) refl (find_own x ls (o ∷ os) fs holds.apart))

pub assigns : AssignsAsTasksDo
assigns s t o os fs ls holds x path v = all_same s t o os fs ls holds x path v

-- ## A store of one layer
pub one_holds : OneLayerHolds
one_holds s t e = record { live = refl; sight = refl; apart = (tt, tt); order = λ n. empty (nat_eq zero n); sum = omega (arith, e) }
  where
    empty : (b : Bool) → IsInOrder (vars_in (if b then Some (record { number = zero; outer = None; depth = zero; vars = [] }) else None))
    empty true = in_order_empty {X = Data} [] refl
    empty false = in_order_empty {X = Data} [] refl
