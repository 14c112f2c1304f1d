-- Layers by number, behind a change of the store.
use Rattle.std.proofs.Common.{◌≡◌, ℕ, Bool, true, false, List, [], ◌∷◌, Option, Some, None, is_some, refl, sym, ap, subst, ◌∙◌, arith}
use Rattle.std.specs.Prelude.{nat_eq, nat_lt, if◌then◌else◌, map as each}
use Rattle.std.proofs.lemmas.Bool.{and_parts, eqb-true, eq-eqb, ne_eqb, ltb-true}
use Rattle.wf_lemmas.proofs.Numbers.{unequal_turned}
use Rattle.wf_frames.specs.Owned.{AreAlone, IsInside, KeysStand, Linked, OnlyInside, OwnStand, first_key, next_own, outer_for}
use Rattle.wf_scope.proofs.Kept.{find_closed}
use Rattle.wf_scope.proofs.Numbers.{find_tail}
use Rattle.wf_scope.specs.Layers.{IsInnermost, IsLive, Layer, all_above, closed, find, is_inside, rises, vars_at, vars_in}
use Rattle.wf_frames.specs.Tasks.{AreOthers, Far, Own, far_layer, far_layers, layer_of, numbers, own_layers}
use Rattle.wf_value.proofs.Order.{in_order_empty}
use Rattle.wf_value.specs.Data.{pairs_of}
use Rattle.wf_value.specs.Maps.{IsInOrder}

-- ## Layers that stay
module _ (old new : List Layer) where
  -- the layer of this number stays
  abbrev pub Stays : ℕ → Type 0
  Stays n = find n new ≡ find n old

  abbrev pub OwnStay : List Own → Type 0
  OwnStay [] = Unit {0}
  OwnStay (o ∷ os) = Stays o.number × OwnStay os

  abbrev pub KeysStay : List Far → Type 0
  KeysStay [] = Unit {0}
  KeysStay (k ∷ ks) = Stays k.number × KeysStay ks

  layer_stays : (n : ℕ) (b : Bool) → Stays n → layer_of n b new ≡ layer_of n b old
  layer_stays n b h = ap (λ g. record { vars = pairs_of (vars_in g); by_call = b }) h

  pub own_same : (os : List Own) → OwnStay os → own_layers os new ≡ own_layers os old
  own_same [] h = refl
  own_same (o ∷ os) h = ap (λ l. l ∷ own_layers os new) (layer_stays o.number o.by_call h.0) ∙ ap (λ ls. layer_of o.number o.by_call old ∷ ls) (own_same os h.1)

  pub keys_same : (ks : List Far) → KeysStay ks → far_layers ks new ≡ far_layers ks old
  keys_same [] h = refl
  keys_same (k ∷ ks) h =
      ap (λ l. record { task = k.task; above = k.above; layer = l; shared = k.shared } ∷ far_layers ks new) (layer_stays k.number k.by_call h.0)
      ∙ ap (λ ls. far_layer k old ∷ ls) (keys_same ks h.1)

  inside_same : (n : ℕ) (o : Option ℕ) → Stays n → IsInside n o old → IsInside n o new
  inside_same n o h i = (i.0, h ∙ i.1, i.2)

  pub own_stand_same : (last : Option ℕ) (os : List Own) → OwnStay os → OwnStand last os old → OwnStand last os new
  own_stand_same last [] h s = tt
  own_stand_same last (o ∷ os) h s = (inside_same o.number (outer_for o.by_call (next_own last os)) h.0 s.0, own_stand_same last os h.1 s.1)

  pub keys_stand_same : (ks : List Far) → KeysStay ks → KeysStand ks old → KeysStand ks new
  keys_stand_same [] h s = tt
  keys_stand_same (k ∷ ks) h s = (inside_same k.number (first_key ks) h.0 s.0, keys_stand_same ks h.1 s.1)

pub inside_live : (n : ℕ) (o : Option ℕ) (ls : List Layer) → IsInside n o ls → IsLive n ls
inside_live n o ls i = ap is_some i.1

-- ## A layer less

own_stay_closed : (n : ℕ) (os : List Own) (ks : List Far) (ls : List Layer) → AreOthers n (numbers os ks) → OwnStay ls (closed n ls) os
own_stay_closed n [] ks ls h = tt
own_stay_closed n (o ∷ os) ks ls h = (find_closed n o.number ls (unequal_turned n o.number h.0), own_stay_closed n os ks ls h.1)

far_stay_closed : (n : ℕ) (ks : List Far) (ls : List Layer) → AreOthers n (each (λ k. k.number) ks) → KeysStay ls (closed n ls) ks
far_stay_closed n [] ls h = tt
far_stay_closed n (k ∷ ks) ls h = (find_closed n k.number ls (unequal_turned n k.number h.0), far_stay_closed n ks ls h.1)

keys_stay_closed : (n : ℕ) (os : List Own) (ks : List Far) (ls : List Layer) → AreOthers n (numbers os ks) → KeysStay ls (closed n ls) ks
keys_stay_closed n [] ks ls h = far_stay_closed n ks ls h
keys_stay_closed n (o ∷ os) ks ls h = keys_stay_closed n os ks ls h.1

-- nothing stands inside the layer
none_inside : (n m : ℕ) (o : Option ℕ) → (o ≡ Some n → None ≡ Some m) → is_inside n o ≡ false
none_inside n m None h = refl
none_inside n m (Some k) h = ne_eqb k n (λ s. let e : None ≡ Some m = h (ap Some s) in absurd (cc e))

pub innermost_is : (n : ℕ) (ls : List Layer) → OnlyInside None n ls → IsInnermost n ls
innermost_is n [] h = tt
innermost_is n (l ∷ ls) h = (none_inside n l.number l.outer h.0, innermost_is n ls h.1)

only_closed : (i : Option ℕ) (p n : ℕ) (ls : List Layer) → OnlyInside i p ls → OnlyInside i p (closed n ls)
only_closed i p n [] h = tt
only_closed i p n (l ∷ ls) h = by (nat_eq l.number n) (only_closed i p n ls h.1)
  where
    by : (b : Bool) → OnlyInside i p (closed n ls) → OnlyInside i p (if b then ls else l ∷ closed n ls)
    by true later = h.1
    by false later = (h.0, later)

-- behind the end of the only one there is none
above_none : (p n : ℕ) (ls : List Layer) → all_above n ls ≡ true → OnlyInside (Some n) p ls → OnlyInside None p ls
above_none p n [] a h = tt
above_none p n (l ∷ ls) a h =
    let two = and_parts (nat_lt n l.number) (all_above n ls) a in
    let less = ltb-true n l.number two.0 in
    (λ e. let same : n ≡ l.number = cc (h.0 e) in absurd (omega (arith, less, same)), above_none p n ls two.1 h.1)

none_closed : (p n : ℕ) (ls : List Layer) → rises ls ≡ true → OnlyInside (Some n) p ls → OnlyInside None p (closed n ls)
none_closed p n [] r h = tt
none_closed p n (l ∷ ls) r h = by (nat_eq l.number n) refl (none_closed p n ls two.1 h.1)
  where
    two : (all_above l.number ls ≡ true) × (rises ls ≡ true)
    two = and_parts (all_above l.number ls) (rises ls) r

    differ : l.number ≡ n → nat_eq l.number n ≡ false → ⊥
    differ e t = let f : true ≡ false = sym (eq-eqb l.number n e) ∙ t in absurd (cc f)

    by : (b : Bool) → nat_eq l.number n ≡ b → OnlyInside None p (closed n ls) → OnlyInside None p (if b then ls else l ∷ closed n ls)
    by true t later = above_none p n ls (subst (λ (m : ℕ). all_above m ls ≡ true) (eqb-true l.number n t) two.0) h.1
    by false t later = (λ e. let same : n ≡ l.number = cc (h.0 e) in absurd (differ (sym same) t), later)

alone_closed : (i : Option ℕ) (os : List Own) (n : ℕ) (ls : List Layer) → AreAlone i os ls → AreAlone i os (closed n ls)
alone_closed i [] n ls h = tt
alone_closed i (o ∷ os) n ls h = (only_closed i o.number n ls h.0, alone_closed (Some o.number) os n ls h.1)

alone_behind : (os : List Own) (n : ℕ) (ls : List Layer) → rises ls ≡ true → AreAlone (Some n) os ls → AreAlone None os (closed n ls)
alone_behind [] n ls r h = tt
alone_behind (o ∷ os) n ls r h = (none_closed o.number n ls r h.0, alone_closed (Some o.number) os n ls h.1)

-- the innermost own layer ends
pub record Closes (ks : List Far) (o : Own) (os : List Own) (ls : List Layer) : Type 0 where
  pub live : IsLive o.number ls
  pub innermost : IsInnermost o.number ls
  pub own : own_layers os (closed o.number ls) ≡ own_layers os ls
  pub outside : far_layers ks (closed o.number ls) ≡ far_layers ks ls
  pub linked : Linked ks os (closed o.number ls)

pub closes : (ks : List Far) (o : Own) (os : List Own) (ls : List Layer) → rises ls ≡ true → Linked ks (o ∷ os) ls → Closes ks o os ls
closes ks o os ls r h =
    let stay = own_stay_closed o.number os ks ls h.apart.0 in
    let keys = keys_stay_closed o.number os ks ls h.apart.0 in
    record {
      live = inside_live o.number (outer_for o.by_call (next_own (first_key ks) os)) ls h.stand.0;
      innermost = innermost_is o.number ls h.alone.0;
      own = own_same ls (closed o.number ls) os stay;
      outside = keys_same ls (closed o.number ls) ks keys;
      linked = record {
        stand = own_stand_same ls (closed o.number ls) (first_key ks) os stay h.stand.1;
        keys = keys_stand_same ls (closed o.number ls) ks keys h.keys;
        apart = h.apart.1;
        alone = alone_behind os o.number ls r h.alone.1;
      };
    }

-- ## Variables in order
above_missing : (n : ℕ) (ls : List Layer) → all_above n ls ≡ true → find n ls ≡ None
above_missing n [] h = refl
above_missing n (l ∷ ls) h =
    let two = and_parts (nat_lt n l.number) (all_above n ls) h in
    let less = ltb-true n l.number two.0 in
    find_tail n l ls (ne_eqb l.number n (λ e. omega (arith, less, e))) ∙ above_missing n ls two.1

closed_gone : (n : ℕ) (ls : List Layer) → rises ls ≡ true → find n (closed n ls) ≡ None
closed_gone n [] r = refl
closed_gone n (l ∷ ls) r = by (nat_eq l.number n) refl (closed_gone n ls two.1)
  where
    two : (all_above l.number ls ≡ true) × (rises ls ≡ true)
    two = and_parts (all_above l.number ls) (rises ls) r

    by : (b : Bool) → nat_eq l.number n ≡ b → find n (closed n ls) ≡ None → find n (if b then ls else l ∷ closed n ls) ≡ None
    by true t later = above_missing n ls (subst (λ (m : ℕ). all_above m ls ≡ true) (eqb-true l.number n t) two.0)
    by false t later = find_tail n l (closed n ls) t ∙ later

pub order_closed : (n : ℕ) (ls : List Layer) → rises ls ≡ true → ((m : ℕ) → IsInOrder (vars_at m ls)) → (m : ℕ) → IsInOrder (vars_at m (closed n ls))
order_closed n ls r h m = by (nat_eq m n) refl
  where
    by : (b : Bool) → nat_eq m n ≡ b → IsInOrder (vars_at m (closed n ls))
    by true t = in_order_empty (vars_at m (closed n ls)) (ap (λ (k : ℕ). vars_in (find k (closed n ls))) (eqb-true m n t) ∙ ap vars_in (closed_gone n ls r))
    by false t = subst (λ ps. IsInOrder ps) (sym (ap vars_in (find_closed n m ls t))) (h m)
