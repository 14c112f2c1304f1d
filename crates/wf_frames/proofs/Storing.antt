-- An assignment in a store, and what it does to a task's layers.
use Rattle.std.proofs.Common.{◌≡◌, inl, inr, ℕ, Bool, true, false, List, [], ◌∷◌, Option, Some, None, Result, Ok, Err, refl, sym, ap, subst, ◌∙◌}
use Rattle.std.specs.Prelude.{nat_eq, nat_le, if◌then◌else◌, ◌⊎◌}
use Rattle.wf_frames.proofs.Owning.{innermost_own}
use Rattle.wf_frames.proofs.Seeing.{sight_is}
use Rattle.wf_frames.proofs.Stores.{inside_live}
use Rattle.wf_frames.proofs.Sums.{SumIs, found_among, put_head, put_tail, sum_put, target_among, total_so}
use Rattle.wf_frames.proofs.Unseen.{among_has, besides_put}
use Rattle.wf_frames.specs.Frames.{owned}
use Rattle.wf_frames.specs.Innermost.{innermost}
use Rattle.wf_frames.specs.Held.{standing}
use Rattle.wf_frames.specs.Owned.{AreAlone, Around, IsInside, IsLinked, KeysStand, Linked, OnlyInside, OwnStand, besides, first_key, held_of, next_own, outer_for}
use Rattle.wf_frames.specs.Turns.{Writes}
use Rattle.wf_frames.specs.declared.frames.Frame.{Frame}
use Rattle.wf_model.specs.Config.{limits}
use Rattle.wf_model.specs.Layers as model
use Rattle.wf_model.specs.Layers.{Assigned, Done, Held, Refused, Undeclared, all_share, assign, assign_at, held, put_outside, put_own, value_of}
use Rattle.wf_model.specs.Local.{Local, Scene, total}
use Rattle.wf_frames.proofs.Assigns.{assigns}
use Rattle.wf_scope.proofs.Numbers.{find_head, find_tail, found_cases}
use Rattle.wf_scope.proofs.Seen.{vars_found}
use Rattle.wf_scope.specs.Changes.{Answers, assigned, bound, bound_to, changed, target}
use Rattle.wf_scope.specs.Faults.{faulted, raised}
use Rattle.wf_scope.specs.Layers.{Layer, all_stand, find, put_at, total_of, vars_at, vars_in, with_variable}
use Rattle.wf_scope.specs.Store.{layers_of}
use Rattle.wf_frames.specs.Tasks.{Far, Own, SameAnswer, numbers}
use Rattle.wf_scope.specs.declared.fault.AssignFault.{AssignFault}
use Rattle.wf_scope.specs.declared.fault.AssignFault.TheVariants as fault
use Rattle.wf_scope.specs.declared.scopes.Scopes.{Scopes}
use Rattle.wf_value.proofs.Order.{in_order_with_value}
use Rattle.wf_value.specs.Data.{Data, depth}
use Rattle.wf_value.specs.Maps.{IsInOrder, value_at}
use Rattle.wf_value.specs.Pairs.{Text}
use Rattle.wf_value.specs.declared.Raise.TheVariants as raise
use Rattle.wf_value.specs.declared.Tag.{Tag}

-- ## A variable is put
module _ (t : ℕ) (x : Text) (u : Data) where
  find_put : (m : ℕ) (ls : List Layer) (l : Layer) → find m ls ≡ Some l → (k : Layer) × (find m (put_at t x u ls) ≡ Some k) × (k.outer ≡ l.outer)
  find_put m [] l e = cc
  find_put m (y ∷ ls) l e = by (nat_eq y.number t) refl (λ q. find_put m ls l q)
    where
      by : (b : Bool) → nat_eq y.number t ≡ b → (find m ls ≡ Some l → (k : Layer) × (find m (put_at t x u ls) ≡ Some k) × (k.outer ≡ l.outer)) → (k : Layer) × (find m (put_at t x u (y ∷ ls)) ≡ Some k) × (k.outer ≡ l.outer)
      by true h later = elim (found_cases m y ls l e) [
        | inl c ↦ (with_variable x u y, ap (find m) (put_head t x u y ls h) ∙ find_head m (with_variable x u y) ls c.0, ap (λ (z : Layer). z.outer) c.1)
        | inr c ↦ (l, ap (find m) (put_head t x u y ls h) ∙ find_tail m (with_variable x u y) ls c.0 ∙ c.1, refl)
      ]
      by false h later = elim (found_cases m y ls l e) [
        | inl c ↦ (y, ap (find m) (put_tail t x u y ls h) ∙ find_head m y (put_at t x u ls) c.0, ap (λ (z : Layer). z.outer) c.1)
        | inr c ↦ let r = later c.1 in (r.0, ap (find m) (put_tail t x u y ls h) ∙ find_tail m y (put_at t x u ls) c.0 ∙ r.1, r.2)
      ]

  inside_put : (n : ℕ) (o : Option ℕ) (ls : List Layer) → IsInside n o ls → IsInside n o (put_at t x u ls)
  inside_put n o ls i = let k = find_put n ls i.0 i.1 in (k.0, k.1, k.2 ∙ i.2)

  own_put : (last : Option ℕ) (os : List Own) (ls : List Layer) → OwnStand last os ls → OwnStand last os (put_at t x u ls)
  own_put last [] ls h = tt
  own_put last (o ∷ os) ls h = (inside_put o.number (outer_for o.by_call (next_own last os)) ls h.0, own_put last os ls h.1)

  keys_put : (ks : List Far) (ls : List Layer) → KeysStand ks ls → KeysStand ks (put_at t x u ls)
  keys_put [] ls h = tt
  keys_put (k ∷ ks) ls h = (inside_put k.number (first_key ks) ls h.0, keys_put ks ls h.1)

  only_put : (i : Option ℕ) (p : ℕ) (ls : List Layer) → OnlyInside i p ls → OnlyInside i p (put_at t x u ls)
  only_put i p [] h = tt
  only_put i p (y ∷ ls) h = by (nat_eq y.number t) (only_put i p ls h.1)
    where
      by : (b : Bool) → OnlyInside i p (put_at t x u ls) → OnlyInside i p (if b then with_variable x u y ∷ ls else y ∷ put_at t x u ls)
      by true later = h
      by false later = (h.0, later)

  alone_put : (i : Option ℕ) (os : List Own) (ls : List Layer) → AreAlone i os ls → AreAlone i os (put_at t x u ls)
  alone_put i [] ls h = tt
  alone_put i (o ∷ os) ls h = (only_put i o.number ls h.0, alone_put (Some o.number) os ls h.1)

  order_put : (m : ℕ) (ls : List Layer) → IsInOrder (vars_at m ls) → IsInOrder (vars_at m (put_at t x u ls))
  order_put m [] h = h
  order_put m (y ∷ ls) h = by (nat_eq y.number t) (order_put m ls)
    where
      head : (c : Bool) → IsInOrder (vars_in (if c then Some y else find m ls)) → IsInOrder (vars_in (if c then Some (with_variable x u y) else find m ls))
      head true o = in_order_with_value x u y.vars o
      head false o = o

      tail : (c : Bool) → (IsInOrder (vars_at m ls) → IsInOrder (vars_at m (put_at t x u ls))) → IsInOrder (vars_in (if c then Some y else find m ls)) → IsInOrder (vars_in (if c then Some y else find m (put_at t x u ls)))
      tail true later o = o
      tail false later o = later o

      by : (b : Bool) → (IsInOrder (vars_at m ls) → IsInOrder (vars_at m (put_at t x u ls))) → IsInOrder (vars_at m (if b then with_variable x u y ∷ ls else y ∷ put_at t x u ls))
      by true later = head (nat_eq y.number m) h
      by false later = tail (nat_eq y.number m) later h

  linked_put : (ks : List Far) (os : List Own) (ls : List Layer) → Linked ks os ls → Linked ks os (put_at t x u ls)
  linked_put ks os ls h = record {
    stand = own_put (first_key ks) os ls h.stand;
    keys = keys_put ks ls h.keys;
    apart = h.apart;
    alone = alone_put None os ls h.alone;
  }

-- ## An assignment
bound_put : (limit n : ℕ) (x : Text) (v : Data) (ls new : List Layer) → bound limit n x v ls ≡ Ok new → new ≡ put_at n x v ls
bound_put limit n x v ls new e = by (nat_le (total_of (put_at n x v ls)) limit) (nat_le (depth v) 100) e
  where
    by : (b c : Bool) → (if b then (if c then Ok (put_at n x v ls) else Err fault.TooDeep) else Err fault.TooLarge) ≡ Ok new → new ≡ put_at n x v ls
    by true true h = cc h
    by true false h = absurd (cc h)
    by false c h = absurd (cc h)

assigned_put : (limit n : ℕ) (x : Text) (path : List Data) (v : Data) (ls new : List Layer) → assigned limit n x path v ls ≡ Ok new → (u : Data) × (new ≡ put_at (target x n ls) x u ls)
assigned_put limit n x path v ls new e = by (faulted (changed (value_at x (vars_at (target x n ls) ls)) path v)) e
  where
    by : (r : Result Data AssignFault) → bound_to limit (target x n ls) x r ls ≡ Ok new → (u : Data) × (new ≡ put_at (target x n ls) x u ls)
    by (Ok u) h = (u, bound_put limit (target x n ls) x u ls new h)
    by (Err f) h = absurd (cc h)

-- the variable's layer is one of the task's
sum_assigned : (a : Around) (o : Own) (os : List Own) (x : Scopes) (name : Text) (u : Data) → all_stand (layers_of x) (layers_of x) ≡ true → IsLinked a (o ∷ os) x
    → SumIs a (o ∷ os) (put_at (target name o.number (layers_of x)) name u (layers_of x))
sum_assigned a o os x name u all h =
    let ls = layers_of x in
    let m = target name o.number ls in
    let among = target_among name o os a.keys ls (sight_is ls all a.keys o os h.layers.stand h.layers.keys) in
    let d = found_among (first_key a.keys) (o ∷ os) a.keys ls m h.layers.stand h.layers.keys among in
    sum_put a (o ∷ os) ls m name u d.0 d.1 (subst (λ ps. IsInOrder ps) (vars_found m ls d.0 d.1) (h.order m)) h.layers.apart among h.sum

-- and so the others stay
unseen_assigned : (a : Around) (o : Own) (os : List Own) (x : Scopes) (name : Text) (u : Data) → all_stand (layers_of x) (layers_of x) ≡ true → IsLinked a (o ∷ os) x
    → besides (numbers (o ∷ os) a.keys) (put_at (target name o.number (layers_of x)) name u (layers_of x)) ≡ a.rest
unseen_assigned a o os x name u all h =
    let ls = layers_of x in
    let m = target name o.number ls in
    let among = target_among name o os a.keys ls (sight_is ls all a.keys o os h.layers.stand h.layers.keys) in
    besides_put m name u (numbers (o ∷ os) a.keys) ls (among_has m (numbers (o ∷ os) a.keys) among) ∙ h.unseen

pub assigned_linked : (a : Around) (first : ℕ) (fs : List Frame) (x y : Scopes) (limit n : ℕ) (name : Text) (path : List Data) (v : Data) → all_stand (layers_of x) (layers_of x) ≡ true → IsLinked a (owned first fs) x → n ≡ innermost first fs
    → assigned limit n name path v (layers_of x) ≡ Ok (layers_of y) → y.limit ≡ x.limit → IsLinked a (owned first fs) y
assigned_linked a first fs x y limit n name path v all h is e l =
    let p = assigned_put limit n name path v (layers_of x) (layers_of y) e in
    let i = innermost_own first fs in
    record {
      layers = subst (λ ls. Linked a.keys (owned first fs) ls) (sym p.1) (linked_put (target name n (layers_of x)) name p.0 a.keys (owned first fs) (layers_of x) h.layers);
      limit = l ∙ h.limit;
      order = λ m. subst (λ ls. IsInOrder (vars_at m ls)) (sym p.1) (order_put (target name n (layers_of x)) name p.0 m (layers_of x) (h.order m));
      unseen = ap (besides (numbers (owned first fs) a.keys)) p.1 ∙ ap (λ os. besides (numbers os a.keys) (put_at (target name n (layers_of x)) name p.0 (layers_of x))) i.is
          ∙ ap (λ (k : ℕ). besides (numbers (i.top ∷ i.rest) a.keys) (put_at (target name k (layers_of x)) name p.0 (layers_of x))) (is ∙ sym i.number)
          ∙ unseen_assigned a i.top i.rest x name p.0 all (subst (λ os. IsLinked a os x) i.is h);
      sum = subst (λ ls. SumIs a (owned first fs) ls) (sym p.1) (subst (λ os. SumIs a os (put_at (target name n (layers_of x)) name p.0 (layers_of x))) (sym i.is)
          (subst (λ (k : ℕ). SumIs a (i.top ∷ i.rest) (put_at (target name k (layers_of x)) name p.0 (layers_of x))) (i.number ∙ sym is)
          (sum_assigned a i.top i.rest x name p.0 all (subst (λ os. IsLinked a os x) i.is h))));
    }

pub same_linked : (a : Around) (os : List Own) (x y : Scopes) → IsLinked a os x → layers_of y ≡ layers_of x → y.limit ≡ x.limit → IsLinked a os y
same_linked a os x y h e l = record {
  layers = subst (λ ls. Linked a.keys os ls) (sym e) h.layers;
  limit = l ∙ h.limit;
  order = λ m. subst (λ ls. IsInOrder (vars_at m ls)) (sym e) (h.order m);
  unseen = ap (besides (numbers os a.keys)) e ∙ h.unseen;
  sum = subst (λ ls. SumIs a os ls) (sym e) h.sum;
}

-- the store's answer is that of the task
pub answers_same : (a : Around) (first : ℕ) (fs : List Frame) (x : Scopes) (n : ℕ) (s : Scene) → all_stand (layers_of x) (layers_of x) ≡ true → IsLinked a (owned first fs) x → n ≡ innermost first fs → (limits s.facts.rules).variables ≡ a.limit
    → s.others ≡ a.others → (name : Text) (path : List Data) (v : Data)
    → SameAnswer (λ ls. standing [] (held_of a.keys (owned first fs) ls)) (assigned x.limit n name path v (layers_of x)) (assign s name path v (standing [] (held_of a.keys (owned first fs) (layers_of x))))
answers_same a first fs x n s all h is limit sum name path v =
    let ls = layers_of x in
    let i = innermost_own first fs in
    let l = subst (λ os. Linked a.keys os ls) i.is h.layers in
    let told = assigns s (standing [] (held_of a.keys (owned first fs) ls)) i.top i.rest a.keys ls (record {
      live = inside_live i.top.number (outer_for i.top.by_call (next_own (first_key a.keys) i.rest)) ls l.stand.0;
      sight = sight_is ls all a.keys i.top i.rest l.stand l.keys;
      apart = l.apart;
      order = h.order;
      sum = ap (λ os. total s (standing [] (held_of a.keys os ls))) (sym i.is) ∙ total_so a (owned first fs) x s h sum;
    }) name path v in
    subst (λ os. SameAnswer (λ ys. standing [] (held_of a.keys os ys)) (assigned x.limit n name path v ls) (assign s name path v (standing [] (held_of a.keys os ls)))) (sym i.is)
    (subst (λ (k : ℕ). SameAnswer (λ ys. standing [] (held_of a.keys (i.top ∷ i.rest) ys)) (assigned x.limit k name path v ls) (assign s name path v (standing [] (held_of a.keys (i.top ∷ i.rest) ls)))) (i.number ∙ sym is)
    (subst (λ (k : ℕ). SameAnswer (λ ys. standing [] (held_of a.keys (i.top ∷ i.rest) ys)) (assigned k i.top.number name path v ls) (assign s name path v (standing [] (held_of a.keys (i.top ∷ i.rest) ls)))) (limit ∙ sym h.limit) told))

-- it is done
pub writes_done : (a : Around) (os : List Own) (ls new : List Layer) (s : Scene) (r : Result (List Layer) AssignFault) (name : Text) (path : List Data) (v : Data) → r ≡ Ok new
    → SameAnswer (λ ys. standing [] (held_of a.keys os ys)) r (assign s name path v (standing [] (held_of a.keys os ls))) → Writes s None (held_of a.keys os ls) name path v (held_of a.keys os new)
writes_done a os ls new s r name path v e h = by (assign s name path v (standing [] (held_of a.keys os ls))) refl (subst (λ q. SameAnswer (λ ys. standing [] (held_of a.keys os ys)) q (assign s name path v (standing [] (held_of a.keys os ls)))) e h)
  where
    by : (m : Assigned) → assign s name path v (standing [] (held_of a.keys os ls)) ≡ m → SameAnswer (λ ys. standing [] (held_of a.keys os ys)) (Ok new) m → Writes s None (held_of a.keys os ls) name path v (held_of a.keys os new)
    by Undeclared p q = inl p
    by (Done t) p q = inr (p ∙ ap Done q)
    by (Refused t) p q = absurd q

-- or refused
pub writes_refused : (a : Around) (os : List Own) (ls new : List Layer) (s : Scene) (r : Result (List Layer) AssignFault) (f : AssignFault) (t : Tag) (name : Text) (path : List Data) (v : Data) → r ≡ Err f → raised f ≡ raise.Error t → new ≡ ls
    → SameAnswer (λ ys. standing [] (held_of a.keys os ys)) r (assign s name path v (standing [] (held_of a.keys os ls))) → Writes s (Some t) (held_of a.keys os ls) name path v (held_of a.keys os new)
writes_refused a os ls new s r f t name path v e g k h =
    (ap (held_of a.keys os) k, by (assign s name path v (standing [] (held_of a.keys os ls))) refl (subst (λ q. SameAnswer (λ ys. standing [] (held_of a.keys os ys)) q (assign s name path v (standing [] (held_of a.keys os ls)))) e h))
  where
    by : (m : Assigned) → assign s name path v (standing [] (held_of a.keys os ls)) ≡ m → SameAnswer (λ ys. standing [] (held_of a.keys os ys)) (Err f) m
        → (assign s name path v (standing [] (held_of a.keys os ls)) ≡ Undeclared) ⊎ (assign s name path v (standing [] (held_of a.keys os ls)) ≡ Refused t)
    by Undeclared p q = inl p
    by (Done u) p q = absurd q
    by (Refused u) p q = let same : u ≡ t = cc (sym q ∙ g) in inr (p ∙ ap Refused same)

-- a fault that raises an error is told
pub refused_is : (f : AssignFault) (t : Tag) (new : List Layer) (r : Result (List Layer) AssignFault) → raised f ≡ raise.Error t → Answers (Err f) new r → r ≡ Err f
refused_is fault.OutOfMemory t new r e h = absurd (cc e)
refused_is fault.MissingKey t new r e h = h
refused_is fault.BadIndex t new r e h = h
refused_is fault.NotAContainer t new r e h = h
refused_is fault.TooLarge t new r e h = h
refused_is fault.TooDeep t new r e h = h

-- ## Places that aren't there
pub refused_walk : (s : Scene) (x : Text) (ks : List Data) (v : Data) (t : Tag) (l : Local) → changed (value_of (held x l)) ks v ≡ Err t → assign s x ks v l ≡ Refused t
refused_walk s x ks v t l e = by (held x l) e
  where
    by : (h : Held) → changed (value_of h) ks v ≡ Err t → assign_at s x ks v h l ≡ Refused t
    by (model.Own n w) q = ap (λ r. put_own s x n r l) q
    by (model.Outside n shared w) q = ap (λ r. put_outside s x n (all_share x shared) r l) q
    by model.Nowhere q = ap (λ r. put_own s x 0 r l) q
