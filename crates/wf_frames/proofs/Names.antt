-- A new layer with names, inside a task's own.
use Rattle.std.proofs.Common.{◌≡◌, ◌<◌, inl, inr, ℕ, ℤ, ◌+◌, Bool, true, false, List, [], ◌∷◌, ◌++◌, Option, Some, None, Result, Ok, Err, refl, sym, ap, subst, ◌∙◌, arith}
use Rattle.std.specs.Prelude.{nat_eq, nat_le, if◌then◌else◌, map as each, OnErr}
use Rattle.std.proofs.lemmas.Bool.{and_parts, eq-eqb, ne_eqb}
use Rattle.wf_frames.proofs.Stores.{OwnStay, KeysStay, Stays, keys_same, keys_stand_same, own_same, own_stand_same}
use Rattle.wf_frames.proofs.Owning.{innermost_own}
use Rattle.wf_frames.proofs.Sums.{SumIs, sum_more, total_so}
use Rattle.wf_frames.proofs.Unseen.{besides_more}
use Rattle.wf_frames.specs.Frames.{own, owned}
use Rattle.wf_frames.specs.Innermost.{innermost}
use Rattle.wf_frames.specs.Held.{Held, standing}
use Rattle.wf_frames.specs.Owned.{AreAlone, Around, IsInside, IsLinked, KeysStand, Linked, OnlyInside, OwnStand, besides, first_key, held_of, next_own, outer_for}
use Rattle.wf_frames.specs.Turns.{Enters, bound_all, names_of}
use Rattle.wf_frames.specs.declared.frames.Frame.{Frame}
use Rattle.wf_model.specs.Config.{limits}
use Rattle.wf_model.specs.Local.{Scene, layers_total, outers_total, total}
use Rattle.wf_model.specs.Layers as model
use Rattle.wf_scope.proofs.Kept.{find_more}
use Rattle.wf_scope.proofs.Numbers.{find_head, find_tail, found_cases, number_found}
use Rattle.wf_scope.proofs.Seen.{outside}
use Rattle.wf_scope.proofs.Writing.{pairs_listed}
use Rattle.wf_scope.specs.Changes.{Answers, bound}
use Rattle.wf_scope.specs.Layers.{Layer, all_stand, closed, find, fresh, opened, put_at, stands, total_of, vars_at, vars_in, with_variable}
use Rattle.wf_scope.specs.Store.{layers_of}
use Rattle.wf_frames.specs.Tasks.{AreOthers, Far, Own, far_layers, numbers, own_layers}
use Rattle.wf_scope.specs.declared.fault.AssignFault.{AssignFault}
use Rattle.wf_scope.specs.declared.fault.AssignFault.TheVariants as fault
use Rattle.wf_scope.specs.declared.scopes.Scopes.{Scopes}
use Rattle.wf_value.proofs.Order.{in_order_empty, in_order_with_value}
use Rattle.wf_value.specs.Data.{Data, Pairs, depth, integer, no_pairs, pairs_of, pairs_size}
use Rattle.wf_value.specs.Errors.{Answer}
use Rattle.wf_value.specs.Maps.{IsInOrder, with_value}
use Rattle.wf_value.specs.Pairs.{Text, pair_list, put}
use Rattle.wf_value.specs.declared.Tag.TheVariants.{ResourceLimitError}

-- ## A layer behind all others
below : (o : ℕ) (ls : List Layer) (l : Layer) → find o ls ≡ Some l → o < fresh ls
below o [] l e = cc
below o (x ∷ ls) l e = elim (found_cases o x ls l e) [
  | inl h ↦ omega (arith, ap (λ (y : Layer). y.number) h.1, number_found o (x ∷ ls) l e)
  | inr h ↦ omega (arith, below o ls l h.1)
]

pub fresh_none : (ls : List Layer) → find (fresh ls) ls ≡ None
fresh_none ls = by (find (fresh ls) ls) refl
  where
    by : (o : Option Layer) → find (fresh ls) ls ≡ o → o ≡ None
    by None e = refl
    by (Some l) e = let lt = below (fresh ls) ls l e in absurd (omega (arith, lt))

-- the first of some layers isn't the one that is missing
other_first : (n : ℕ) (y : Layer) (ls : List Layer) → find n (y ∷ ls) ≡ None → nat_eq y.number n ≡ false
other_first n y ls h = by (nat_eq y.number n) refl
  where
    by : (b : Bool) → nat_eq y.number n ≡ b → b ≡ false
    by true t = absurd (cc (sym (find_head n y ls t) ∙ h))
    by false t = refl

other_rest : (n : ℕ) (y : Layer) (ls : List Layer) → find n (y ∷ ls) ≡ None → find n ls ≡ None
other_rest n y ls h = sym (find_tail n y ls (other_first n y ls h)) ∙ h

module _ (n : ℕ) (l : Layer) (is : l.number ≡ n) where
  pub put_last : (x : Text) (v : Data) (ls : List Layer) → find n ls ≡ None → put_at n x v (ls ++ l ∷ []) ≡ ls ++ with_variable x v l ∷ []
  put_last x v [] h = ap (λ (b : Bool). if b then with_variable x v l ∷ [] else l ∷ []) (eq-eqb l.number n is)
  put_last x v (y ∷ ls) h =
      ap (λ (b : Bool). if b then with_variable x v y ∷ (ls ++ l ∷ []) else y ∷ put_at n x v (ls ++ l ∷ [])) (other_first n y ls h)
      ∙ ap (λ ys. y ∷ ys) (put_last x v ls (other_rest n y ls h))

  pub closed_last : (ls : List Layer) → find n ls ≡ None → closed n (ls ++ l ∷ []) ≡ ls
  closed_last [] h = ap (λ (b : Bool). if b then [] else l ∷ []) (eq-eqb l.number n is)
  closed_last (y ∷ ls) h =
      ap (λ (b : Bool). if b then ls ++ l ∷ [] else y ∷ closed n (ls ++ l ∷ [])) (other_first n y ls h) ∙ ap (λ ys. y ∷ ys) (closed_last ls (other_rest n y ls h))

  pub find_last : (ls : List Layer) → find n ls ≡ None → find n (ls ++ l ∷ []) ≡ Some l
  find_last [] h = find_head n l [] (eq-eqb l.number n is)
  find_last (y ∷ ls) h = find_tail n y (ls ++ l ∷ []) (other_first n y ls h) ∙ find_last ls (other_rest n y ls h)

total_last : (ls : List Layer) (l : Layer) → total_of (ls ++ l ∷ []) ≡ total_of ls + pairs_size (pairs_of l.vars)
total_last [] l = omega arith
total_last (y ∷ ls) l = omega (arith, total_last ls l)

-- a variable that is put goes with its layer
pub closed_put : (n : ℕ) (x : Text) (v : Data) (ls : List Layer) → closed n (put_at n x v ls) ≡ closed n ls
closed_put n x v [] = refl
closed_put n x v (y ∷ ls) = by (nat_eq y.number n) refl (closed_put n x v ls)
  where
    by : (b : Bool) → nat_eq y.number n ≡ b → closed n (put_at n x v ls) ≡ closed n ls → closed n (if b then with_variable x v y ∷ ls else y ∷ put_at n x v ls) ≡ closed n (y ∷ ls)
    by true t later = ap (λ (c : Bool). if c then ls else with_variable x v y ∷ closed n ls) t ∙ sym (ap (λ (c : Bool). if c then ls else y ∷ closed n ls) t)
    by false t later =
        ap (λ (c : Bool). if c then put_at n x v ls else y ∷ closed n (put_at n x v ls)) t ∙ ap (λ zs. y ∷ zs) later ∙ sym (ap (λ (c : Bool). if c then ls else y ∷ closed n ls) t)

-- ## Names
module _ (limit f : ℕ) (ls : List Layer) (none : find f ls ≡ None) where
  bound_one : (x : Text) (v : Data) (l : Layer) → l.number ≡ f
      → bound limit f x v (ls ++ l ∷ []) ≡ (if nat_le (total_of ls + pairs_size (pairs_of (with_value x v l.vars))) limit then (if nat_le (depth v) 100 then Ok (ls ++ with_variable x v l ∷ []) else Err fault.TooDeep) else Err fault.TooLarge)
  bound_one x v l is =
      ap (λ ys. if nat_le (total_of ys) limit then (if nat_le (depth v) 100 then Ok ys else Err fault.TooDeep) else Err fault.TooLarge) (put_last f l is x v ls none)
      ∙ ap (λ (t : ℕ). if nat_le t limit then (if nat_le (depth v) 100 then Ok (ls ++ with_variable x v l ∷ []) else Err fault.TooDeep) else Err fault.TooLarge) (total_last ls (with_variable x v l))

  -- a layer behind the others, with these variables
  pub record Last (outer : Option ℕ) (ms : List Layer) (ps : Pairs) : Type 0 where
    pub layer : Layer
    pub is : ms ≡ ls ++ layer ∷ []
    pub number : layer.number ≡ f
    pub inside : layer.outer ≡ outer
    pub vars : pairs_of layer.vars ≡ ps
    pub order : IsInOrder layer.vars

  -- the same names fit into the layer and into one of the model
  abbrev pub Same : Option ℕ → Result (List Layer) AssignFault → Answer Pairs → Type 0
  Same outer (Ok ms) r = (ps : Pairs) × (r ≡ Ok ps) × Last outer ms ps
  Same outer (Err fault.TooLarge) r = r ≡ Err ResourceLimitError
  Same outer (Err g) r = Unit {0}

  put_same : (x : Text) (v : Data) (qs : List (Text × Data)) (ps : Pairs) → pairs_of qs ≡ ps → pairs_of (with_value x v qs) ≡ put x v ps
  put_same x v qs ps e = ap (λ ys. pairs_of (with_value x v ys)) (sym (pairs_listed qs) ∙ ap pair_list e)

  pub names_bound : (xs : List (Text × Data)) (outer : Option ℕ) (ms : List Layer) (ps : Pairs) → Last outer ms ps → Same outer (bound_all limit f xs ms) (model.bound limit (total_of ls) xs ps)
  names_bound [] outer ms ps h = (ps, refl, h)
  names_bound (x ∷ xs) outer ms ps h =
      let l = h.layer in
      let vars = put_same x.0 x.1 l.vars ps h.vars in
      let size : pairs_size (pairs_of (with_value x.0 x.1 l.vars)) ≡ pairs_size (put x.0 x.1 ps) = ap pairs_size vars in
      subst (λ r. Same outer (elim r [ Ok zs ↦ bound_all limit f xs zs | Err g ↦ Err g ]) (model.bound limit (total_of ls) (x ∷ xs) ps))
      (sym (ap (bound limit f x.0 x.1) h.is ∙ bound_one x.0 x.1 l h.number ∙ ap (λ (k : ℕ). if nat_le (total_of ls + k) limit then (if nat_le (depth x.1) 100 then Ok (ls ++ with_variable x.0 x.1 l ∷ []) else Err fault.TooDeep) else Err fault.TooLarge) size))
      (by (nat_le (total_of ls + pairs_size (put x.0 x.1 ps)) limit) (nat_le (depth x.1) 100)
      (names_bound xs outer (ls ++ with_variable x.0 x.1 l ∷ []) (put x.0 x.1 ps) (record { layer = with_variable x.0 x.1 l; is = refl; number = h.number; inside = h.inside; vars = vars; order = in_order_with_value x.0 x.1 l.vars h.order })))
    where
      by : (b c : Bool) → Same outer (bound_all limit f xs (ls ++ with_variable x.0 x.1 h.layer ∷ [])) (model.bound limit (total_of ls) xs (put x.0 x.1 ps))
          → Same outer (elim (if b then (if c then Ok (ls ++ with_variable x.0 x.1 h.layer ∷ []) else Err fault.TooDeep) else Err fault.TooLarge) [ Ok zs ↦ bound_all limit f xs zs | Err g ↦ Err g ]) (if b then model.bound limit (total_of ls) xs (put x.0 x.1 ps) else Err ResourceLimitError)
      by true true later = later
      by true false later = tt
      by false c later = refl

-- ## Links
module _ (ls : List Layer) (l : Layer) where
  stays_more : (n : ℕ) (o : Option ℕ) → IsInside n o ls → Stays ls (ls ++ l ∷ []) n
  stays_more n o i = find_more n ls (l ∷ []) i.0 i.1 ∙ sym i.1

  pub own_stay_more : (last : Option ℕ) (os : List Own) → OwnStand last os ls → OwnStay ls (ls ++ l ∷ []) os
  own_stay_more last [] h = tt
  own_stay_more last (o ∷ os) h = (stays_more o.number (outer_for o.by_call (next_own last os)) h.0, own_stay_more last os h.1)

  pub keys_stay_more : (ks : List Far) → KeysStand ks ls → KeysStay ls (ls ++ l ∷ []) ks
  keys_stay_more [] h = tt
  keys_stay_more (k ∷ ks) h = (stays_more k.number (first_key ks) h.0, keys_stay_more ks h.1)

order_last : (ls : List Layer) (l : Layer) → IsInOrder l.vars → (m : ℕ) → IsInOrder (vars_at m ls) → IsInOrder (vars_at m (ls ++ l ∷ []))
order_last [] l o m h = by (nat_eq l.number m)
  where
    by : (b : Bool) → IsInOrder (vars_in (if b then Some l else None))
    by true = o
    by false = h
order_last (y ∷ ls) l o m h = by (nat_eq y.number m) (order_last ls l o m) h
  where
    by : (b : Bool) → (IsInOrder (vars_at m ls) → IsInOrder (vars_at m (ls ++ l ∷ []))) → IsInOrder (vars_in (if b then Some y else find m ls)) → IsInOrder (vars_in (if b then Some y else find m (ls ++ l ∷ [])))
    by true later g = g
    by false later g = later g

-- a live number isn't the new one
other_number : (n : ℕ) (o : Option ℕ) (ls : List Layer) → IsInside n o ls → nat_eq (fresh ls) n ≡ false
other_number n o ls i = let lt = below n ls i.0 i.1 in ne_eqb (fresh ls) n (λ e. omega (arith, lt, e))

others_far : (ks : List Far) (ls : List Layer) → KeysStand ks ls → AreOthers (fresh ls) (each (λ k. k.number) ks)
others_far [] ls h = tt
others_far (k ∷ ks) ls h = (other_number k.number (first_key ks) ls h.0, others_far ks ls h.1)

others_own : (last : Option ℕ) (os : List Own) (ks : List Far) (ls : List Layer) → OwnStand last os ls → KeysStand ks ls → AreOthers (fresh ls) (numbers os ks)
others_own last [] ks ls h k = others_far ks ls k
others_own last (o ∷ os) ks ls h k = (other_number o.number (outer_for o.by_call (next_own last os)) ls h.0, others_own last os ks ls h.1 k)

only_more : (i : Option ℕ) (p : ℕ) (ls : List Layer) (l : Layer) → OnlyInside i p ls → (l.outer ≡ Some p → i ≡ Some l.number) → OnlyInside i p (ls ++ l ∷ [])
only_more i p [] l h e = (e, tt)
only_more i p (y ∷ ls) l h e = (h.0, only_more i p ls l h.1 e)

-- nothing stands inside a number that isn't live
none_missing : (f : ℕ) (ls rest : List Layer) → find f ls ≡ None → all_stand ls rest ≡ true → OnlyInside None f rest
none_missing f ls [] none h = tt
none_missing f ls (y ∷ rest) none h =
    let two = and_parts (stands y.outer y.depth ls) (all_stand ls rest) h in
    (λ e. let there = outside f y.depth ls (ap (λ o. stands o y.depth ls) (sym e) ∙ two.0) in absurd (cc (sym none ∙ there.1)), none_missing f ls rest none two.1)

-- what has none inside has at most any
none_any : (i : Option ℕ) (p : ℕ) (ls : List Layer) → OnlyInside None p ls → OnlyInside i p ls
none_any i p [] h = tt
none_any i p (y ∷ ls) h = (λ e. let n : None ≡ Some y.number = h.0 e in absurd (cc n), none_any i p ls h.1)

alone_more : (i : Option ℕ) (o : ℕ) (os : List Own) (ks : List Far) (ls : List Layer) (l : Layer) → ((q : ℕ) → l.outer ≡ Some q → o ≡ q) → AreOthers o (numbers os ks) → AreAlone i os ls → AreAlone i os (ls ++ l ∷ [])
alone_more i o [] ks ls l e a h = tt
alone_more i o (p ∷ os) ks ls l e a h =
    (only_more i p.number ls l h.0 (λ q. let same : o ≡ p.number = e p.number q in absurd (let t : true ≡ false = sym (eq-eqb o p.number same) ∙ a.0 in cc t)), alone_more (Some p.number) o os ks ls l e a.1 h.1)

-- it stands in the layer of this number, or in none
stands_in : (b : Bool) (o : ℕ) (l : Layer) → l.outer ≡ outer_for b (Some o) → (q : ℕ) → l.outer ≡ Some q → o ≡ q
stands_in true o l e q h = let n : None ≡ Some q = sym e ∙ h in absurd (cc n)
stands_in false o l e q h = cc (sym e ∙ h)

pub record Links (ks : List Far) (os : List Own) (b : Bool) (ls : List Layer) (l : Layer) : Type 0 where
  pub linked : Linked ks (own l.number b ∷ os) (ls ++ l ∷ [])
  pub own_layers_are : own_layers os (ls ++ l ∷ []) ≡ own_layers os ls
  pub far_layers_are : far_layers ks (ls ++ l ∷ []) ≡ far_layers ks ls

pub linked_in : (ks : List Far) (o : Own) (os : List Own) (b : Bool) (ls : List Layer) (l : Layer) → all_stand ls ls ≡ true → Linked ks (o ∷ os) ls → l.number ≡ fresh ls → l.outer ≡ outer_for b (Some o.number) → Links ks (o ∷ os) b ls l
linked_in ks o os b ls l r h n e =
    let none : find l.number ls ≡ None = ap (λ (m : ℕ). find m ls) n ∙ fresh_none ls in
    let stay = own_stay_more ls l (first_key ks) (o ∷ os) h.stand in
    let keys = keys_stay_more ls l ks h.keys in
    let there = below o.number ls h.stand.0.0 h.stand.0.1 in
    record {
      linked = record {
        stand = ((l, find_last l.number l refl ls none, e), own_stand_same ls (ls ++ l ∷ []) (first_key ks) (o ∷ os) stay h.stand);
        keys = keys_stand_same ls (ls ++ l ∷ []) ks keys h.keys;
        apart = (subst (λ (m : ℕ). AreOthers m (numbers (o ∷ os) ks)) (sym n) (others_own (first_key ks) (o ∷ os) ks ls h.stand h.keys), h.apart);
        alone = (
          only_more None l.number ls l (none_missing l.number ls ls none r) (λ q. let same : o.number ≡ l.number = stands_in b o.number l e l.number q in absurd (omega (arith, there, same, n))),
          (only_more (Some l.number) o.number ls l (none_any (Some l.number) o.number ls h.alone.0) (λ q. refl), alone_more (Some o.number) o.number os ks ls l (stands_in b o.number l e) h.apart.0 h.alone.1),
        );
      };
      own_layers_are = own_same ls (ls ++ l ∷ []) (o ∷ os) stay;
      far_layers_are = keys_same ls (ls ++ l ∷ []) ks keys;
    }

-- ## A layer of names
module _ (a : Around) (p : ℕ) (fs : List Frame) (x : Scopes) (o d : ℕ) (b : Bool) (xs : List (Text × Data)) (all : all_stand (layers_of x) (layers_of x) ≡ true) (h : IsLinked a (owned p fs) x) (is : o ≡ innermost p fs) where
  begun : Last x.limit (fresh (layers_of x)) (layers_of x) (fresh_none (layers_of x)) (outer_for b (Some o)) (opened (outer_for b (Some o)) d (layers_of x)) no_pairs
  begun = record { layer = record { number = fresh (layers_of x); outer = outer_for b (Some o); depth = d; vars = [] }; is = refl; number = refl; inside = refl; vars = refl; order = in_order_empty {X = Data} [] refl }

  bound_so : Same x.limit (fresh (layers_of x)) (layers_of x) (fresh_none (layers_of x)) (outer_for b (Some o)) (bound_all x.limit (fresh (layers_of x)) xs (opened (outer_for b (Some o)) d (layers_of x))) (model.bound x.limit (total_of (layers_of x)) xs no_pairs)
  bound_so = names_bound x.limit (fresh (layers_of x)) (layers_of x) (fresh_none (layers_of x)) xs (outer_for b (Some o)) (opened (outer_for b (Some o)) d (layers_of x)) no_pairs begun

  pub told_so : (limit n : ℕ) (ms : List Layer) (r : Result (List Layer) AssignFault) → limit ≡ x.limit → n ≡ fresh (layers_of x) → ms ≡ opened (outer_for b (Some o)) d (layers_of x) → bound_all limit n xs ms ≡ r
      → bound_all x.limit (fresh (layers_of x)) xs (opened (outer_for b (Some o)) d (layers_of x)) ≡ r
  told_so limit n ms r l e m t =
      sym (ap (λ (k : ℕ). bound_all k n xs ms) l ∙ ap (λ (k : ℕ). bound_all x.limit k xs ms) e ∙ ap (bound_all x.limit (fresh (layers_of x)) xs) m) ∙ t

  -- the model's layer is bound within the same limit
  opened_so : (s : Scene) → (limits s.facts.rules).variables ≡ a.limit → s.others ≡ a.others
      → model.opened s (standing [] (held_of a.keys (owned p fs) (layers_of x))) xs ≡ model.bound x.limit (total_of (layers_of x)) xs no_pairs
  opened_so s lim sum = ap (λ (k : ℕ). model.bound k (total s (standing [] (held_of a.keys (owned p fs) (layers_of x)))) xs no_pairs) (lim ∙ sym h.limit) ∙ ap (λ (k : ℕ). model.bound x.limit k xs no_pairs) (total_so a (owned p fs) x s h sum)

  -- the names fit
  module _ (y : Scopes) (told : bound_all x.limit (fresh (layers_of x)) xs (opened (outer_for b (Some o)) d (layers_of x)) ≡ Ok (layers_of y)) (limit : y.limit ≡ x.limit) where
    fitted : Same x.limit (fresh (layers_of x)) (layers_of x) (fresh_none (layers_of x)) (outer_for b (Some o)) (Ok (layers_of y)) (model.bound x.limit (total_of (layers_of x)) xs no_pairs)
    fitted = subst (λ r. Same x.limit (fresh (layers_of x)) (layers_of x) (fresh_none (layers_of x)) (outer_for b (Some o)) r (model.bound x.limit (total_of (layers_of x)) xs no_pairs)) told bound_so

    links : Links a.keys (owned p fs) b (layers_of x) fitted.2.layer
    links =
        let i = innermost_own p fs in
        subst (λ os. Links a.keys os b (layers_of x) fitted.2.layer) (sym i.is)
        (linked_in a.keys i.top i.rest b (layers_of x) fitted.2.layer all (subst (λ os. Linked a.keys os (layers_of x)) i.is h.layers) fitted.2.number (fitted.2.inside ∙ ap (λ (k : ℕ). outer_for b (Some k)) (is ∙ sym i.number)))

    last_vars : vars_at (fresh (layers_of x)) (layers_of x ++ fitted.2.layer ∷ []) ≡ fitted.2.layer.vars
    last_vars =
        let none : find fitted.2.layer.number (layers_of x) ≡ None = ap (λ (n : ℕ). find n (layers_of x)) fitted.2.number ∙ fresh_none (layers_of x) in
        ap (λ (n : ℕ). vars_at n (layers_of x ++ fitted.2.layer ∷ [])) (sym fitted.2.number) ∙ ap vars_in (find_last fitted.2.layer.number fitted.2.layer refl (layers_of x) none)

    pub entered_linked : IsLinked a (own (fresh (layers_of x)) b ∷ owned p fs) y
    entered_linked = record {
      layers = subst (λ ls. Linked a.keys (own (fresh (layers_of x)) b ∷ owned p fs) ls) (sym fitted.2.is) (subst (λ (n : ℕ). Linked a.keys (own n b ∷ owned p fs) (layers_of x ++ fitted.2.layer ∷ [])) fitted.2.number links.linked);
      limit = limit ∙ h.limit;
      order = λ m. subst (λ ls. IsInOrder (vars_at m ls)) (sym fitted.2.is) (order_last (layers_of x) fitted.2.layer fitted.2.order m (h.order m));
      unseen = ap (besides (fresh (layers_of x) ∷ numbers (owned p fs) a.keys)) fitted.2.is ∙ besides_more (fresh (layers_of x)) (numbers (owned p fs) a.keys) (layers_of x) fitted.2.layer fitted.2.number (fresh_none (layers_of x)) ∙ h.unseen;
      sum = subst (λ ls. SumIs a (own (fresh (layers_of x)) b ∷ owned p fs) ls) (sym fitted.2.is)
          (sum_more (pairs_size (pairs_of (vars_at (fresh (layers_of x)) (layers_of x ++ fitted.2.layer ∷ [])))) (layers_total (own_layers (owned p fs) (layers_of x))) (outers_total (far_layers a.keys (layers_of x))) a.others (total_of (layers_of x))
          (layers_total (own_layers (owned p fs) (layers_of x ++ fitted.2.layer ∷ []))) (outers_total (far_layers a.keys (layers_of x ++ fitted.2.layer ∷ []))) (total_of (layers_of x ++ fitted.2.layer ∷ []))
          h.sum (total_last (layers_of x) fitted.2.layer ∙ ap (λ ps. total_of (layers_of x) + pairs_size (pairs_of ps)) (sym last_vars)) (ap layers_total links.own_layers_are) (ap outers_total links.far_layers_are));
    }

    pub entered_so : (s : Scene) → (limits s.facts.rules).variables ≡ a.limit → s.others ≡ a.others
        → Enters b s (Some (fresh (layers_of x))) (held_of a.keys (owned p fs) (layers_of x)) xs (held_of a.keys (own (fresh (layers_of x)) b ∷ owned p fs) (layers_of y))
    entered_so s lim sum =
        let new = layers_of x ++ fitted.2.layer ∷ [] in
        let vars : pairs_of (vars_at (fresh (layers_of x)) new) ≡ fitted.0 = ap pairs_of last_vars ∙ fitted.2.vars in (
          fitted.0,
          opened_so s lim sum ∙ fitted.1,
          ap (held_of a.keys (own (fresh (layers_of x)) b ∷ owned p fs)) fitted.2.is
              ∙ ap {B = Held} (λ (ps : Pairs). record { own = record { vars = ps; by_call = b } ∷ own_layers (owned p fs) new; outside = far_layers a.keys new }) vars
              ∙ ap {B = Held} (λ os. record { own = record { vars = fitted.0; by_call = b } ∷ os; outside = far_layers a.keys new }) links.own_layers_are
              ∙ ap {B = Held} (λ os. record { own = record { vars = fitted.0; by_call = b } ∷ own_layers (owned p fs) (layers_of x); outside = os }) links.far_layers_are,
        )

  -- they don't
  pub refused_so : (y : Scopes) → bound_all x.limit (fresh (layers_of x)) xs (opened (outer_for b (Some o)) d (layers_of x)) ≡ Err fault.TooLarge → layers_of y ≡ layers_of x → (s : Scene) → (limits s.facts.rules).variables ≡ a.limit
      → s.others ≡ a.others → Enters b s None (held_of a.keys (owned p fs) (layers_of x)) xs (held_of a.keys (owned p fs) (layers_of y))
  refused_so y told same s lim sum =
      (opened_so s lim sum ∙ subst (λ r. Same x.limit (fresh (layers_of x)) (layers_of x) (fresh_none (layers_of x)) (outer_for b (Some o)) r (model.bound x.limit (total_of (layers_of x)) xs no_pairs)) told bound_so, ap (held_of a.keys (owned p fs)) same)

  -- the layer goes again
  pub closed_again : (ms : List Layer) → closed (fresh (layers_of x)) ms ≡ closed (fresh (layers_of x)) (opened (outer_for b (Some o)) d (layers_of x)) → closed (fresh (layers_of x)) ms ≡ layers_of x
  closed_again ms e = e ∙ closed_last (fresh (layers_of x)) (record { number = fresh (layers_of x); outer = outer_for b (Some o); depth = d; vars = [] }) refl (layers_of x) (fresh_none (layers_of x))

  pub again_so : (n : ℕ) (ms new last : List Layer) → n ≡ fresh (layers_of x) → ms ≡ opened (outer_for b (Some o)) d (layers_of x) → last ≡ closed n new → closed n new ≡ closed n ms → last ≡ layers_of x
  again_so n ms new last e m l c =
      l ∙ ap (λ (k : ℕ). closed k new) e ∙ closed_again new (sym (ap (λ (k : ℕ). closed k new) e) ∙ c ∙ ap (λ (k : ℕ). closed k ms) e ∙ ap (closed (fresh (layers_of x))) m)

-- ## One name after another
pub bound_closed : (limit n : ℕ) (x : Text) (v : Data) (ls mid : List Layer) → bound limit n x v ls ≡ Ok mid → closed n mid ≡ closed n ls
bound_closed limit n x v ls mid e = by (nat_le (total_of (put_at n x v ls)) limit) (nat_le (depth v) 100) e
  where
    by : (b c : Bool) → (if b then (if c then Ok (put_at n x v ls) else Err fault.TooDeep) else Err fault.TooLarge) ≡ Ok mid → closed n mid ≡ closed n ls
    by true true h = let same : put_at n x v ls ≡ mid = cc h in sym (ap (closed n) same) ∙ closed_put n x v ls
    by true false h = absurd (cc h)
    by false c h = absurd (cc h)

pub kept_closed : (r : Result (Unit {0}) AssignFault) (n : ℕ) (ls mid new : List Layer) → OnErr r (new ≡ mid) → closed n mid ≡ closed n ls → OnErr r (closed n new ≡ closed n ls)
kept_closed (Ok u) n ls mid new h e = h
kept_closed (Err f) n ls mid new h e = ap (closed n) h ∙ e

module _ (limit n : ℕ) (x : Text) (v : Data) (i : ℤ) (ls : List Layer) where
  failed_first : (f : AssignFault) → bound limit n x v ls ≡ Err f → (index : Option Text) → bound_all limit n (names_of x v index i) ls ≡ Err f
  failed_first f e None = ap {B = Result (List Layer) AssignFault} (λ r. elim r [ Ok ms ↦ Ok ms | Err g ↦ Err g ]) e
  failed_first f e (Some y) = ap {B = Result (List Layer) AssignFault} (λ r. elim r [ Ok ms ↦ bound_all limit n ((y, integer i) ∷ []) ms | Err g ↦ Err g ]) e

  pub answers_first : (f : AssignFault) (index : Option Text) (new later : List Layer) → Answers (Err f) new (bound limit n x v ls) → Answers (Err f) later (bound_all limit n (names_of x v index i) ls)
  answers_first fault.OutOfMemory index new later h = tt
  answers_first fault.MissingKey index new later h = failed_first fault.MissingKey h index
  answers_first fault.BadIndex index new later h = failed_first fault.BadIndex h index
  answers_first fault.NotAContainer index new later h = failed_first fault.NotAContainer h index
  answers_first fault.TooLarge index new later h = failed_first fault.TooLarge h index
  answers_first fault.TooDeep index new later h = failed_first fault.TooDeep h index

  pub answers_one : (mid : List Layer) → bound limit n x v ls ≡ Ok mid → bound_all limit n (names_of x v None i) ls ≡ Ok mid
  answers_one mid e = ap {B = Result (List Layer) AssignFault} (λ r. elim r [ Ok ms ↦ Ok ms | Err g ↦ Err g ]) e

  second : (y : Text) (mid : List Layer) → bound limit n x v ls ≡ Ok mid → bound_all limit n (names_of x v (Some y) i) ls ≡ bound limit n y (integer i) mid
  second y mid e = ap {B = Result (List Layer) AssignFault} (λ r. elim r [ Ok ms ↦ bound_all limit n ((y, integer i) ∷ []) ms | Err g ↦ Err g ]) e ∙ same (bound limit n y (integer i) mid)
    where
      same : (r : Result (List Layer) AssignFault) → elim r [ Ok ms ↦ Ok ms | Err g ↦ Err g ] ≡ r
      same (Ok ms) = refl
      same (Err g) = refl

  pub answers_two : (y : Text) (mid new : List Layer) (r : Result (Unit {0}) AssignFault) → bound limit n x v ls ≡ Ok mid → Answers r new (bound limit n y (integer i) mid) → Answers r new (bound_all limit n (names_of x v (Some y) i) ls)
  answers_two y mid new r e h = subst (λ q. Answers r new q) (sym (second y mid e)) h

-- ## All names of a list
-- some names are bound, and then more
pub bound_more : (limit n : ℕ) (x : Text) (v : Data) (xs : List (Text × Data)) (ls mid : List Layer) (r : Result (List Layer) AssignFault) → bound limit n x v ls ≡ Ok mid → bound_all limit n xs mid ≡ r → bound_all limit n ((x, v) ∷ xs) ls ≡ r
bound_more limit n x v xs ls mid r e h = ap {B = Result (List Layer) AssignFault} (λ q. elim q [ Ok ms ↦ bound_all limit n xs ms | Err g ↦ Err g ]) e ∙ h
