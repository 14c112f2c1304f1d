-- The sum of variables, behind a change of the store.
use Rattle.std.proofs.Common.{◌≡◌, inl, inr, ℕ, ◌+◌, Bool, true, false, List, [], ◌∷◌, length, Option, Some, None, refl, sym, ap, subst, ◌∙◌, arith}
use Rattle.std.specs.Prelude.{if◌then◌else◌, nat_eq, map as each, unwrap_or, ◌⊎◌}
use Rattle.std.proofs.lemmas.Bool.{eqb-false, eqb-true, ne_eqb}
use Rattle.wf_frames.specs.Held.{standing}
use Rattle.wf_frames.specs.Owned.{Around, IsLinked, KeysStand, OwnStand, held_of}
use Rattle.wf_model.specs.Local.{Scene, layers_total, outers_total, total}
use Rattle.wf_scope.proofs.Numbers.{find_head, find_tail, found_cases}
use Rattle.wf_scope.proofs.Seen.{vars_found}
use Rattle.wf_scope.proofs.Totals.{put_size, put_total}
use Rattle.wf_scope.specs.Changes.{target}
use Rattle.wf_scope.specs.Layers.{Layer, chain, find, holder_in, put_at, total_of, variable_size, vars_at, vars_in, with_variable}
use Rattle.wf_scope.specs.Store.{layers_of}
use Rattle.wf_frames.specs.Tasks.{AreApart, AreOthers, Far, Own, far_layers, numbers, numbers_seen, own_layers}
use Rattle.wf_scope.specs.declared.scopes.Scopes.{Scopes}
use Rattle.wf_value.specs.Data.{Data, pairs_of, pairs_size, size}
use Rattle.wf_value.specs.Maps.{IsInOrder, value_at, with_value}
use Rattle.wf_value.specs.Pairs.{Text}

-- a task's layers and the rest come to the total of the store
abbrev pub SumIs : Around → List Own → List Layer → Type 0
SumIs a os ls = layers_total (own_layers os ls) + outers_total (far_layers a.keys ls) + a.others ≡ total_of ls

-- the scene's total is that of the store
pub total_so : (a : Around) (os : List Own) (x : Scopes) (s : Scene) → IsLinked a os x → s.others ≡ a.others → total s (standing [] (held_of a.keys os (layers_of x))) ≡ total_of (layers_of x)
total_so a os x s h e = ap (λ (n : ℕ). layers_total (own_layers os (layers_of x)) + outers_total (far_layers a.keys (layers_of x)) + n) e ∙ h.sum

-- ## Numbers among some
abbrev pub IsAmong : ℕ → List ℕ → Type 0
IsAmong m [] = ⊥
IsAmong m (n ∷ ns) = (m ≡ n) ⊎ IsAmong m ns

holder_among : (x : Text) (ls : List Layer) (m : ℕ) → holder_in x ls ≡ Some m → IsAmong m (each (λ l. l.number) ls)
holder_among x [] m e = absurd (cc e)
holder_among x (l ∷ ls) m e = by (value_at x l.vars) e (λ q. holder_among x ls m q)
  where
    by : (o : Option Data) → elim o [ None ↦ holder_in x ls | Some v ↦ Some l.number ] ≡ Some m → (holder_in x ls ≡ Some m → IsAmong m (each (λ l. l.number) ls)) → IsAmong m (each (λ l. l.number) (l ∷ ls))
    by None h later = inr (later h)
    by (Some v) h later = let same : m ≡ l.number = cc h in inl same

seen_among : (os : List Own) (ks : List Far) (m : ℕ) → IsAmong m (numbers_seen os ks) → IsAmong m (numbers os ks)
seen_among [] ks m h = h
seen_among (o ∷ os) ks m (inl e) = inl e
seen_among (o ∷ os) ks m (inr h) = inr (by o.by_call h (λ q. seen_among os ks m q))
  where
    by : (b : Bool) → IsAmong m (if b then [] else numbers_seen os ks) → (IsAmong m (numbers_seen os ks) → IsAmong m (numbers os ks)) → IsAmong m (numbers os ks)
    by true q later = absurd q
    by false q later = later q

-- an assignment's layer is one of the task's
pub target_among : (x : Text) (o : Own) (os : List Own) (ks : List Far) (ls : List Layer) → each (λ l. l.number) (chain o.number ls) ≡ numbers_seen (o ∷ os) ks → IsAmong (target x o.number ls) (numbers (o ∷ os) ks)
target_among x o os ks ls e = by (holder_in x (chain o.number ls)) refl
  where
    by : (h : Option ℕ) → holder_in x (chain o.number ls) ≡ h → IsAmong (unwrap_or h o.number) (numbers (o ∷ os) ks)
    by None q = inl refl
    by (Some m) q = seen_among (o ∷ os) ks m (subst (λ (ns : List ℕ). IsAmong m ns) e (holder_among x (chain o.number ls) m q))

-- and live
abbrev pub Found : ℕ → List Layer → Type 0
Found m ls = (l : Layer) × (find m ls ≡ Some l)

found_far : (ks : List Far) (ls : List Layer) (m : ℕ) → KeysStand ks ls → IsAmong m (each (λ k. k.number) ks) → Found m ls
found_far [] ls m k h = absurd h
found_far (f ∷ ks) ls m k (inl e) = subst (λ (n : ℕ). Found n ls) (sym e) (k.0.0, k.0.1)
found_far (f ∷ ks) ls m k (inr h) = found_far ks ls m k.1 h

pub found_among : (last : Option ℕ) (os : List Own) (ks : List Far) (ls : List Layer) (m : ℕ) → OwnStand last os ls → KeysStand ks ls → IsAmong m (numbers os ks) → Found m ls
found_among last [] ks ls m s k h = found_far ks ls m k h
found_among last (o ∷ os) ks ls m s k (inl e) = subst (λ (n : ℕ). Found n ls) (sym e) (s.0.0, s.0.1)
found_among last (o ∷ os) ks ls m s k (inr h) = found_among last os ks ls m s.1 k h

others_among : (n m : ℕ) (ns : List ℕ) → AreOthers n ns → IsAmong m ns → nat_eq n m ≡ false
others_among n m [] a h = absurd h
others_among n m (k ∷ ns) a (inl e) = ap (nat_eq n) e ∙ a.0
others_among n m (k ∷ ns) a (inr h) = others_among n m ns a.1 h

-- ## Sizes by numbers
abbrev sizes : List ℕ → List Layer → ℕ
sizes [] ls = 0
sizes (n ∷ ns) ls = pairs_size (pairs_of (vars_at n ls)) + sizes ns ls

far_sizes : (ks : List Far) (ls : List Layer) → outers_total (far_layers ks ls) ≡ sizes (each (λ k. k.number) ks) ls
far_sizes [] ls = refl
far_sizes (k ∷ ks) ls = ap (λ (n : ℕ). pairs_size (pairs_of (vars_at k.number ls)) + n) (far_sizes ks ls)

held_sizes : (os : List Own) (ks : List Far) (ls : List Layer) → layers_total (own_layers os ls) + outers_total (far_layers ks ls) ≡ sizes (numbers os ks) ls
held_sizes [] ks ls = omega (arith, far_sizes ks ls)
held_sizes (o ∷ os) ks ls =
    let p = pairs_size (pairs_of (vars_at o.number ls)) in
    let e = held_sizes os ks ls in
    shift p (layers_total (own_layers os ls)) (outers_total (far_layers ks ls)) (sizes (numbers os ks) ls) e
  where
    shift : (p a b c : ℕ) → a + b ≡ c → (p + a) + b ≡ p + c
    shift p a b c e = omega (arith, e)

-- ## A variable is put
module _ (m : ℕ) (x : Text) (u : Data) where
  pub put_head : (y : Layer) (ls : List Layer) → nat_eq y.number m ≡ true → put_at m x u (y ∷ ls) ≡ with_variable x u y ∷ ls
  put_head y ls h = ap (λ (b : Bool). if b then with_variable x u y ∷ ls else y ∷ put_at m x u ls) h

  pub put_tail : (y : Layer) (ls : List Layer) → nat_eq y.number m ≡ false → put_at m x u (y ∷ ls) ≡ y ∷ put_at m x u ls
  put_tail y ls h = ap (λ (b : Bool). if b then with_variable x u y ∷ ls else y ∷ put_at m x u ls) h

  other_vars : (k : ℕ) (ls : List Layer) → nat_eq m k ≡ false → vars_at k (put_at m x u ls) ≡ vars_at k ls
  other_vars k [] h = refl
  other_vars k (y ∷ ls) h = by (nat_eq y.number m) refl (other_vars k ls h)
    where
      keep : (c : Bool) → vars_at k (put_at m x u ls) ≡ vars_at k ls → vars_in (if c then Some y else find k (put_at m x u ls)) ≡ vars_in (if c then Some y else find k ls)
      keep true later = refl
      keep false later = later

      by : (b : Bool) → nat_eq y.number m ≡ b → vars_at k (put_at m x u ls) ≡ vars_at k ls → vars_at k (if b then with_variable x u y ∷ ls else y ∷ put_at m x u ls) ≡ vars_at k (y ∷ ls)
      by true t later =
          let past : nat_eq y.number k ≡ false = ne_eqb y.number k (λ s. eqb-false m k h (sym (eqb-true y.number m t) ∙ s)) in
          ap vars_in (find_tail k (with_variable x u y) ls past) ∙ sym (ap vars_in (find_tail k y ls past))
      by false t later = keep (nat_eq y.number k) later

  own_vars : (ls : List Layer) (l : Layer) → find m ls ≡ Some l → vars_at m (put_at m x u ls) ≡ with_value x u l.vars
  own_vars [] l e = absurd (cc e)
  own_vars (y ∷ ls) l e = elim (found_cases m y ls l e) [
    | inl h ↦ ap (vars_at m) (put_head y ls h.0) ∙ ap vars_in (find_head m (with_variable x u y) ls h.0) ∙ ap (λ (z : Layer). with_value x u z.vars) h.1
    | inr h ↦ ap (vars_at m) (put_tail y ls h.0) ∙ ap vars_in (find_tail m y (put_at m x u ls) h.0) ∙ own_vars ls l h.1
  ]

  other_sizes : (ns : List ℕ) (ls : List Layer) → AreOthers m ns → sizes ns (put_at m x u ls) ≡ sizes ns ls
  other_sizes [] ls a = refl
  other_sizes (n ∷ ns) ls a =
      ap (λ ps. pairs_size (pairs_of ps) + sizes ns (put_at m x u ls)) (other_vars n ls a.0) ∙ ap (λ (k : ℕ). pairs_size (pairs_of (vars_at n ls)) + k) (other_sizes ns ls a.1)

  module _ (ls : List Layer) (d : Layer) (at : find m ls ≡ Some d) (order : IsInOrder d.vars) where
    put_here : pairs_size (pairs_of (vars_at m (put_at m x u ls))) + variable_size x (value_at x d.vars) ≡ pairs_size (pairs_of (vars_at m ls)) + (2 + length x + size u)
    put_here =
        ap (λ ps. pairs_size (pairs_of ps) + variable_size x (value_at x d.vars)) (own_vars ls d at) ∙ put_size x u d.vars order
        ∙ sym (ap (λ ps. pairs_size (pairs_of ps) + (2 + length x + size u)) (vars_found m ls d at))

    put_sizes : (ns : List ℕ) → AreApart ns → IsAmong m ns → sizes ns (put_at m x u ls) + variable_size x (value_at x d.vars) ≡ sizes ns ls + (2 + length x + size u)
    put_sizes [] a h = absurd h
    put_sizes (n ∷ ns) a (inl e) =
        first (vars_at n (put_at m x u ls)) (vars_at n ls)
        (ap (λ (k : ℕ). vars_at k (put_at m x u ls)) (sym e)) (ap (λ (k : ℕ). vars_at k ls) (sym e)) (other_sizes ns ls (subst (λ (k : ℕ). AreOthers k ns) (sym e) a.0))
      where
        shift : (p q r s v w : ℕ) → p + v ≡ q + w → r ≡ s → (p + r) + v ≡ (q + s) + w
        shift p q r s v w e f = omega (arith, e, f)

        first : (ps qs : List (Text × Data)) → ps ≡ vars_at m (put_at m x u ls) → qs ≡ vars_at m ls → sizes ns (put_at m x u ls) ≡ sizes ns ls
            → (pairs_size (pairs_of ps) + sizes ns (put_at m x u ls)) + variable_size x (value_at x d.vars) ≡ (pairs_size (pairs_of qs) + sizes ns ls) + (2 + length x + size u)
        first ps qs e f g =
            shift (pairs_size (pairs_of ps)) (pairs_size (pairs_of qs)) (sizes ns (put_at m x u ls)) (sizes ns ls) (variable_size x (value_at x d.vars)) (2 + length x + size u)
            (ap (λ ys. pairs_size (pairs_of ys) + variable_size x (value_at x d.vars)) e ∙ put_here ∙ sym (ap (λ ys. pairs_size (pairs_of ys) + (2 + length x + size u)) f)) g
    put_sizes (n ∷ ns) a (inr h) =
        let past : nat_eq m n ≡ false = ne_eqb m n (λ s. eqb-false n m (others_among n m ns a.0 h) (sym s)) in
        shift (pairs_size (pairs_of (vars_at n (put_at m x u ls)))) (pairs_size (pairs_of (vars_at n ls))) (sizes ns (put_at m x u ls)) (sizes ns ls) (variable_size x (value_at x d.vars)) (2 + length x + size u)
        (ap (λ ps. pairs_size (pairs_of ps)) (other_vars n ls past)) (put_sizes ns a.1 h)
      where
        shift : (p q r s v w : ℕ) → p ≡ q → r + v ≡ s + w → (p + r) + v ≡ (q + s) + w
        shift p q r s v w e f = omega (arith, e, f)

-- the sum stays true
pub sum_put : (a : Around) (os : List Own) (ls : List Layer) (m : ℕ) (x : Text) (u : Data) (d : Layer) → find m ls ≡ Some d → IsInOrder d.vars → AreApart (numbers os a.keys) → IsAmong m (numbers os a.keys) → SumIs a os ls
    → SumIs a os (put_at m x u ls)
sum_put a os ls m x u d at order apart among sum =
    let ks = a.keys in
    let others = a.others in
    ap (λ (n : ℕ). n + others) (held_sizes os ks (put_at m x u ls))
    ∙ shift (sizes (numbers os ks) (put_at m x u ls)) (sizes (numbers os ks) ls) (variable_size x (value_at x d.vars)) (2 + length x + size u) (total_of (put_at m x u ls)) (total_of ls)
    (put_sizes m x u ls d at order (numbers os ks) apart among) (sym (ap (λ (n : ℕ). n + others) (held_sizes os ks ls)) ∙ sum) (put_total m x u ls d at order)
  where
    shift : (p q v w t r : ℕ) → p + v ≡ q + w → q + a.others ≡ r → t + v ≡ r + w → p + a.others ≡ t
    shift p q v w t r e f g = omega (arith, e, f, g)

-- ## A layer less, and one more
pub sum_closed : (size own far others total rest own' far' : ℕ) → (size + own) + far + others ≡ total → total ≡ size + rest → own' ≡ own → far' ≡ far → own' + far' + others ≡ rest
sum_closed size own far others total rest own' far' s t e f = omega (arith, s, t, e, f)

pub sum_more : (size own far others total own' far' new : ℕ) → own + far + others ≡ total → new ≡ total + size → own' ≡ own → far' ≡ far → (size + own') + far' + others ≡ new
sum_more size own far others total own' far' new s t e f = omega (arith, s, t, e, f)
