-- The total of variables in all live layers, behind a task that is put back and layers that go back to their tasks.
use Rattle.std.specs.Prelude.{◌≡◌, ℕ, zero, suc, ◌+◌, ◌≤◌, ◌<◌, ◌⊎◌, Bool, true, false, List, [], ◌∷◌, Some, None, Option, if◌then◌else◌, nat_eq, nat_lt}
use Rattle.std.proofs.Common.{arith}
use Rattle.std.proofs.lemmas.Bool.{eqb-true, ltb-true, ltb-false}
use Rattle.std.proofs.lemmas.Option.{same_Some}
use mathlib.Core.Logic.{inl, inr}
use mathlib.Core.Path.{refl, sym, subst, ap, ◌∙◌}
use Rattle.wf_model.proofs.TaskLists.{put_rises, known, put_same, put_other}
use Rattle.wf_model.specs.Config.{Layer, Task, Config, task_in, put_in, drop_in, with_task}
use Rattle.wf_model.specs.Local.{Outer, layers_total, outers_total}
use Rattle.wf_model.specs.RunLaws.{RisesFrom}
use Rattle.wf_model.specs.Taken.{layer_at, put_outer, tasks_total, outers, outside, step_shares}
use Rattle.wf_fits.proofs.Holding.{places_of}
use Rattle.wf_never_wrong.proofs.Tasks.{some_is_no}
use Rattle.wf_value.specs.Data.{pairs_size}
use Rattle.wf_value.specs.Pairs.{Text}
use Rattle.wf_never_wrong.proofs.Merging.{less_differs}

-- ## The size of a layer
abbrev pub size_nth : List Layer → ℕ → ℕ
size_nth [] i = 0
size_nth (l ∷ ls) zero = pairs_size l.vars
size_nth (l ∷ ls) (suc i) = size_nth ls i

abbrev pub size_by : Option Task → ℕ → ℕ
size_by None i = 0
size_by (Some t) i = size_nth t.layers i

abbrev pub size_in : List (ℕ × Task) → ℕ × ℕ → ℕ
size_in ts q = size_by (task_in ts q.0) q.1

abbrev pub sizes_in : List (ℕ × Task) → List (ℕ × ℕ) → ℕ
sizes_in ts [] = 0
sizes_in ts (q ∷ qs) = size_in ts q + sizes_in ts qs

layer_total : (i : ℕ) (x : Layer) (ls : List Layer) → layers_total (layer_at i x ls) + size_nth ls i ≤ layers_total ls + pairs_size x.vars
layer_total i x [] = omega arith
layer_total zero x (l ∷ ls) = omega arith
layer_total (suc i) x (l ∷ ls) = let r = layer_total i x ls in omega (arith, r)

layer_other : (i j : ℕ) (x : Layer) (ls : List Layer) → i < j → size_nth (layer_at i x ls) j ≡ size_nth ls j
layer_other i j x [] l = refl
layer_other zero zero x (k ∷ ls) l = absurd (by l)
  where
    by : 0 < 0 → ⊥
    by h = omega (arith, h)
layer_other zero (suc j) x (k ∷ ls) l = refl
layer_other (suc i) zero x (k ∷ ls) l = absurd (by l)
  where
    by : suc i < 0 → ⊥
    by h = omega (arith, h)
layer_other (suc i) (suc j) x (k ∷ ls) l = layer_other i j x ls (omega (arith, l))

-- ## The total behind a task that is put in, or dropped
pub low_of : (low made b : ℕ) (ts : List (ℕ × Task)) (t : Task) → RisesFrom low made ts → task_in ts b ≡ Some t → low ≤ b
low_of low made b [] t h e = some_is_no t (sym e)
low_of low made b (u ∷ us) t h e = by (nat_eq u.0 b) refl e (λ j. low_of (suc u.0) made b us t h.2 j)
  where
    by : (q : Bool) → nat_eq u.0 b ≡ q → (if q then Some u.1 else task_in us b) ≡ Some t → (task_in us b ≡ Some t → suc u.0 ≤ b) → low ≤ b
    by true i j f = let same = eqb-true u.0 b i in let l = h.0 in omega (arith, same, l)
    by false i j f = let r = f j in let l = h.0 in omega (arith, r, l)

pub put_total : (low made b : ℕ) (t u : Task) (ts : List (ℕ × Task)) → RisesFrom low made ts → task_in ts b ≡ Some t → tasks_total (put_in b u ts) + layers_total t.layers ≡ tasks_total ts + layers_total u.layers
put_total low made b t u [] h e = some_is_no t (sym e)
put_total low made b t u (x ∷ us) h e = by (nat_eq x.0 b) refl (nat_lt b x.0) refl e (λ j. put_total (suc x.0) made b t u us h.2 j)
  where
    by : (q : Bool) → nat_eq x.0 b ≡ q → (p : Bool) → nat_lt b x.0 ≡ p → (if q then Some x.1 else task_in us b) ≡ Some t
        → (task_in us b ≡ Some t → tasks_total (put_in b u us) + layers_total t.layers ≡ tasks_total us + layers_total u.layers)
        → tasks_total (if q then (b, u) ∷ us else (if p then (b, u) ∷ x ∷ us else x ∷ put_in b u us)) + layers_total t.layers ≡ layers_total x.1.layers + tasks_total us + layers_total u.layers
    by true i p k j f = let same = ap (λ (v : Task). layers_total v.layers) (same_Some x.1 t j) in omega (arith, same)
    by false i true k j f = absurd (no (ltb-true b x.0 k) (low_of (suc x.0) made b us t h.2 j))
      where
        no : b < x.0 → suc x.0 ≤ b → ⊥
        no l m = omega (arith, l, m)
    by false i false k j f = let r = f j in omega (arith, r)

pub drop_total : (b : ℕ) (t : Task) (ts : List (ℕ × Task)) → task_in ts b ≡ Some t → tasks_total (drop_in b ts) + layers_total t.layers ≡ tasks_total ts
drop_total b t [] e = some_is_no t (sym e)
drop_total b t (x ∷ us) e = by (nat_eq x.0 b) e (λ j. drop_total b t us j)
  where
    by : (q : Bool) → (if q then Some x.1 else task_in us b) ≡ Some t → (task_in us b ≡ Some t → tasks_total (drop_in b us) + layers_total t.layers ≡ tasks_total us)
        → tasks_total (if q then us else x ∷ drop_in b us) + layers_total t.layers ≡ layers_total x.1.layers + tasks_total us
    by true j f = let same = ap (λ (v : Task). layers_total v.layers) (same_Some x.1 t j) in omega (arith, same)
    by false j f = let r = f j in omega (arith, r)

pub new_total : (b : ℕ) (u : Task) (ts : List (ℕ × Task)) → task_in ts b ≡ None → tasks_total (put_in b u ts) ≡ layers_total u.layers + tasks_total ts
new_total b u [] e = omega arith
new_total b u (x ∷ us) e = by (nat_eq x.0 b) (nat_lt b x.0) e (λ j. new_total b u us j)
  where
    by : (q p : Bool) → (if q then Some x.1 else task_in us b) ≡ None → (task_in us b ≡ None → tasks_total (put_in b u us) ≡ layers_total u.layers + tasks_total us)
        → tasks_total (if q then (b, u) ∷ us else (if p then (b, u) ∷ x ∷ us else x ∷ put_in b u us)) ≡ layers_total u.layers + (layers_total x.1.layers + tasks_total us)
    by true p j f = some_is_no x.1 j
    by false true j f = refl
    by false false j f = let r = f j in omega (arith, r)

-- ## Places that differ
abbrev IsAfter : ℕ × ℕ → ℕ × ℕ → Type 0
IsAfter q r = (r.0 < q.0) ⊎ ((r.0 ≡ q.0) × (q.1 < r.1))

abbrev AllAfter : ℕ × ℕ → List (ℕ × ℕ) → Type 0
AllAfter q [] = Unit {0}
AllAfter q (r ∷ rs) = IsAfter q r × AllAfter q rs

-- each stands further out than those before it
abbrev pub Falls : List (ℕ × ℕ) → Type 0
Falls [] = Unit {0}
Falls (q ∷ qs) = AllAfter q qs × Falls qs

abbrev pub AllBelow : ℕ → List (ℕ × ℕ) → Type 0
AllBelow b [] = Unit {0}
AllBelow b (q ∷ qs) = (q.0 < b) × AllBelow b qs

-- a layer further out stays where one is put
size_kept : (a i : ℕ) (x : Layer) (t : Task) (ts : List (ℕ × Task)) (r : ℕ × ℕ) → task_in ts a ≡ Some t → IsAfter (a, i) r → size_in (put_in a (record t { layers = layer_at i x t.layers }) ts) r ≡ size_in ts r
size_kept a i x t ts r e (inl l) = ap (λ o. size_by o r.1) (put_other a r.0 (record t { layers = layer_at i x t.layers }) ts (less_differs r.0 a l))
size_kept a i x t ts r e (inr p) =
    let u : Task = record t { layers = layer_at i x t.layers } in
    ap (λ m. size_by (task_in (put_in a u ts) m) r.1) p.0 ∙ ap (λ o. size_by o r.1) (put_same a u ts) ∙ layer_other i r.1 x t.layers p.1 ∙ ap (λ o. size_by o r.1) (sym e) ∙ ap (λ m. size_by (task_in ts m) r.1) (sym p.0)

sizes_kept : (a i : ℕ) (x : Layer) (t : Task) (ts : List (ℕ × Task)) (rs : List (ℕ × ℕ)) → task_in ts a ≡ Some t → AllAfter (a, i) rs → sizes_in (put_in a (record t { layers = layer_at i x t.layers }) ts) rs ≡ sizes_in ts rs
sizes_kept a i x t ts [] e h = refl
sizes_kept a i x t ts (r ∷ rs) e h = let p = size_kept a i x t ts r e h.0 in let q = sizes_kept a i x t ts rs e h.1 in omega (arith, p, q)

-- and so do all where a task with a greater number changes
pub sizes_below : (b : ℕ) (u : Task) (ts : List (ℕ × Task)) (rs : List (ℕ × ℕ)) → AllBelow b rs → sizes_in (put_in b u ts) rs ≡ sizes_in ts rs
sizes_below b u ts [] h = refl
sizes_below b u ts (r ∷ rs) h = let p = ap (λ o. size_by o r.1) (put_other b r.0 u ts (less_differs r.0 b h.0)) in let q = sizes_below b u ts rs h.1 in omega (arith, p, q)

-- ## Layers that go back
pub put_outer_total : (os : List Outer) (c : Config) → RisesFrom 0 c.made c.tasks → Falls (places_of os) → tasks_total (put_outer os c).tasks + sizes_in c.tasks (places_of os) ≤ tasks_total c.tasks + outers_total os
put_outer_total [] c h f = omega arith
put_outer_total (o ∷ os) c h f = by (task_in c.tasks o.task) refl (put_outer_total os c h f.1) (λ d i. put_outer_total os d i f.1)
  where
    by : (w : Option Task) → task_in c.tasks o.task ≡ w → tasks_total (put_outer os c).tasks + sizes_in c.tasks (places_of os) ≤ tasks_total c.tasks + outers_total os
        → ((d : Config) → RisesFrom 0 d.made d.tasks → tasks_total (put_outer os d).tasks + sizes_in d.tasks (places_of os) ≤ tasks_total d.tasks + outers_total os)
        → tasks_total (elim w as (λ v. Config) [ None ↦ put_outer os c | Some t ↦ put_outer os (with_task o.task (record t { layers = layer_at o.above o.layer t.layers }) c) ]).tasks + (size_in c.tasks (o.task, o.above) + sizes_in c.tasks (places_of os))
        ≤ tasks_total c.tasks + (pairs_size o.layer.vars + outers_total os)
    by None e r g = let z = ap (λ w. size_by w o.above) e in omega (arith, r, z)
    by (Some t) e r g =
        let u : Task = record t { layers = layer_at o.above o.layer t.layers } in
        let d = with_task o.task u c in
        let after = g d (put_rises 0 c.made o.task u c.tasks (omega arith) (known 0 c.made o.task c.tasks t h e) h) in
        let total = put_total 0 c.made o.task t u c.tasks h e in
        let kept = sizes_kept o.task o.above o.layer t c.tasks (places_of os) e f.0 in
        let layer = layer_total o.above o.layer t.layers in
        let z = ap (λ w. size_by w o.above) e in
        omega (arith, after, total, kept, layer, z)

-- ## What a task sees outside, and the total of all
abbrev pub Below : Option (ℕ × ℕ) → ℕ → Type 0
Below None n = Unit {0}
Below (Some p) n = p.0 < n

-- the tasks stand by rising number, and each parent has a smaller one
abbrev pub InOrder : Config → Type 0
InOrder c = RisesFrom 0 c.made c.tasks × ((b : ℕ) (t : Task) → task_in c.tasks b ≡ Some t → Below t.parent b)

-- of the tasks with a smaller number
abbrev pub below_total : ℕ → List (ℕ × Task) → ℕ
below_total n [] = 0
below_total n (u ∷ us) = (if nat_lt u.0 n then layers_total u.1.layers else 0) + below_total n us

if_least : (q : Bool) (a : ℕ) → (if q then a else 0) ≤ a
if_least true a = omega arith
if_least false a = omega arith

below_least : (n : ℕ) (ts : List (ℕ × Task)) → below_total n ts ≤ tasks_total ts
below_least n [] = omega arith
below_least n (u ∷ us) = let a = if_least (nat_lt u.0 n) (layers_total u.1.layers) in let b = below_least n us in omega (arith, a, b)

if_more : (x n m a : ℕ) → n ≤ m → (if nat_lt x n then a else 0) ≤ (if nat_lt x m then a else 0)
if_more x n m a le = by (nat_lt x n) refl (nat_lt x m) refl
  where
    by : (q : Bool) → nat_lt x n ≡ q → (p : Bool) → nat_lt x m ≡ p → (if q then a else 0) ≤ (if p then a else 0)
    by false e p i = omega arith
    by true e true i = omega arith
    by true e false i = absurd (no (ltb-true x n e) (ltb-false x m i))
      where
        no : x < n → m ≤ x → ⊥
        no l k = omega (arith, l, k, le)

below_more : (n m : ℕ) (ts : List (ℕ × Task)) → n ≤ m → below_total n ts ≤ below_total m ts
below_more n m [] le = omega arith
below_more n m (u ∷ us) le = let a = if_more u.0 n m (layers_total u.1.layers) le in let b = below_more n m us le in omega (arith, a, b)

itself_below : (a x : ℕ) → (if nat_lt a (suc a) then x else 0) ≡ x
itself_below a x = by (nat_lt a (suc a)) refl
  where
    by : (q : Bool) → nat_lt a (suc a) ≡ q → (if q then x else 0) ≡ x
    by true e = refl
    by false e = absurd (no (ltb-false a (suc a) e))
      where
        no : suc a ≤ a → ⊥
        no l = omega (arith, l)

not_below : (a x : ℕ) → (if nat_lt a a then x else 0) ≡ 0
not_below a x = by (nat_lt a a) refl
  where
    by : (q : Bool) → nat_lt a a ≡ q → (if q then x else 0) ≡ 0
    by false e = refl
    by true e = absurd (no (ltb-true a a e))
      where
        no : a < a → ⊥
        no l = omega (arith, l)

-- one more task
below_with : (a : ℕ) (t : Task) (ts : List (ℕ × Task)) → task_in ts a ≡ Some t → layers_total t.layers + below_total a ts ≤ below_total (suc a) ts
below_with a t [] e = some_is_no t (sym e)
below_with a t (u ∷ us) e = by (nat_eq u.0 a) refl e (λ j. below_with a t us j)
  where
    by : (q : Bool) → nat_eq u.0 a ≡ q → (if q then Some u.1 else task_in us a) ≡ Some t → (task_in us a ≡ Some t → layers_total t.layers + below_total a us ≤ below_total (suc a) us)
        → layers_total t.layers + ((if nat_lt u.0 a then layers_total u.1.layers else 0) + below_total a us) ≤ (if nat_lt u.0 (suc a) then layers_total u.1.layers else 0) + below_total (suc a) us
    by false i j f = let r = f j in let m = if_more u.0 a (suc a) (layers_total u.1.layers) (omega arith) in omega (arith, r, m)
    by true i j f =
        let same = ap (λ (v : Task). layers_total v.layers) (same_Some u.1 t j) in
        let at = eqb-true u.0 a i in
        let less = subst (λ x. (if nat_lt x a then layers_total u.1.layers else 0) ≡ 0) (sym at) (not_below a (layers_total u.1.layers)) in
        let more = subst (λ x. (if nat_lt x (suc a) then layers_total u.1.layers else 0) ≡ layers_total u.1.layers) (sym at) (itself_below a (layers_total u.1.layers)) in
        let m = below_more a (suc a) us (omega arith) in
        omega (arith, same, less, more, m)

-- ## The layers of one task among them
outers_least : (b i : ℕ) (ls : List Layer) (shared : List (List Text)) (rest : List Outer) → outers_total (outers b i ls shared rest) ≤ layers_total ls + outers_total rest
outers_least b i [] shared rest = omega arith
outers_least b i (l ∷ ls) shared rest = by l.by_call (outers_least b (suc i) ls shared rest)
  where
    by : (q : Bool) → outers_total (outers b (suc i) ls shared rest) ≤ layers_total ls + outers_total rest
        → pairs_size l.vars + outers_total (if q then [] else outers b (suc i) ls shared rest) ≤ pairs_size l.vars + layers_total ls + outers_total rest
    by true r = omega arith
    by false r = omega (arith, r)

outers_sizes : (ts : List (ℕ × Task)) (b i : ℕ) (ls : List Layer) (shared : List (List Text)) (rest : List Outer) → ((j : ℕ) → size_in ts (b, j + i) ≡ size_nth ls j) → sizes_in ts (places_of rest) ≡ outers_total rest
    → sizes_in ts (places_of (outers b i ls shared rest)) ≡ outers_total (outers b i ls shared rest)
outers_sizes ts b i [] shared rest f h = h
outers_sizes ts b i (l ∷ ls) shared rest f h = by l.by_call (outers_sizes ts b (suc i) ls shared rest (λ j. ap (λ k. size_in ts (b, k)) (shifted j) ∙ f (suc j)) h)
  where
    shifted : (j : ℕ) → j + suc i ≡ suc j + i
    shifted j = omega arith

    first : size_in ts (b, i) ≡ pairs_size l.vars
    first = ap (λ k. size_in ts (b, k)) (start i) ∙ f 0
      where
        start : (i : ℕ) → i ≡ 0 + i
        start i = omega arith

    by : (q : Bool) → sizes_in ts (places_of (outers b (suc i) ls shared rest)) ≡ outers_total (outers b (suc i) ls shared rest)
        → size_in ts (b, i) + sizes_in ts (places_of (if q then [] else outers b (suc i) ls shared rest)) ≡ pairs_size l.vars + outers_total (if q then [] else outers b (suc i) ls shared rest)
    by true r = ap (λ x. x + 0) first
    by false r = ap (λ x. x + sizes_in ts (places_of (outers b (suc i) ls shared rest))) first ∙ ap (λ y. pairs_size l.vars + y) r

abbrev AllFrom : ℕ → ℕ → List (ℕ × ℕ) → Type 0
AllFrom b i [] = Unit {0}
AllFrom b i (q ∷ qs) = ((q.0 < b) ⊎ ((q.0 ≡ b) × (i ≤ q.1))) × AllFrom b i qs

below_from : (b i : ℕ) (qs : List (ℕ × ℕ)) → AllBelow b qs → AllFrom b i qs
below_from b i [] h = tt
below_from b i (q ∷ qs) h = (inl h.0, below_from b i qs h.1)

from_less : (b i : ℕ) (qs : List (ℕ × ℕ)) → AllFrom b (suc i) qs → AllFrom b i qs
from_less b i [] h = tt
from_less b i (q ∷ qs) h = (by h.0, from_less b i qs h.1)
  where
    by : (q.0 < b) ⊎ ((q.0 ≡ b) × (suc i ≤ q.1)) → (q.0 < b) ⊎ ((q.0 ≡ b) × (i ≤ q.1))
    by (inl l) = inl l
    by (inr p) = let l = p.1 in inr (p.0, omega (arith, l))

from_after : (b i : ℕ) (qs : List (ℕ × ℕ)) → AllFrom b (suc i) qs → AllAfter (b, i) qs
from_after b i [] h = tt
from_after b i (q ∷ qs) h = (by h.0, from_after b i qs h.1)
  where
    by : (q.0 < b) ⊎ ((q.0 ≡ b) × (suc i ≤ q.1)) → IsAfter (b, i) q
    by (inl l) = inl l
    by (inr p) = let l = p.1 in inr (p.0, omega (arith, l))

from_below : (b i : ℕ) (qs : List (ℕ × ℕ)) → AllFrom b i qs → AllBelow (suc b) qs
from_below b i [] h = tt
from_below b i (q ∷ qs) h = (by h.0, from_below b i qs h.1)
  where
    by : (q.0 < b) ⊎ ((q.0 ≡ b) × (i ≤ q.1)) → q.0 < suc b
    by (inl l) = omega (arith, l)
    by (inr p) = let e = p.0 in omega (arith, e)

outers_from : (b i : ℕ) (ls : List Layer) (shared : List (List Text)) (rest : List Outer) → AllBelow b (places_of rest) → AllFrom b i (places_of (outers b i ls shared rest))
outers_from b i [] shared rest h = below_from b i (places_of rest) h
outers_from b i (l ∷ ls) shared rest h = (inr (refl, omega arith), by l.by_call (from_less b i (places_of (outers b (suc i) ls shared rest)) (outers_from b (suc i) ls shared rest h)))
  where
    by : (q : Bool) → AllFrom b i (places_of (outers b (suc i) ls shared rest)) → AllFrom b i (places_of (if q then [] else outers b (suc i) ls shared rest))
    by true r = tt
    by false r = r

outers_fall : (b i : ℕ) (ls : List Layer) (shared : List (List Text)) (rest : List Outer) → AllBelow b (places_of rest) → Falls (places_of rest) → Falls (places_of (outers b i ls shared rest))
outers_fall b i [] shared rest h f = f
outers_fall b i (l ∷ ls) shared rest h f = by l.by_call (from_after b i (places_of (outers b (suc i) ls shared rest)) (outers_from b (suc i) ls shared rest h)) (outers_fall b (suc i) ls shared rest h f)
  where
    by : (q : Bool) → AllAfter (b, i) (places_of (outers b (suc i) ls shared rest)) → Falls (places_of (outers b (suc i) ls shared rest))
        → AllAfter (b, i) (places_of (if q then [] else outers b (suc i) ls shared rest)) × Falls (places_of (if q then [] else outers b (suc i) ls shared rest))
    by true a r = (tt, tt)
    by false a r = (a, r)

all_below : (a b : ℕ) (qs : List (ℕ × ℕ)) → a ≤ b → AllBelow a qs → AllBelow b qs
all_below a b [] le h = tt
all_below a b (q ∷ qs) le h = let l = h.0 in (omega (arith, l, le), all_below a b qs le h.1)

abbrev bound_of : Option (ℕ × ℕ) → ℕ
bound_of None = 0
bound_of (Some p) = suc p.0

bound_least : (o : Option (ℕ × ℕ)) (b : ℕ) → Below o b → bound_of o ≤ b
bound_least None b l = omega arith
bound_least (Some p) b l = l

-- ## The chain of parents
pub record Seen (c : Config) (o : Option (ℕ × ℕ)) (os : List Outer) : Type 0 where
  pub total : outers_total os ≤ below_total (bound_of o) c.tasks
  pub sizes : sizes_in c.tasks (places_of os) ≡ outers_total os
  pub below : AllBelow (bound_of o) (places_of os)
  pub falls : Falls (places_of os)

nothing_seen : (c : Config) (o : Option (ℕ × ℕ)) → Seen c o []
nothing_seen c o = record { total = omega arith; sizes = refl; below = tt; falls = tt }

module _ (c : Config) (parents : (b : ℕ) (t : Task) → task_in c.tasks b ≡ Some t → Below t.parent b) where
  pub seen : (n : ℕ) (o : Option (ℕ × ℕ)) (acc : List (List Text)) → Seen c o (outside n c o acc)
  seen zero o acc = nothing_seen c o
  seen (suc n) None acc = nothing_seen c None
  seen (suc n) (Some p) acc = by (task_in c.tasks p.0) refl (λ t shared. seen n t.parent shared)
    where
      by : (w : Option Task) → task_in c.tasks p.0 ≡ w → ((t : Task) (shared : List (List Text)) → Seen c t.parent (outside n c t.parent shared))
          → Seen c (Some p) (elim w as (λ v. List Outer) [ None ↦ [] | Some t ↦ outers p.0 0 t.layers (step_shares t.control ∷ acc) (outside n c t.parent (step_shares t.control ∷ acc)) ])
      by None e f = nothing_seen c (Some p)
      by (Some t) e f =
          let shared = step_shares t.control ∷ acc in
          let rest = outside n c t.parent shared in
          let r = f t shared in
          let least = bound_least t.parent p.0 (parents p.0 t e) in
          let under = all_below (bound_of t.parent) p.0 (places_of rest) least r.below in
          let sum = outers_least p.0 0 t.layers shared rest in
          let lower = below_more (bound_of t.parent) p.0 c.tasks least in
          let within = r.total in
          let one = below_with p.0 t c.tasks e in
          record {
            total = omega (arith, sum, lower, within, one);
            sizes = outers_sizes c.tasks p.0 0 t.layers shared rest (λ j. ap (λ k. size_in c.tasks (p.0, k)) (none j) ∙ ap (λ w. size_by w j) e) r.sizes;
            below = from_below p.0 0 (places_of (outers p.0 0 t.layers shared rest)) (outers_from p.0 0 t.layers shared rest under);
            falls = outers_fall p.0 0 t.layers shared rest under r.falls;
          }
        where
          none : (j : ℕ) → j + 0 ≡ j
          none j = omega arith

  -- of a live task, its own layers and what it sees are among all
  pub own_and_seen : (b : ℕ) (t : Task) → task_in c.tasks b ≡ Some t → layers_total t.layers + outers_total (outside b c t.parent []) ≤ tasks_total c.tasks
  own_and_seen b t e =
      let r = (seen b t.parent []).total in
      let lower = below_more (bound_of t.parent) b c.tasks (bound_least t.parent b (parents b t e)) in
      let one = below_with b t c.tasks e in
      let whole = below_least (suc b) c.tasks in
      omega (arith, r, lower, one, whole)

  pub seen_below : (b : ℕ) (t : Task) → task_in c.tasks b ≡ Some t → AllBelow b (places_of (outside b c t.parent []))
  seen_below b t e = all_below (bound_of t.parent) b (places_of (outside b c t.parent [])) (bound_least t.parent b (parents b t e)) (seen b t.parent []).below
