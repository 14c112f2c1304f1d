-- What variables come to, behind a change.
use Rattle.std.proofs.Common.{◌≡◌, ◌≤◌, inl, inr, ℕ, ◌+◌, ◌-◌, min, Bool, true, false, List, [], ◌∷◌, ◌++◌, length, Some, None, Ordering, Less, Equal, Greater, refl, sym, ap, ◌∙◌, arith, cond}
use Rattle.std.specs.Prelude.{if◌then◌else◌}
use Rattle.std.specs.BTreeMap.{is_at}
use Rattle.std.specs.FinMap.{slice_cmp-IsAntisymmetric, nat_cmp-IsAntisymmetric}
use Rattle.std.specs.Map.{keys_of}
use Rattle.std.specs.Ordering.{match_ordering, is_eq}
use Rattle.std.proofs.lemmas.Cmp.{nat_list_cmp_total}
use Rattle.std.proofs.lemmas.Map.{lookup-none}
use Rattle.std.proofs.lemmas.Map.Entries.{none_below_head}
use Rattle.std.proofs.lemmas.Map.Keys.{sorted_tail}
use Rattle.wf_value.specs.Data.{Data, size, pairs_size, pairs_of}
use Rattle.wf_value.specs.Maps.{IsInOrder, key_cmp, value_at, with_value}
use Rattle.wf_value.specs.Pairs.{Text}
use Rattle.wf_scope.specs.Layers.{IsLive, Layer, closed, find, put_at, total_of, variable_size, vars_at, with_variable}
use Rattle.wf_scope.proofs.Kept.{closed_head, closed_tail}
use Rattle.wf_scope.proofs.Numbers.{found_cases, live_found}
use Rattle.wf_scope.proofs.Seen.{vars_found}

-- ## Layers
total_push : (ls : List Layer) (l : Layer) → l.vars ≡ [] → total_of (ls ++ l ∷ []) ≡ total_of ls
total_push [] l e = omega (arith, ap (λ ps. pairs_size (pairs_of ps)) e)
total_push (x ∷ ls) l e = ap (λ (m : ℕ). pairs_size (pairs_of x.vars) + m) (total_push ls l e)

pub pushed_total : (ok : Bool) (ls new : List Layer) (l : Layer) → new ≡ (if ok then ls ++ l ∷ [] else ls) → l.vars ≡ [] → total_of ls ≡ total_of new
pushed_total true ls new l e v = sym (ap total_of e ∙ total_push ls l v)
pushed_total false ls new l e v = sym (ap total_of e)

pub total_closed : (n : ℕ) (ls : List Layer) (l : Layer) → find n ls ≡ Some l → total_of ls ≡ pairs_size (pairs_of l.vars) + total_of (closed n ls)
total_closed n [] l e = cc
total_closed n (x ∷ ls) l e = elim (found_cases n x ls l e) [
  | inl h ↦ omega (arith, ap total_of (closed_head n x ls h.0), ap (λ (y : Layer). pairs_size (pairs_of y.vars)) h.1)
  | inr h ↦ omega (arith, ap total_of (closed_tail n x ls h.0), total_closed n ls l h.1)
]

-- ## A variable in a layer
-- the pairs with a variable put, and the old one, are the pairs and the new one
pub put_size : (k : Text) (v : Data) (es : List (Text × Data)) → IsInOrder es → pairs_size (pairs_of (with_value k v es)) + variable_size k (value_at k es) ≡ pairs_size (pairs_of es) + (2 + length k + size v)
put_size k v [] s = omega arith
put_size k v (e ∷ es) s = by (key_cmp k e.0) refl (put_size k v es (sorted_tail key_cmp e.0 (keys_of es) s))
  where
    by : (r : Ordering) → key_cmp k e.0 ≡ r → pairs_size (pairs_of (with_value k v es)) + variable_size k (value_at k es) ≡ pairs_size (pairs_of es) + (2 + length k + size v)
        → pairs_size (pairs_of (match_ordering r ((k, v) ∷ e ∷ es) ((e.0, v) ∷ es) (e ∷ with_value k v es))) + variable_size k (cond (is_eq r) (Some e.1) (value_at k es)) ≡ (2 + length e.0 + size e.1 + pairs_size (pairs_of es)) + (2 + length k + size v)
    by Less p later = omega (arith, ap (variable_size k) (lookup-none (is_at (key_cmp k)) es (none_below_head nat_list_cmp_total k e es s p).1))
    by Equal p later = omega (arith, ap (λ (t : Text). length t) (slice_cmp-IsAntisymmetric nat_cmp-IsAntisymmetric k e.0 p))
    by Greater p later = omega (arith, later)

pub variable_within : (k : Text) (es : List (Text × Data)) → variable_size k (value_at k es) ≤ pairs_size (pairs_of es)
variable_within k [] = omega arith
variable_within k (e ∷ es) = by (key_cmp k e.0) refl (variable_within k es)
  where
    by : (r : Ordering) → key_cmp k e.0 ≡ r → variable_size k (value_at k es) ≤ pairs_size (pairs_of es) → variable_size k (cond (is_eq r) (Some e.1) (value_at k es)) ≤ 2 + length e.0 + size e.1 + pairs_size (pairs_of es)
    by Less p later = omega (arith, later)
    by Equal p later = omega (arith, ap (λ (t : Text). length t) (slice_cmp-IsAntisymmetric nat_cmp-IsAntisymmetric k e.0 p))
    by Greater p later = omega (arith, later)

-- ## A variable in a store
pub put_total : (n : ℕ) (x : Text) (v : Data) (ls : List Layer) (d : Layer) → find n ls ≡ Some d → IsInOrder d.vars → total_of (put_at n x v ls) + variable_size x (value_at x d.vars) ≡ total_of ls + (2 + length x + size v)
put_total n x v [] d e o = cc
put_total n x v (l ∷ ls) d e o = elim (found_cases n l ls d e) [
  | inl h ↦
      let made : total_of (put_at n x v (l ∷ ls)) ≡ pairs_size (pairs_of (with_value x v l.vars)) + total_of ls = ap (λ (b : Bool). total_of (if b then with_variable x v l ∷ ls else l ∷ put_at n x v ls)) h.0 in
      let new = ap (λ (y : Layer). pairs_size (pairs_of (with_value x v y.vars))) h.1 in
      let old = ap (λ (y : Layer). pairs_size (pairs_of y.vars)) h.1 in
      omega (arith, made, put_size x v d.vars o, new, old)
  | inr h ↦
      let made : total_of (put_at n x v (l ∷ ls)) ≡ pairs_size (pairs_of l.vars) + total_of (put_at n x v ls) = ap (λ (b : Bool). total_of (if b then with_variable x v l ∷ ls else l ∷ put_at n x v ls)) h.0 in
      omega (arith, made, put_total n x v ls d h.1 o)
]

-- what a variable counts, where its layer has been found
pub counted_some : (n : ℕ) (x : Text) (v : Data) (ls : List Layer) (l : Layer) (r total : ℕ) → find n ls ≡ Some l → value_at x l.vars ≡ Some v → total ≡ total_of ls → total ≤ 18446744073709551613 → r ≡ min (2 + length x + size v) 18446744073709551615
    → r ≡ variable_size x (value_at x (vars_at n ls))
counted_some n x v ls l r total f e t room is =
    let here : variable_size x (value_at x l.vars) ≡ 2 + length x + size v = ap (variable_size x) e in
    let there : variable_size x (value_at x (vars_at n ls)) ≡ variable_size x (value_at x l.vars) = ap (λ ps. variable_size x (value_at x ps)) (vars_found n ls l f) in
    let within = variable_within x l.vars in
    let all = total_closed n ls l f in
    omega (arith, here, there, within, all, is, room, t)

-- it is at most what all count
pub counted_within : (n : ℕ) (x : Text) (ls : List Layer) (r total : ℕ) → IsLive n ls → total ≡ total_of ls → r ≡ variable_size x (value_at x (vars_at n ls)) → r ≤ total
counted_within n x ls r total live t is =
    let found = live_found n ls live in
    let there : variable_size x (value_at x (vars_at n ls)) ≡ variable_size x (value_at x found.0.vars) = ap (λ ps. variable_size x (value_at x ps)) (vars_found n ls found.0 found.1) in
    omega (arith, there, variable_within x found.0.vars, total_closed n ls found.0 found.1, is, t)

pub counted_none : (n : ℕ) (x : Text) (ls : List Layer) (l : Layer) → find n ls ≡ Some l → value_at x l.vars ≡ None → 0 ≡ variable_size x (value_at x (vars_at n ls))
counted_none n x ls l f e = sym (ap (λ ps. variable_size x (value_at x ps)) (vars_found n ls l f) ∙ ap (variable_size x) e)

-- what a layer counts is at most what all count
pub layer_within : (n : ℕ) (ls : List Layer) (l : Layer) (counted : ℕ) → find n ls ≡ Some l → counted ≡ pairs_size (pairs_of l.vars) → counted ≤ total_of ls
layer_within n ls l counted f is = omega (arith, total_closed n ls l f, is)

-- a layer that ends
pub ended : (n : ℕ) (ls : List Layer) (l : Layer) (counted total : ℕ) → find n ls ≡ Some l → total ≡ total_of ls → counted ≡ pairs_size (pairs_of l.vars) → (counted ≤ total) × (total - counted ≡ total_of (closed n ls))
ended n ls l counted total f t is =
    let all = total_closed n ls l f in
    (omega (arith, all, is, t), omega (arith, all, is, t))
