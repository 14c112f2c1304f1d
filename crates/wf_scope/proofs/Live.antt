-- Which layers are live, and which stand inside others, behind a change.
use Rattle.std.proofs.Common.{◌≡◌, ◌<◌, inl, inr, ℕ, Bool, true, false, List, [], ◌∷◌, ◌++◌, Option, Some, None, is_some, refl, sym, ap, subst, ◌∙◌, arith}
use Rattle.std.specs.Prelude.{nat_eq, if◌then◌else◌}
use Rattle.std.proofs.lemmas.Bool.{and_parts, eq-eqb, ne_eqb}
use Rattle.wf_value.specs.Data.{Data}
use Rattle.wf_value.specs.Pairs.{Text}
use Rattle.wf_scope.specs.Layers.{IsInnermost, IsLive, Layer, StayInnermost, StayLive, all_stand, find, fresh, is_inside, put_at, stands, with_variable}
use Rattle.wf_scope.proofs.Kept.{find_more, put_tells}
use Rattle.wf_scope.proofs.Numbers.{find_head, found_cases, live_found, number_found}
use Rattle.wf_scope.proofs.Seen.{outside}

-- ## A new layer
more_live : (ls more : List Layer) → StayLive ls (ls ++ more)
more_live ls more n h = let found = live_found n ls h in ap is_some (find_more n ls more found.0 found.1)

last_live : (ls : List Layer) (l : Layer) → IsLive l.number (ls ++ l ∷ [])
last_live [] l = ap is_some (find_head l.number l [] (eq-eqb l.number l.number refl))
last_live (x ∷ ls) l = by (nat_eq x.number l.number) (last_live ls l)
  where
    by : (b : Bool) → IsLive l.number (ls ++ l ∷ []) → is_some (if b then Some x else find l.number (ls ++ l ∷ [])) ≡ true
    by true later = refl
    by false later = later

-- each live number is below the new one
below_fresh : (o : ℕ) (ls : List Layer) (l : Layer) → find o ls ≡ Some l → o < fresh ls
below_fresh o [] l e = cc
below_fresh o (x ∷ ls) l e = elim (found_cases o x ls l e) [
  | inl h ↦ omega (arith, ap (λ (y : Layer). y.number) h.1, number_found o (x ∷ ls) l e)
  | inr h ↦ omega (arith, below_fresh o ls l h.1)
]

not_inside : (o : Option ℕ) (d : ℕ) (ls : List Layer) → stands o d ls ≡ true → is_inside (fresh ls) o ≡ false
not_inside None d ls h = refl
not_inside (Some o) d ls h =
    let y = outside o d ls h in
    let below = below_fresh o ls y.0 y.1 in
    ne_eqb o (fresh ls) (λ s. omega (arith, below, s))

none_inside : (ls rest : List Layer) → all_stand ls rest ≡ true → IsInnermost (fresh ls) rest
none_inside ls [] h = tt
none_inside ls (x ∷ rest) h =
    let two = and_parts (stands x.outer x.depth ls) (all_stand ls rest) h in
    (not_inside x.outer x.depth ls two.0, none_inside ls rest two.1)

innermost_push : (n : ℕ) (ls : List Layer) (l : Layer) → IsInnermost n ls → is_inside n l.outer ≡ false → IsInnermost n (ls ++ l ∷ [])
innermost_push n [] l h out = (out, tt)
innermost_push n (x ∷ ls) l h out = (h.0, innermost_push n ls l h.1 out)

pub pushed_live : (n : ℕ) (ls new : List Layer) (l : Layer) → new ≡ ls ++ l ∷ [] → l.number ≡ n → IsLive n new
pushed_live n ls new l e m = subst (λ (ys : List Layer). IsLive n ys) (sym e) (subst (λ (k : ℕ). IsLive k (ls ++ l ∷ [])) m (last_live ls l))

pub pushed_innermost : (n : ℕ) (ls new : List Layer) (l : Layer) → new ≡ ls ++ l ∷ [] → n ≡ fresh ls → all_stand ls ls ≡ true → stands l.outer l.depth ls ≡ true → IsInnermost n new
pushed_innermost n ls new l e m h s =
    let here : IsInnermost (fresh ls) (ls ++ l ∷ []) = innermost_push (fresh ls) ls l (none_inside ls ls h) (not_inside l.outer l.depth ls s) in
    subst (λ (ys : List Layer). IsInnermost n ys) (sym e) (subst (λ (k : ℕ). IsInnermost k (ls ++ l ∷ [])) (sym m) here)

pub pushed_stay : (ls new : List Layer) (l : Layer) → new ≡ ls ++ l ∷ [] → StayLive ls new
pushed_stay ls new l e n h = subst (λ (ys : List Layer). IsLive n ys) (sym e) (more_live ls (l ∷ []) n h)

-- ## A variable more
put_stay : (n : ℕ) (x : Text) (v : Data) (ls : List Layer) → StayLive ls (put_at n x v ls)
put_stay n x v ls o h = put_tells is_some (λ y u l. refl) o n x v ls ∙ h

put_innermost : (n : ℕ) (x : Text) (v : Data) (ls : List Layer) → StayInnermost ls (put_at n x v ls)
put_innermost n x v [] m h = h
put_innermost n x v (y ∷ ls) m h = by (nat_eq y.number n) (put_innermost n x v ls m h.1)
  where
    by : (b : Bool) → IsInnermost m (put_at n x v ls) → IsInnermost m (if b then with_variable x v y ∷ ls else y ∷ put_at n x v ls)
    by true later = h
    by false later = (h.0, later)

pub bound_stay : (n : ℕ) (x : Text) (v : Data) (ls new : List Layer) → new ≡ put_at n x v ls → StayLive ls new
bound_stay n x v ls new e m h = subst (λ (ys : List Layer). IsLive m ys) (sym e) (put_stay n x v ls m h)

pub bound_apart : (n : ℕ) (x : Text) (v : Data) (ls new : List Layer) → new ≡ put_at n x v ls → StayInnermost ls new
bound_apart n x v ls new e m h = subst (λ (ys : List Layer). IsInnermost m ys) (sym e) (put_innermost n x v ls m h)
