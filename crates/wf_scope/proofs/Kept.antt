-- What opening, ending and changing a layer keeps: rising numbers, and that each layer stands.
use Rattle.std.proofs.Common.{◌≡◌, ◌<◌, ◌≤◌, inl, inr, ℕ, zero, suc, Bool, true, false, ◌&&◌, List, [], ◌∷◌, ◌++◌, length, get_or, Option, Some, None, refl, sym, ap, ◌∙◌, arith}
use Rattle.std.specs.Prelude.{nat_eq, nat_lt, if◌then◌else◌, slice_get, slice_set}
use Rattle.std.specs.List.{remove}
use Rattle.std.proofs.lemmas.Bool.{and_from, and_parts, eq-eqb, eqb-false, eqb-true, lt-ltb, ne_eqb}
use Rattle.std.proofs.lemmas.List.{set-get_or}
use Rattle.std.proofs.lemmas.Option.{get_or_from_slice_get, slice_get_within}
use Rattle.wf_value.specs.Data.{Data}
use Rattle.wf_value.specs.Pairs.{Text}
use Rattle.wf_scope.specs.Layers.{IsInnermost, IsLive, Layer, all_above, all_stand, closed, find, fresh, is_inside, is_outside, put_at, put_place, rises, stands, with_variable}
use Rattle.wf_scope.proofs.Numbers.{above_at, find_head, find_tail, found_cases, live_found, number_found}
use Rattle.wf_scope.proofs.Seen.{outside}

-- ## One more layer
above_push : (n : ℕ) (ls : List Layer) (l : Layer) → all_above n ls ≡ true → n < l.number → all_above n (ls ++ l ∷ []) ≡ true
above_push n [] l h e = and_from (nat_lt n l.number) true (lt-ltb n l.number e) refl
above_push n (x ∷ ls) l h e =
    let two = and_parts (nat_lt n x.number) (all_above n ls) h in
    and_from (nat_lt n x.number) (all_above n (ls ++ l ∷ [])) two.0 (above_push n ls l two.1 e)

pub rises_push : (ls : List Layer) (l : Layer) → rises ls ≡ true → fresh ls ≤ l.number → rises (ls ++ l ∷ []) ≡ true
rises_push [] l h e = refl
rises_push (x ∷ ls) l h e =
    let two = and_parts (all_above x.number ls) (rises ls) h in
    and_from (all_above x.number (ls ++ l ∷ [])) (rises (ls ++ l ∷ [])) (above_push x.number ls l two.0 (omega (arith, e))) (rises_push ls l two.1 (omega (arith, e)))

pub find_more : (n : ℕ) (ls more : List Layer) (l : Layer) → find n ls ≡ Some l → find n (ls ++ more) ≡ Some l
find_more n [] more l e = cc
find_more n (x ∷ ls) more l e = elim (found_cases n x ls l e) [
  | inl h ↦ find_head n x (ls ++ more) h.0 ∙ ap Some h.1
  | inr h ↦ find_tail n x (ls ++ more) h.0 ∙ find_more n ls more l h.1
]

stands_more : (o : Option ℕ) (d : ℕ) (ls more : List Layer) → stands o d ls ≡ true → stands o d (ls ++ more) ≡ true
stands_more None d ls more h = h
stands_more (Some o) d ls more h =
    let y = outside o d ls h in
    ap (is_outside d) (find_more o ls more y.0 y.1) ∙ eq-eqb d (suc y.0.depth) y.2

all_stand_more : (ls more rest : List Layer) → all_stand ls rest ≡ true → all_stand (ls ++ more) rest ≡ true
all_stand_more ls more [] h = refl
all_stand_more ls more (x ∷ rest) h =
    let two = and_parts (stands x.outer x.depth ls) (all_stand ls rest) h in
    and_from (stands x.outer x.depth (ls ++ more)) (all_stand (ls ++ more) rest) (stands_more x.outer x.depth ls more two.0) (all_stand_more ls more rest two.1)

all_stand_last : (ls rest : List Layer) (l : Layer) → all_stand ls rest ≡ true → stands l.outer l.depth ls ≡ true → all_stand ls (rest ++ l ∷ []) ≡ true
all_stand_last ls [] l h s = and_from (stands l.outer l.depth ls) true s refl
all_stand_last ls (x ∷ rest) l h s =
    let two = and_parts (stands x.outer x.depth ls) (all_stand ls rest) h in
    and_from (stands x.outer x.depth ls) (all_stand ls (rest ++ l ∷ [])) two.0 (all_stand_last ls rest l two.1 s)

pub all_stand_push : (ls : List Layer) (l : Layer) → all_stand ls ls ≡ true → stands l.outer l.depth ls ≡ true → all_stand (ls ++ l ∷ []) (ls ++ l ∷ []) ≡ true
all_stand_push ls l h s = all_stand_last (ls ++ l ∷ []) ls l (all_stand_more ls (l ∷ []) ls h) (stands_more l.outer l.depth ls (l ∷ []) s)

-- ## One layer less
pub closed_head : (n : ℕ) (x : Layer) (ls : List Layer) → nat_eq x.number n ≡ true → closed n (x ∷ ls) ≡ ls
closed_head n x ls t = ap (λ (b : Bool). if b then ls else x ∷ closed n ls) t

pub closed_tail : (n : ℕ) (x : Layer) (ls : List Layer) → nat_eq x.number n ≡ false → closed n (x ∷ ls) ≡ x ∷ closed n ls
closed_tail n x ls t = ap (λ (b : Bool). if b then ls else x ∷ closed n ls) t

pub removed : (n : ℕ) (ls : List Layer) (i : ℕ) (l : Layer) → rises ls ≡ true → slice_get ls i ≡ Some l → l.number ≡ n → remove ls i ≡ closed n ls
removed n [] i l h e m = cc
removed n (x ∷ ls) zero l h e m =
    let same : x ≡ l = cc in
    sym (closed_head n x ls (eq-eqb x.number n (ap (λ (y : Layer). y.number) same ∙ m)))
removed n (x ∷ ls) (suc i) l h e m =
    let two = and_parts (all_above x.number ls) (rises ls) h in
    let above = above_at x.number ls i l two.0 (slice_get_within ls i l e) in
    let number = ap (λ (y : Layer). y.number) (get_or_from_slice_get ls i l l e) in
    ap (λ (ys : List Layer). x ∷ ys) (removed n ls i l two.1 e m) ∙ sym (closed_tail n x ls (ne_eqb x.number n (λ s. omega (arith, above, number, m, s))))

above_closed : (m n : ℕ) (ls : List Layer) → all_above m ls ≡ true → all_above m (closed n ls) ≡ true
above_closed m n [] h = refl
above_closed m n (x ∷ ls) h = by (nat_eq x.number n) (above_closed m n ls (and_parts (nat_lt m x.number) (all_above m ls) h).1)
  where
    by : (b : Bool) → all_above m (closed n ls) ≡ true → all_above m (if b then ls else x ∷ closed n ls) ≡ true
    by true later = (and_parts (nat_lt m x.number) (all_above m ls) h).1
    by false later = and_from (nat_lt m x.number) (all_above m (closed n ls)) (and_parts (nat_lt m x.number) (all_above m ls) h).0 later

pub rises_closed : (n : ℕ) (ls : List Layer) → rises ls ≡ true → rises (closed n ls) ≡ true
rises_closed n [] h = refl
rises_closed n (x ∷ ls) h = by (nat_eq x.number n) (rises_closed n ls (and_parts (all_above x.number ls) (rises ls) h).1)
  where
    by : (b : Bool) → rises (closed n ls) ≡ true → rises (if b then ls else x ∷ closed n ls) ≡ true
    by true later = (and_parts (all_above x.number ls) (rises ls) h).1
    by false later = and_from (all_above x.number (closed n ls)) (rises (closed n ls)) (above_closed x.number n ls (and_parts (all_above x.number ls) (rises ls) h).0) later

pub find_closed : (n o : ℕ) (ls : List Layer) → nat_eq o n ≡ false → find o (closed n ls) ≡ find o ls
find_closed n o [] h = refl
find_closed n o (x ∷ ls) h = by (nat_eq x.number n) refl (find_closed n o ls h)
  where
    by : (b : Bool) → nat_eq x.number n ≡ b → find o (closed n ls) ≡ find o ls → find o (if b then ls else x ∷ closed n ls) ≡ find o (x ∷ ls)
    by true t later =
        let same = eqb-true x.number n t in
        sym (find_tail o x ls (ne_eqb x.number o (λ s. eqb-false o n h (sym s ∙ same))))
    by false t later = ap (λ g. if nat_eq x.number o then Some x else g) later

stands_closed : (n : ℕ) (o : Option ℕ) (d : ℕ) (ls : List Layer) → is_inside n o ≡ false → stands o d ls ≡ true → stands o d (closed n ls) ≡ true
stands_closed n None d ls out h = h
stands_closed n (Some o) d ls out h = ap (is_outside d) (find_closed n o ls out) ∙ h

others_stand : (n : ℕ) (ls rest : List Layer) → IsInnermost n rest → all_stand ls rest ≡ true → all_stand (closed n ls) rest ≡ true
others_stand n ls [] out h = refl
others_stand n ls (x ∷ rest) out h =
    let two = and_parts (stands x.outer x.depth ls) (all_stand ls rest) h in
    and_from (stands x.outer x.depth (closed n ls)) (all_stand (closed n ls) rest) (stands_closed n x.outer x.depth ls out.0 two.0) (others_stand n ls rest out.1 two.1)

fewer_stand : (n : ℕ) (ls rest : List Layer) → all_stand ls rest ≡ true → all_stand ls (closed n rest) ≡ true
fewer_stand n ls [] h = refl
fewer_stand n ls (x ∷ rest) h = by (nat_eq x.number n) (fewer_stand n ls rest (and_parts (stands x.outer x.depth ls) (all_stand ls rest) h).1)
  where
    by : (b : Bool) → all_stand ls (closed n rest) ≡ true → all_stand ls (if b then rest else x ∷ closed n rest) ≡ true
    by true later = (and_parts (stands x.outer x.depth ls) (all_stand ls rest) h).1
    by false later = and_from (stands x.outer x.depth ls) (all_stand ls (closed n rest)) (and_parts (stands x.outer x.depth ls) (all_stand ls rest) h).0 later

pub all_stand_closed : (n : ℕ) (ls : List Layer) → IsInnermost n ls → all_stand ls ls ≡ true → all_stand (closed n ls) (closed n ls) ≡ true
all_stand_closed n ls out h = fewer_stand n (closed n ls) ls (others_stand n ls ls out h)

-- ## A variable more
put_above : (m n : ℕ) (x : Text) (v : Data) (ls : List Layer) → all_above m (put_at n x v ls) ≡ all_above m ls
put_above m n x v [] = refl
put_above m n x v (y ∷ ls) = by (nat_eq y.number n) (put_above m n x v ls)
  where
    by : (b : Bool) → all_above m (put_at n x v ls) ≡ all_above m ls → all_above m (if b then with_variable x v y ∷ ls else y ∷ put_at n x v ls) ≡ all_above m (y ∷ ls)
    by true later = refl
    by false later = ap (λ (c : Bool). nat_lt m y.number && c) later

put_rises : (n : ℕ) (x : Text) (v : Data) (ls : List Layer) → rises (put_at n x v ls) ≡ rises ls
put_rises n x v [] = refl
put_rises n x v (y ∷ ls) = by (nat_eq y.number n) (put_rises n x v ls)
  where
    by : (b : Bool) → rises (put_at n x v ls) ≡ rises ls → rises (if b then with_variable x v y ∷ ls else y ∷ put_at n x v ls) ≡ rises (y ∷ ls)
    by true later = refl
    by false later =
        ap (λ (c : Bool). c && rises (put_at n x v ls)) (put_above y.number n x v ls) ∙ ap (λ (c : Bool). all_above y.number ls && c) later

module _ (tells : Option Layer → Bool) (same : (x : Text) (v : Data) (l : Layer) → tells (Some (with_variable x v l)) ≡ tells (Some l)) where
  -- what doesn't look at variables
  pub put_tells : (o n : ℕ) (x : Text) (v : Data) (ls : List Layer) → tells (find o (put_at n x v ls)) ≡ tells (find o ls)
  put_tells o n x v [] = refl
  put_tells o n x v (y ∷ ls) = by (nat_eq y.number n) (put_tells o n x v ls)
    where
      head : (c : Bool) → tells (if c then Some (with_variable x v y) else find o ls) ≡ tells (if c then Some y else find o ls)
      head true = same x v y
      head false = refl

      tail : (c : Bool) → tells (find o (put_at n x v ls)) ≡ tells (find o ls) → tells (if c then Some y else find o (put_at n x v ls)) ≡ tells (if c then Some y else find o ls)
      tail true later = refl
      tail false later = later

      by : (b : Bool) → tells (find o (put_at n x v ls)) ≡ tells (find o ls) → tells (find o (if b then with_variable x v y ∷ ls else y ∷ put_at n x v ls)) ≡ tells (find o (y ∷ ls))
      by true later = head (nat_eq y.number o)
      by false later = tail (nat_eq y.number o) later

put_stands : (o : Option ℕ) (d n : ℕ) (x : Text) (v : Data) (ls : List Layer) → stands o d (put_at n x v ls) ≡ stands o d ls
put_stands None d n x v ls = refl
put_stands (Some o) d n x v ls = put_tells (is_outside d) (λ y u l. refl) o n x v ls

put_others : (n : ℕ) (x : Text) (v : Data) (ls rest : List Layer) → all_stand (put_at n x v ls) rest ≡ all_stand ls rest
put_others n x v ls [] = refl
put_others n x v ls (y ∷ rest) =
    ap (λ (c : Bool). c && all_stand (put_at n x v ls) rest) (put_stands y.outer y.depth n x v ls) ∙ ap (λ (c : Bool). stands y.outer y.depth ls && c) (put_others n x v ls rest)

put_one : (n : ℕ) (x : Text) (v : Data) (ls rest : List Layer) → all_stand ls (put_at n x v rest) ≡ all_stand ls rest
put_one n x v ls [] = refl
put_one n x v ls (y ∷ rest) = by (nat_eq y.number n) (put_one n x v ls rest)
  where
    by : (b : Bool) → all_stand ls (put_at n x v rest) ≡ all_stand ls rest → all_stand ls (if b then with_variable x v y ∷ rest else y ∷ put_at n x v rest) ≡ all_stand ls (y ∷ rest)
    by true later = refl
    by false later = ap (λ (c : Bool). stands y.outer y.depth ls && c) later

put_all_stand : (n : ℕ) (x : Text) (v : Data) (ls : List Layer) → all_stand (put_at n x v ls) (put_at n x v ls) ≡ all_stand ls ls
put_all_stand n x v ls = put_one n x v (put_at n x v ls) ls ∙ put_others n x v ls ls

-- the layer at a place is the one with the number
put_placed : (n : ℕ) (x : Text) (v : Data) (ls : List Layer) (i : ℕ) (l : Layer) → rises ls ≡ true → slice_get ls i ≡ Some l → l.number ≡ n → put_place i x v ls ≡ put_at n x v ls
put_placed n x v [] i l h e m = cc
put_placed n x v (y ∷ ls) zero l h e m =
    let same : y ≡ l = cc in
    let t : nat_eq y.number n ≡ true = eq-eqb y.number n (ap (λ (z : Layer). z.number) same ∙ m) in
    sym (ap (λ (b : Bool). if b then with_variable x v y ∷ ls else y ∷ put_at n x v ls) t)
put_placed n x v (y ∷ ls) (suc i) l h e m =
    let two = and_parts (all_above y.number ls) (rises ls) h in
    let above = above_at y.number ls i l two.0 (slice_get_within ls i l e) in
    let number = ap (λ (z : Layer). z.number) (get_or_from_slice_get ls i l l e) in
    let t : nat_eq y.number n ≡ false = ne_eqb y.number n (λ s. omega (arith, above, number, m, s)) in
    ap (λ (zs : List Layer). y ∷ zs) (put_placed n x v ls i l two.1 e m) ∙ sym (ap (λ (b : Bool). if b then with_variable x v y ∷ ls else y ∷ put_at n x v ls) t)

set_variable : (ls : List Layer) (i : ℕ) (x : Text) (v : Data) (l : Layer) → i < length ls → l ≡ get_or ls i l → slice_set ls i (with_variable x v l) ≡ put_place i x v ls
set_variable [] i x v l w e = absurd (omega (arith, w))
set_variable (y ∷ ls) zero x v l w e = ap (λ z. with_variable x v z ∷ ls) e
set_variable (y ∷ ls) (suc i) x v l w e = ap (λ zs. y ∷ zs) (set_variable ls i x v l (omega (arith, w)) e)

pub set_placed : (ok : Bool) (ls : List Layer) (i : ℕ) (x : Text) (v : Data) (l m : Layer) → i < length ls → l ≡ get_or ls i l → m ≡ (if ok then with_variable x v l else l) → slice_set ls i m ≡ (if ok then put_place i x v ls else ls)
set_placed true ls i x v l m w e f = ap (slice_set ls i) f ∙ set_variable ls i x v l w e
set_placed false ls i x v l m w e f = ap (slice_set ls i) (f ∙ e) ∙ set-get_or ls i l

-- ## A store behind a change
-- one more layer, or as it was
pub pushed : (ok : Bool) (ls new : List Layer) (l : Layer) → new ≡ (if ok then ls ++ l ∷ [] else ls) → all_stand ls ls ≡ true → stands l.outer l.depth ls ≡ true → rises ls ≡ true → l.number ≡ fresh ls
    → (rises new ≡ true) × (all_stand new new ≡ true)
pushed true ls new l e h s r n = (ap rises e ∙ rises_push ls l r (omega (arith, n)), ap (λ ys. all_stand ys ys) e ∙ all_stand_push ls l h s)
pushed false ls new l e h s r n = (ap rises e ∙ r, ap (λ ys. all_stand ys ys) e ∙ h)

-- a variable more
pub put_kept : (n : ℕ) (x : Text) (v : Data) (ls new : List Layer) (i : ℕ) → find n ls ≡ slice_get ls i → IsLive n ls → new ≡ put_place i x v ls → rises ls ≡ true → all_stand ls ls ≡ true
    → (new ≡ put_at n x v ls) × (rises new ≡ true) × (all_stand new new ≡ true)
put_kept n x v ls new i at live e r s =
    let found = live_found n ls live in
    let same : new ≡ put_at n x v ls = e ∙ put_placed n x v ls i found.0 r (sym at ∙ found.1) (number_found n ls found.0 found.1) in
    (same, ap rises same ∙ put_rises n x v ls ∙ r, ap (λ ys. all_stand ys ys) same ∙ put_all_stand n x v ls ∙ s)
