-- Tests, and what is chosen by them.
use Rattle.std.proofs.Common.{◌≡◌, Bool, true, false, not, ◌&&◌, ◌||◌, cond, if◌then◌else◌, refl, sym, ◌∙◌}
use Rattle.std.proofs.lemmas.Bool.{false≢true, true≢false}
use Rattle.std.specs.Prelude.{T}

-- ## One answer
pub clash : (a : Bool) → a ≡ false → a ≡ true → ⊥
clash a h k = false≢true (sym h ∙ k)

pub by_test : {P : Type 0} (a : Bool) → (a ≡ true → P) → (a ≡ false → P) → P
by_test true f g = f refl
by_test false f g = g refl

pub false_unless : (a : Bool) → (a ≡ true → ⊥) → a ≡ false
false_unless true h = absurd (h refl)
false_unless false h = refl

pub same_answer : (a b : Bool) → (a ≡ true → b ≡ true) → (b ≡ true → a ≡ true) → a ≡ b
same_answer true b there back = sym (there refl)
same_answer false true there back = back refl
same_answer false false there back = refl

-- ## Both
pub and_left : (a b : Bool) → (a && b) ≡ true → a ≡ true
and_left true b h = refl
and_left false b h = h

pub and_right : (a b : Bool) → (a && b) ≡ true → b ≡ true
and_right true b h = h
and_right false b h = absurd (false≢true h)

pub and_none : (a : Bool) → a && true ≡ a
and_none true = refl
and_none false = refl

pub and_false : (a b : Bool) → b ≡ false → (a && b) ≡ false
and_false true b h = h
and_false false b h = refl

pub T_not : (a : Bool) → a ≡ false → T (not a)
T_not true h = absurd (true≢false h)
T_not false h = tt

pub T_left : (a b : Bool) → T (a && b) → T a
T_left true b h = tt
T_left false b h = absurd h

pub T_right : (a b : Bool) → T (a && b) → T b
T_right true b h = h
T_right false b h = absurd h

-- ## Either
pub or_true : (a b : Bool) → b ≡ true → (a || b) ≡ true
or_true true b h = refl
or_true false b h = h

pub or_more : (a b c : Bool) → (b ≡ true → c ≡ true) → (a || b) ≡ true → (a || c) ≡ true
or_more true b c f h = refl
or_more false b c f h = f h

pub or_left : (a b : Bool) → (a || b) ≡ false → a ≡ false
or_left true b h = h
or_left false b h = refl

pub or_right : (a b : Bool) → (a || b) ≡ false → b ≡ false
or_right true b h = absurd (true≢false h)
or_right false b h = h

pub or_none : (a : Bool) → (a || false) ≡ a
or_none true = refl
or_none false = refl

pub or_comm : (a b : Bool) → (a || b) ≡ (b || a)
or_comm true true = refl
or_comm true false = refl
or_comm false true = refl
or_comm false false = refl

pub or_assoc : (a b c : Bool) → (a || (b || c)) ≡ ((a || b) || c)
or_assoc true b c = refl
or_assoc false b c = refl

pub or_swapped : (a b c : Bool) → (a || (b || c)) ≡ (b || (a || c))
or_swapped true true c = refl
or_swapped true false c = refl
or_swapped false b c = refl

pub or_regrouped : (a b c : Bool) → ((a || b) || c) ≡ (b || (a || c))
or_regrouped true true c = refl
or_regrouped true false c = refl
or_regrouped false b c = refl

pub or_twice : (a b : Bool) → (a || b) ≡ (a || (a || b))
or_twice true b = refl
or_twice false b = refl

-- ## What is chosen
pub cond_true : {A : Type 0} (a : Bool) (x y : A) → a ≡ true → cond a x y ≡ x
cond_true true x y h = refl
cond_true false x y h = absurd (false≢true h)

pub cond_false : {A : Type 0} (a : Bool) (x y : A) → a ≡ false → cond a x y ≡ y
cond_false true x y h = absurd (true≢false h)
cond_false false x y h = refl

pub cond_or : (a b : Bool) → cond a true b ≡ (a || b)
cond_or true b = refl
cond_or false b = refl

pub if_not : {A : Type 0} (a : Bool) (x y : A) → (if not a then x else y) ≡ (if a then y else x)
if_not true x y = refl
if_not false x y = refl
