-- Parts printed one behind another, and the bytes behind them: where a part is told by the bytes, so are all.
use Rattle.std.proofs.Common.{◌≡◌, ℕ, ◌⊎◌, List, [], ◌∷◌, ◌++◌, All, refl, sym, ap₂, ◌∙◌, inl, inr, append_assoc}
use Rattle.std.specs.List.{flat_map}
use Rattle.std.proofs.lemmas.List.Elements.{All-head, All-tail}

-- the bytes begin with one part at most
abbrev pub IsUnique : {A : Type 0} → (A → Type 0) → (A → List ℕ) → Type 0
IsUnique Is print = (x y : _) (r q : List ℕ) → Is x → Is y → print x ++ r ≡ print y ++ q → (x ≡ y) × (r ≡ q)

-- ys are xs and more, whose first stands at the front of the rest behind xs
pub record GoesOn {A : Type 0} (Is : A → Type 0) (print : A → List ℕ) (xs ys : List A) (rest : List ℕ) : Type 0 where
  pub next : A
  pub more : List A
  pub behind : List ℕ
  pub all : ys ≡ xs ++ next ∷ more
  pub bytes : rest ≡ print next ++ behind
  pub next_is : Is next

-- two ways to read bytes are the same, or one goes on where the other ends
abbrev pub Compares : {A : Type 0} → (A → Type 0) → (A → List ℕ) → (xs ys : List A) → (rest other : List ℕ) → Type 0
Compares Is print xs ys rest other = ((xs ≡ ys) × (rest ≡ other)) ⊎ (GoesOn Is print xs ys rest ⊎ GoesOn Is print ys xs other)

further : {A : Type 0} (Is : A → Type 0) (print : A → List ℕ) (x y : A) (xs ys : List A) (rest : List ℕ) → x ≡ y → GoesOn Is print xs ys rest
    → GoesOn Is print (x ∷ xs) (y ∷ ys) rest
further Is print x y xs ys rest same on = record {
  next = on.next;
  more = on.more;
  behind = on.behind;
  all = ap₂ (λ a l. a ∷ l) (sym same) on.all;
  bytes = on.bytes;
  next_is = on.next_is;
}

compare_more : {A : Type 0} (Is : A → Type 0) (print : A → List ℕ) (x y : A) (xs ys : List A) (rest other : List ℕ) → x ≡ y
    → Compares Is print xs ys rest other → Compares Is print (x ∷ xs) (y ∷ ys) rest other
compare_more Is print x y xs ys rest other same (inl (all, behind)) = inl (ap₂ (λ a l. a ∷ l) same all, behind)
compare_more Is print x y xs ys rest other same (inr (inl on)) = inr (inl (further Is print x y xs ys rest same on))
compare_more Is print x y xs ys rest other same (inr (inr on)) = inr (inr (further Is print y x ys xs other (sym same) on))

pub compare : {A : Type 0} (Is : A → Type 0) (print : A → List ℕ) → IsUnique Is print → (xs ys : List A) (rest other : List ℕ) → All Is xs → All Is ys
    → flat_map print xs ++ rest ≡ flat_map print ys ++ other → Compares Is print xs ys rest other
compare Is print unique [] [] rest other all every e = inl (refl, e)
compare Is print unique [] (y ∷ ys) rest other all every e = inr (inl (record {
  next = y;
  more = ys;
  behind = flat_map print ys ++ other;
  all = refl;
  bytes = e ∙ append_assoc (print y) (flat_map print ys) other;
  next_is = All-head Is y ys every;
}))
compare Is print unique (x ∷ xs) [] rest other all every e = inr (inr (record {
  next = x;
  more = xs;
  behind = flat_map print xs ++ rest;
  all = refl;
  bytes = sym e ∙ append_assoc (print x) (flat_map print xs) rest;
  next_is = All-head Is x xs all;
}))
compare Is print unique (x ∷ xs) (y ∷ ys) rest other all every e =
    let one = sym (append_assoc (print x) (flat_map print xs) rest) ∙ e ∙ append_assoc (print y) (flat_map print ys) other in
    let same = unique x y (flat_map print xs ++ rest) (flat_map print ys ++ other) (All-head Is x xs all) (All-head Is y ys every) one in
    compare_more Is print x y xs ys rest other same.0
    (compare Is print unique xs ys rest other (All-tail Is x xs all) (All-tail Is y ys every) same.1)
