-- Numbers that are counted along lists of items.
use Rattle.std.proofs.Common.{◌≡◌, ℕ, ◌+◌, ◌<◌, ◌≤◌, List, [], ◌∷◌, length, drop, get_or, arith, sym, ap, ◌∙◌}
use Rattle.wf_lemmas.proofs.Lists.{drop_end, item_at}

-- one item more
pub count_next : {A : Type 0} (row : List A → ℕ) (size : A → ℕ) (xs : List A) (i : ℕ) (x : A) (n m total : ℕ) → i < length xs → x ≡ get_or xs i x → ((y : A) (ys : List A) → row (y ∷ ys) ≡ size y + row ys)
    → n + row (drop i xs) ≡ total → m ≡ n + size x → m + row (drop (i + 1) xs) ≡ total
count_next row size xs i x n m total lt is e k h =
    let a : row (drop i xs) ≡ size x + row (drop (i + 1) xs) = ap row (item_at xs i x lt is) ∙ e x (drop (i + 1) xs) in
    counted n m (size x) (row (drop (i + 1) xs)) total (sym (ap (λ z. n + z) a) ∙ k) h
  where
    counted : (n m s r total : ℕ) → n + (s + r) ≡ total → m ≡ n + s → m + r ≡ total
    counted n m s r total f g = omega (arith, f, g)

pub count_ends : {A : Type 0} (row : List A → ℕ) (xs : List A) (i : ℕ) (n total : ℕ) → length xs ≤ i → row [] ≡ 0 → n + row (drop i xs) ≡ total → n ≡ total
count_ends row xs i n total past e k = ended n (row (drop i xs)) total (ap row (drop_end xs i past) ∙ e) k
  where
    ended : (n r total : ℕ) → r ≡ 0 → n + r ≡ total → n ≡ total
    ended n r total f g = omega (arith, f, g)
