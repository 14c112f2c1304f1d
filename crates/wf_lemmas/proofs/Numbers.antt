-- Sums, and numbers that differ.
use Rattle.std.proofs.Common.{◌≡◌, ◌+◌, ℕ, suc, false, sym, arith}
use Rattle.std.proofs.lemmas.Bool.{eqb-false, ne_eqb}
use Rattle.std.specs.Prelude.{nat_eq}

pub plus_zero : (n : ℕ) → n ≡ n + 0
plus_zero n = omega arith

pub suc_moved : (n m : ℕ) → suc n + m ≡ n + suc m
suc_moved n m = omega arith

pub suc_taken : (n m : ℕ) → n + suc m ≡ suc n + m
suc_taken n m = omega arith

pub two_taken : (n m : ℕ) → n + suc (suc m) ≡ suc (suc n) + m
two_taken n m = omega arith

pub unequal_turned : (a b : ℕ) → nat_eq a b ≡ false → nat_eq b a ≡ false
unequal_turned a b h = ne_eqb b a (λ s. eqb-false a b h (sym s))
