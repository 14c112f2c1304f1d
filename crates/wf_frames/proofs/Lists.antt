-- Lists of steps and entries from a place on.
use Rattle.std.proofs.Common.{◌≡◌, ℕ, ◌<◌, ◌≤◌, List, [], ◌∷◌, length, drop, refl, ap, arith}
use Rattle.std.specs.Prelude.{zero, suc}
use Rattle.wf_ast.specs.Tree.{Step, Steps, no_steps, more}
use Rattle.wf_model.specs.Spots.{Spot, steps_by, entries_by, from}

-- ## Steps
pub from_end : (ns : List Spot) (xs : List ℕ) (n : ℕ) → length xs ≤ n → from n (steps_by ns xs) ≡ no_steps
from_end ns [] zero h = refl
from_end ns [] (suc n) h = refl
from_end ns (x ∷ xs) zero h = absurd (omega (arith, h))
from_end ns (x ∷ xs) (suc n) h = from_end ns xs n (omega (arith, h))

-- the steps from one that is there
pub record More (ns : List Spot) (xs : List ℕ) (n : ℕ) : Type 0 where
  pub first : Step
  pub rest : Steps
  pub is : from n (steps_by ns xs) ≡ more first rest

pub from_more : (ns : List Spot) (xs : List ℕ) (n : ℕ) → n < length xs → More ns xs n
from_more ns [] n h = absurd (omega (arith, h))
from_more ns (x ∷ xs) zero h = record { first = _; rest = _; is = refl }
from_more ns (x ∷ xs) (suc n) h = let r = from_more ns xs n (omega (arith, h)) in record { first = r.first; rest = r.rest; is = r.is }

-- ## Entries

pub record Stays {A : Type 0} (xs : List A) (n : ℕ) : Type 0 where
  pub first : A
  pub rest : List A
  pub is : drop n xs ≡ first ∷ rest

pub drop_more : {A : Type 0} (xs : List A) (n : ℕ) → n < length xs → Stays xs n
drop_more [] n h = absurd (omega (arith, h))
drop_more (x ∷ xs) zero h = record { first = x; rest = xs; is = refl }
drop_more (x ∷ xs) (suc n) h = let r = drop_more xs n (omega (arith, h)) in record { first = r.first; rest = r.rest; is = r.is }

pub entries_long : (ns : List Spot) (xs : List ℕ) → length (entries_by ns xs) ≡ length xs
entries_long ns [] = refl
entries_long ns (x ∷ xs) = ap suc (entries_long ns xs)
