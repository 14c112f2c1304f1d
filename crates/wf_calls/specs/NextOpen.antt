-- The next open call.
use Rattle.std.specs.Prelude.{◌≡◌, ℕ, suc, ◌<◌, true, false, List, [], ◌∷◌, drop, if◌then◌else◌, Option, Some, None}
use Rattle.wf_calls.specs.Numbers.{call_in, is_open}
use Rattle.wf_model.specs.Config.{Call}

-- the number of the first open call, where the first of these calls has number n
abbrev pub first_open : ℕ → List Call → Option ℕ
first_open n [] = None
first_open n (x ∷ xs) = if is_open x then Some n else first_open (suc n) xs

-- the number of the first open call behind so many
abbrev pub next_open : List Call → ℕ → Option ℕ
next_open cs after = first_open (suc after) (drop after cs)

-- call n is open, and no other one between
pub record IsNextOpen (cs : List Call) (after n : ℕ) : Type 0 where
  pub above : after < n
  pub found : is_open (call_in cs n) ≡ true
  pub least : (k : ℕ) → after < k → k < n → is_open (call_in cs k) ≡ false

-- no call with a number above is open
abbrev pub NoneOpen : List Call → ℕ → Type 0
NoneOpen cs after = (k : ℕ) → after < k → is_open (call_in cs k) ≡ false
