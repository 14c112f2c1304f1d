-- Going over the calls for the next open one.
use Rattle.std.proofs.Common.{◌≡◌, ◌⊎◌, inl, inr, ℕ, zero, suc, ◌+◌, ◌<◌, ◌≤◌, false, cond, List, length, drop, get_or, Some, Option, refl, sym, ap, ◌∙◌, arith, add-one}
use Rattle.std.proofs.Math.Nat.{eq-or-lt_of_le}
use Rattle.std.proofs.lemmas.Bool.{cases_lt}
use Rattle.std.proofs.lemmas.List.{at_drop_more}
use Rattle.std.proofs.lemmas.Option.{slice_get_read, slice_get_past}
use Rattle.std.specs.Option.{unwrap_or}
use Rattle.wf_calls.specs.NextOpen.{NoneOpen, first_open, next_open}
use Rattle.wf_calls.specs.Numbers.{call_in, is_open}
use Rattle.wf_model.specs.Config.{Call, Answered}

-- the calls above `after` are closed up to number `place`, and the search goes on behind them
pub record IsScanned (cs : List Call) (after place : ℕ) : Type 0 where
  pub same : next_open cs after ≡ first_open (suc place) (drop place cs)
  pub closed : (k : ℕ) → after < k → k ≤ place → is_open (call_in cs k) ≡ false

-- call i + 1 stands at place i
call_read : (cs : List Call) (i : ℕ) (x : Call) → i < length cs → x ≡ get_or cs i x → call_in cs (suc i) ≡ x
call_read cs i x within read = ap (λ o. unwrap_or o Answered) (slice_get_read cs (length cs) i x refl within read)

-- past the end no call is open
past_closed : (cs : List Call) (k : ℕ) → length cs < k → is_open (call_in cs k) ≡ false
past_closed cs zero past = refl
past_closed cs (suc k) past = ap (λ o. is_open (unwrap_or o Answered)) (slice_get_past cs k (omega arith))

-- a closed call is passed by the search
first_passed : (cs : List Call) (i : ℕ) (x : Call) → i < length cs → x ≡ get_or cs i x → is_open x ≡ false → first_open (suc i) (drop i cs) ≡ first_open (suc (i + 1)) (drop (i + 1) cs)
first_passed cs i x within read shut =
    let behind : Option ℕ = first_open (suc (suc i)) (drop (i + 1) cs) in
    at_drop_more (first_open (suc i)) cs i x within ∙ (ap (λ y. cond (is_open y) (Some (suc i)) behind) (sym read) ∙ (ap (λ b. cond b (Some (suc i)) behind) shut ∙ rw add-one))

closed_more : (cs : List Call) (after i k : ℕ) → IsScanned cs after i → is_open (call_in cs (suc i)) ≡ false → after < k → (k ≡ suc i) ⊎ (k < suc i) → is_open (call_in cs k) ≡ false
closed_more cs after i k s shut above (inl e) = rw e shut
closed_more cs after i k s shut above (inr below) = s.closed k above (omega arith)

-- and by the loop
pub passed : (cs : List Call) (after i : ℕ) (x : Call) → IsScanned cs after i → i < length cs → x ≡ get_or cs i x → is_open x ≡ false → IsScanned cs after (i + 1)
passed cs after i x s within read shut = record {
  same = s.same ∙ first_passed cs i x within read shut;
  closed = λ k above below.
      closed_more cs after i k s (ap is_open (call_read cs i x within read) ∙ shut) above (eq-or-lt_of_le (omega arith));
}

closed_behind : (cs : List Call) (after i k : ℕ) → IsScanned cs after i → length cs ≤ i → after < k → (i < k) ⊎ (k ≤ i) → is_open (call_in cs k) ≡ false
closed_behind cs after i k s past above (inl over) = past_closed cs k (omega arith)
closed_behind cs after i k s past above (inr under) = s.closed k above under

-- at the end there is none
pub ended : (cs : List Call) (after i : ℕ) → IsScanned cs after i → length cs ≤ i → NoneOpen cs after
ended cs after i s past = λ k above. closed_behind cs after i k s past above (cases_lt i k)
