-- Calls by their numbers, of which the first is 1.
--     call_in, closed_at         the call of a number, and the calls of which this one is closed
--     call_task, is_open         of a call
--     NumbersAreThoseOfSteps     both are those of a configuration
use Rattle.std.specs.Prelude.{◌≡◌, ℕ, zero, suc, Bool, true, false, List, slice_get, slice_set, Option, Some, None, unwrap_or}
use Rattle.wf_model.specs.Config.{Call, Open, Answered, Config}
use Rattle.wf_model.specs.Ready.{call}
use Rattle.wf_model.specs.Step.{close}

-- a call by its number; one that there isn't counts as closed
abbrev pub call_in : List Call → ℕ → Call
call_in cs zero = Answered
call_in cs (suc n) = unwrap_or (slice_get cs n) Answered

-- the calls, with this one in the place of call n
abbrev pub closed_at : List Call → ℕ → Call → List Call
closed_at cs zero x = cs
closed_at cs (suc n) x = slice_set cs n x

-- the task of an open call
abbrev pub call_task : Call → Option ℕ
call_task (Open b q due) = Some b
call_task x = None

abbrev pub is_open : Call → Bool
is_open (Open b q due) = true
is_open x = false

-- the same as in a configuration
pub record NumbersAreThoseOfSteps : Type 0 where
  pub found : (c : Config) (n : ℕ) → call c n ≡ call_in c.calls n
  pub closed :
      (n : ℕ) (x : Call) (c : Config) → close n x c ≡ record c { calls = closed_at c.calls n x }
