-- What an engine makes of what it hears.
--     Finds      the answer that was made whole
--     SameBut    what stays
use Rattle.std.specs.Prelude.{◌≡◌, ◌⊎◌, ℕ, true, false, Option, Some, None, option_map}
use Rattle.wf_deeds.specs.Deeds.{IsAnswered}
use Rattle.wf_host.specs.World.{call_of}
use Rattle.wf_deeds.specs.Memory.{Memory, awaits}
use Rattle.wf_engine.specs.Taken.{taken_event}
use Rattle.wf_engine.specs.declared.taken.Taken.{Taken}
use Rattle.wf_host.specs.declared.data.What.{What}
use Rattle.wf_value.specs.Events as plain

-- the answer, if any, to which it comes with what was told of it by now
pub record FindsAnswer (m : Memory) (k : ℕ) (o : Option Taken) : Type 0 where
  pub awaited : awaits m k ≡ true
  pub answer : Option plain.Reply
  pub answered : IsAnswered (m.told k) answer
  pub taken : (r : ℕ) → taken_event r o ≡ option_map (plain.Answer k r) answer

-- of a call that is open and was started
abbrev pub FindsBy : Memory → Option Taken → Option ℕ → Type 0
FindsBy m o None = o ≡ None
FindsBy m o (Some k) = ((awaits m k ≡ false) × (o ≡ None)) ⊎ FindsAnswer m k o

abbrev pub Finds : Memory → What → Option Taken → Type 0
Finds m w o = FindsBy m o (call_of w)

-- the execution and the calls that were sent stay
pub record SameBut (m n : Memory) : Type 0 where
  pub program : n.program ≡ m.program
  pub config : n.config ≡ m.config
  pub session : n.session ≡ m.session
  pub started : (k : ℕ) → n.started k ≡ m.started k
  pub dropped : (k : ℕ) → n.dropped k ≡ m.dropped k
