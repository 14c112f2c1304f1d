-- Where a history that was read and its machine stand.
use Rattle.std.specs.Prelude.{◌≡◌, ℕ, false, is_some, List, ◌∷◌, Option, Some, None}
use Rattle.wf_events.specs.Reading.{meaning}
use Rattle.wf_history.specs.Stands.{place, last}
use Rattle.wf_history.specs.declared.history.History as history
use Rattle.wf_machine.specs.Seen.{state_of}
use Rattle.wf_machine.specs.declared.machine.Machine as machine
use Rattle.wf_deeds.specs.History.{Standing, goes_on}
use Rattle.wf_replay.specs.TheLanguage.{the_language}

abbrev pub session_of : Option (ℕ × ℕ) → ℕ
session_of None = 0
session_of (Some p) = p.0

abbrev pub waits_of : Option (ℕ × ℕ) → ℕ
waits_of None = 0
waits_of (Some p) = p.1

-- the machine's program and configuration behind so many records of the first format, with the session and the waits of the last turn
unfoldable pub stands_at : ℕ → Option (ℕ × ℕ) → machine.Machine → Standing
stands_at number last m = record {
  program = (state_of m).program;
  config = (state_of m).config;
  number = number;
  session = session_of last;
  waits = waits_of last;
  two = false;
  marks = is_some last;
}

-- the same behind the records that a history has read
abbrev pub standing : history.History → machine.Machine → Standing
standing h m = stands_at (place h) (last h) m

-- the first of the records that come next goes on, and the others come next behind it
pub record Passes (s t : Standing) (ahead rest : List (List ℕ)) : Type 0 where
  pub payload : List ℕ
  pub next : ahead ≡ payload ∷ rest
  pub on : goes_on the_language s (meaning payload) ≡ Some t
