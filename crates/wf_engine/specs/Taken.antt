-- What was taken and waits for its turn.
--     taken_event    the event that brings it
--     IsTakable      the execution goes on, and the call is open
use Rattle.std.specs.Prelude.{◌≡◌, ℕ, true, is_some, Option, Some, None}
use Rattle.wf_engine.specs.declared.taken.Taken.{Taken}
use Rattle.wf_model.specs.Config.{Active, Config}
use Rattle.wf_model.specs.Ready.{request_of}
use Rattle.wf_record_parts.specs.View.{reply_view}
use Rattle.wf_value.specs.Events.{Event, Answer}

-- at a reading of the clock
abbrev pub taken_event : ℕ → Option Taken → Option Event
taken_event r None = None
taken_event r (Some t) = Some (Answer t.call r (reply_view t.reply.value))

pub record IsTakable (c : Config) (t : Taken) : Type 0 where
  pub active : c.outcome ≡ Active
  pub opened : is_some (request_of c t.call) ≡ true

abbrev pub AreTakable : Config → Option Taken → Type 0
AreTakable c o = (t : Taken) → o ≡ Some t → IsTakable c t
