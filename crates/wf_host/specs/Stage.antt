-- How far a host in memory has come in its plan.
use Rattle.std.specs.Prelude.{◌||◌, ◌==◌, ℕ, ◌-◌, min, max, if◌then◌else◌, Bool, true, false, List, length, get_or, Option, None, Some, leb}
use Rattle.std.specs.List.{list_any}
use Rattle.wf_host.specs.declared.data.Deed.{Deed}
use Rattle.wf_host.specs.declared.data.Heard.{Heard}
use Rattle.wf_host.specs.declared.data.What.{What}
use Rattle.wf_host.specs.declared.data.What.TheVariants.{Nothing, Bytes, End, Broken, Visit, VisitEnd}
use Rattle.wf_host.specs.declared.plan.Service.{Service}
use Rattle.wf_host.specs.World.{next_count}
use Rattle.wf_host.specs.Ahead.{piece_limit, next_thing, ahead}

pub record Stage : Type 0 where
  pub fail : List ℕ  -- the numbers of the calls that fail, from 1
  pub stop : Option ℕ  -- after so many writes and syncs the calls fail
  pub clock : List ℕ  -- the readings of the clock
  pub print_room : Option ℕ  -- how many bytes are printed in all
  pub services : List Service  -- who answers calls
  pub calls : ℕ  -- the calls so far
  pub changes : ℕ  -- the writes and syncs that were carried out
  pub ticks : ℕ  -- the readings that were taken

-- a call was made
abbrev pub after_call : Stage → Stage
after_call s = record { fail = s.fail; stop = s.stop; clock = s.clock; print_room = s.print_room; services = s.services; calls = next_count s.calls; changes = s.changes; ticks = s.ticks }

-- a write or a sync was carried out
abbrev pub after_change : Stage → Stage
after_change s = record { fail = s.fail; stop = s.stop; clock = s.clock; print_room = s.print_room; services = s.services; calls = s.calls; changes = next_count s.changes; ticks = s.ticks }

-- a reading of the clock was taken
abbrev pub after_reading : Stage → Stage
after_reading s = record { fail = s.fail; stop = s.stop; clock = s.clock; print_room = s.print_room; services = s.services; calls = s.calls; changes = s.changes; ticks = next_count s.ticks }

-- so many writes and syncs were carried out that calls fail
abbrev pub is_stopped : Option ℕ → ℕ → Bool
is_stopped None changes = false
is_stopped (Some n) changes = leb n changes

-- the next call fails, if it can
abbrev pub call_fails : Stage → Bool
call_fails s = is_stopped s.stop s.changes || list_any (λ n. n == next_count s.calls) s.fail

-- the clock's next reading: its last one where it has run out, and 0 where it has none
abbrev pub reading : Stage → ℕ
reading s = get_or s.clock (min s.ticks (length s.clock - 1)) 0

-- of n bytes, where so many were printed, how many are taken
abbrev pub fitting : Option ℕ → ℕ → ℕ → ℕ
fitting None printed n = n
fitting (Some room) printed n = min n (room - printed)

abbrev pub is_nothing : What → Bool
is_nothing Nothing = true
is_nothing (Bytes k bytes) = false
is_nothing (End k) = false
is_nothing (Broken k) = false
is_nothing (Visit n bytes) = false
is_nothing (VisitEnd n) = false

-- the reading of a poll until this moment that hears this: a clock that has run out waits where nothing is heard
abbrev pub poll_reading : Stage → ℕ → What → ℕ
poll_reading s until what = if is_nothing what then (if leb (length s.clock) s.ticks then max (reading s) until else reading s) else reading s

abbrev pub heard_at : Stage → ℕ → What → Heard
heard_at s until what = record { reading = poll_reading s until what; what = what }

-- what the next poll hears, after these deeds
abbrev pub next_heard : Stage → List Deed → ℕ → Heard
next_heard s deeds until = heard_at s until (next_thing piece_limit (ahead s.services deeds))
