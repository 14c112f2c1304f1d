-- The kinds of records.
--     turn_of_record, start_of_record   what a record is that is read
--     first_record, added_record        the records that are written: with which a history begins, and what is added to it
use Rattle.std.specs.Prelude.{Bool, true, false, Option, Some, None}
use Rattle.wf_events.specs.Records.{Record, Started, Turned, Kept, Upgrade, Packed, StartedTwo}
use Rattle.wf_value.specs.Events.{Start, Turn}

-- ## Read
-- the turn of a record of either format
abbrev pub turn_of_record : Record → Option Turn
turn_of_record (Turned t) = Some t
turn_of_record (Packed t) = Some t
turn_of_record r = None

-- where there is a record
abbrev pub turn_in : Option Record → Option Turn
turn_in None = None
turn_in (Some r) = turn_of_record r

-- the start of a record, and whether it is of the second format
abbrev pub start_of_record : Record → Option (Start × Bool)
start_of_record (Started s) = Some (s, false)
start_of_record (StartedTwo s) = Some (s, true)
start_of_record r = None

-- ## Written
-- of a start
abbrev pub first_record : Start → Record
first_record s = Started s

-- of a turn
abbrev pub added_record : Turn → Record
added_record t = Turned t
