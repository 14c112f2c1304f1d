-- How a gate stands in its file.
use Rattle.std.specs.Prelude.{◌≡◌, ◌≢◌, ◌<◌, ◌≤◌, ℕ, Bool, false, List, [], ◌++◌, length, take, drop, get_or}
use Rattle.wf_host.specs.World.{World, Only}
use Rattle.wf_journal.specs.Records.{magic, records, records_from}

-- a gate stands there, the payloads passed are those before it, and the file is on the disk
pub record AtGate (w : World) (gate : ℕ) : Type 0 where
  pub settled : Only w.seen w.may_leave
  pub begins : take 4 w.seen ≡ magic
  pub behind : 4 ≤ gate
  pub inside : gate < length w.seen
  pub passed : List (List ℕ)
  -- whatever stands from this gate on
  pub opens : (ahead : List ℕ) → 0 < length ahead → records (take gate w.seen ++ ahead) ≡ passed ++ records_from ahead

-- the gate isn't open, and where it isn't stale its byte isn't 1
pub record AtEnd (w : World) (gate : ℕ) (stale : Bool) : Type 0 where
  pub at : AtGate w gate
  pub shut : records_from (drop gate w.seen) ≡ []
  pub closed : stale ≡ false → get_or w.seen gate 0 ≢ 1
