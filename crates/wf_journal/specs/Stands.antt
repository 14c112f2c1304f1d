-- What a journal knows of its file.
use Rattle.std.specs.Prelude.{◌≡◌, ◌≤◌, ◌-◌, ℕ, Bool, true, false, List, length, drop, get_or}
use Rattle.wf_host.specs.World.{World, Only}
use Rattle.wf_journal.specs.Records.{records_from}
use Rattle.wf_journal.specs.Gates.{AtGate, AtEnd}
use Rattle.wf_journal.specs.declared.journal.Journal.{Journal}

-- the file has no magic yet
abbrev pub is_new : Journal → Bool
is_new j = j.is_new

-- the first gate that isn't open was reached
abbrev pub at_end : Journal → Bool
at_end j = j.at_end

-- a fault of the disk has closed it
abbrev pub is_closed : Journal → Bool
is_closed j = j.closed

-- the payloads that come next
abbrev pub ahead : Journal → List ℕ → List (List ℕ)
ahead j file = records_from (drop j.gate file)

-- the bytes from the next gate on, by the length that the file had when it was opened
abbrev pub unread : Journal → ℕ
unread j = j.size - j.gate

-- the file reads as it did at the end of this journal's last call, and a crash leaves just this
pub record Stands (j : Journal) (w : World) : Type 0 where
  pub settled : Only w.seen w.may_leave
  pub fresh : j.is_new ≡ true → (length w.seen ≤ 4) × (j.gate ≡ 4) × (j.at_end ≡ true)
  pub found : j.is_new ≡ false → AtGate w j.gate
  pub size : j.at_end ≡ false → j.size ≡ length w.seen
  pub ended : j.is_new ≡ false → j.at_end ≡ true → AtEnd w j.gate j.stale
  pub stale : j.is_new ≡ false → j.at_end ≡ true → j.stale ≡ true → get_or w.seen j.gate 0 ≡ 1
