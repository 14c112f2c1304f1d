-- What is read at a gate.
use Rattle.std.specs.Prelude.{◌≡◌, ◌≢◌, ◌<◌, ◌≤◌, ◌+◌, ℕ, true, false, List, [], length, take, drop, get_or, slice_index}
use Rattle.std.specs.Int.{w32, from_be_bytes}
use Rattle.wf_journal.specs.Records.{records_from, length_of}
use Rattle.wf_journal.specs.declared.reading.Block.{Block}
use Rattle.wf_journal.specs.declared.reading.Block.TheVariants.{Payload, End}
use Rattle.wf_journal.specs.declared.reading.Head.{Head}
use Rattle.wf_journal.specs.declared.reading.Head.TheVariants.{Open, Shut}

-- an open gate with the length of its payload, or one that isn't open and whether its byte is 1
abbrev pub IsHead : List ℕ → ℕ → Head → Type 0
IsHead file gate (Open len) = (get_or file gate 0 ≡ 1) × (len ≡ length_of (drop (gate + 1) file)) × (gate + 5 + len < length file)
IsHead file gate (Shut stale) = (records_from (drop gate file) ≡ []) × (stale ≡ false → get_or file gate 0 ≢ 1) × (stale ≡ true → get_or file gate 0 ≡ 1)

-- the payload and the next gate lie in a file of this size
abbrev pub FitsIn : ℕ → ℕ → Head → Type 0
FitsIn size gate (Open len) = gate + 5 + len < size
FitsIn size gate (Shut stale) = Unit {0}

-- what the five bytes at a gate say, in a file of this size
abbrev pub SaysHead : List ℕ → ℕ → ℕ → Head → Type 0
SaysHead bytes gate size (Open len) = (slice_index bytes 0 ≡ 1) × (len ≡ from_be_bytes w32 (drop 1 bytes)) × (gate + 5 + len < size)
SaysHead bytes gate size (Shut stale) = (slice_index bytes 0 ≡ 1 → size ≤ gate + 5 + from_be_bytes w32 (drop 1 bytes)) × (stale ≡ false → slice_index bytes 0 ≢ 1) × (stale ≡ true → slice_index bytes 0 ≡ 1)

-- an open gate whose payload was read, or one that isn't open
abbrev pub IsBlock : List ℕ → ℕ → List ℕ → Block → Type 0
IsBlock file gate room (Payload len) = IsHead file gate (Open len) × (room ≡ take len (drop (gate + 5) file))
IsBlock file gate room (End stale) = IsHead file gate (Shut stale)

abbrev pub BlockFits : ℕ → ℕ → Block → Type 0
BlockFits size gate (Payload len) = gate + 5 + len < size
BlockFits size gate (End stale) = Unit {0}
