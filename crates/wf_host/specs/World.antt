-- What a host is seen as: a file, what a crash may leave of it, and the deeds so far.
use Rattle.std.specs.Prelude.{◌≡◌, ◌⊎◌, ℕ, ◌+◌, ◌-◌, ◌^◌, ◌≤◌, min, max, Bool, IsTrue, Option, None, Some, List, ◌++◌, length, take, drop}
use Rattle.wf_host.specs.declared.data.Deed.{Deed}
use Rattle.wf_host.specs.declared.data.What.{What}
use Rattle.wf_host.specs.declared.data.What.TheVariants.{Nothing, Bytes, End, Broken, Visit, VisitEnd}

pub record World : Type 1 where
  pub tells : Bool  -- whether the rest is told
  pub seen : List ℕ  -- what a read gives
  pub may_leave : List ℕ → Type 0  -- the images that a crash now may leave
  pub deeds : List Deed  -- the deeds so far, the first of them first
  pub moment : ℕ  -- a number that doesn't fall
  -- the pairs of an image and the deeds begun by then that a crash at some moment from that one on may have left
  pub left_since : ℕ → List ℕ → List Deed → Type 0

-- how often each part of the outside has failed
pub record Faults : Type 0 where
  pub disk : ℕ
  pub poll : ℕ
  pub print : ℕ

-- nothing has failed
abbrev pub no_faults : Faults
no_faults = record { disk = 0; poll = 0; print = 0 }

-- no file is longer
abbrev pub longest : ℕ
longest = 2 ^ 63 - 1

-- this holds where the host tells its meanings
abbrev pub Told : World → Type 0 → Type 0
Told w P = IsTrue w.tells → P

-- a file with these bytes at this offset
abbrev pub written : List ℕ → ℕ → List ℕ → List ℕ
written file at bytes = take at file ++ bytes ++ drop (at + length bytes) file

-- new is old with these bytes at this offset
abbrev pub Holds : List ℕ → ℕ → List ℕ → List ℕ → Type 0
Holds old at bytes new = new ≡ written old at bytes

-- after a write of n bytes that a crash cuts short: any bytes in the range and past the old end, the same elsewhere
pub record Torn (at n : ℕ) (old new : List ℕ) : Type 0 where
  pub before : take at new ≡ take at old
  pub after : drop (at + n) new ≡ drop (at + n) old
  pub no_shorter : length old ≤ length new
  pub no_longer : length new ≤ max (length old) (at + n)

-- nothing is written
abbrev pub Same : List ℕ → List ℕ → Type 0
Same old new = new ≡ old

-- a crash leaves this and nothing else
abbrev pub Only : List ℕ → (List ℕ → Type 0) → Type 0
Only file outcomes = (c : List ℕ) → outcomes c → c ≡ file

-- an image that a crash may leave, after a step
abbrev pub After : (List ℕ → List ℕ → Type 0) → (List ℕ → Type 0) → List ℕ → Type 0
After step outcomes c = (o : List ℕ) × outcomes o × step o c

-- One call: its step on what a crash may leave, and its deeds. Moments join: a pair since t at its exit is one at
-- its entry, or one since its entry. At a moment of the call its deed is begun, or it isn't.
pub record Elapses (step : List ℕ → List ℕ → Type 0) (deed : List Deed) (old new : World) : Type 0 where
  pub later : old.moment ≤ new.moment
  pub deeds : new.deeds ≡ old.deeds ++ deed
  pub joins : (t : ℕ) (c : List ℕ) (d : List Deed) → t ≤ old.moment → new.left_since t c d → old.left_since t c d ⊎ new.left_since old.moment c d
  pub keeps : (t : ℕ) (c : List ℕ) (d : List Deed) → t ≤ old.moment → old.left_since t c d → new.left_since t c d
  pub during : (c : List ℕ) (d : List Deed) → new.left_since old.moment c d → After step old.may_leave c × ((d ≡ old.deeds) ⊎ (d ≡ new.deeds))

-- a count after one more, which stays at the end of its type
abbrev pub next_count : ℕ → ℕ
next_count n = min (n + 1) (2 ^ 64 - 1)

-- how many bytes are heard at once
abbrev pub piece_len : What → ℕ
piece_len Nothing = 0
piece_len (Bytes k bytes) = length bytes
piece_len (End k) = 0
piece_len (Broken k) = 0
piece_len (Visit n bytes) = length bytes
piece_len (VisitEnd n) = 0

-- the call of which this is heard
abbrev pub call_of : What → Option ℕ
call_of (Bytes k bytes) = Some k
call_of (End k) = Some k
call_of (Broken k) = Some k
call_of w = None

-- the visit of which this is heard
abbrev pub visit_of : What → Option ℕ
visit_of (Visit n bytes) = Some n
visit_of (VisitEnd n) = Some n
visit_of w = None

-- the count has risen; at the end of its type it counts as risen
abbrev pub Rose : ℕ → ℕ → Type 0
Rose before now = next_count before ≤ now

-- a disk call failed
abbrev pub disk_failed : Faults → Faults
disk_failed f = record { disk = next_count f.disk; poll = f.poll; print = f.print }

-- a poll failed
abbrev pub poll_failed : Faults → Faults
poll_failed f = record { disk = f.disk; poll = next_count f.poll; print = f.print }

-- a print failed
abbrev pub print_failed : Faults → Faults
print_failed f = record { disk = f.disk; poll = f.poll; print = next_count f.print }

-- no count falls
pub record NoneFell (old new : Faults) : Type 0 where
  pub disk : old.disk ≤ new.disk
  pub poll : old.poll ≤ new.poll
  pub print : old.print ≤ new.print

-- From old to new each pair that a crash at any moment may have left has P.
pub record LeavesOnly (old new : World) (P : List ℕ → List Deed → Type 0) : Type 0 where
  pub later : old.moment ≤ new.moment
  pub each : (c : List ℕ) (d : List Deed) → new.left_since old.moment c d → P c d
  -- for a run that began earlier
  pub before : (t : ℕ) (c : List ℕ) (d : List Deed) → t ≤ old.moment → new.left_since t c d → old.left_since t c d ⊎ P c d
