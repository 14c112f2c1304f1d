-- Reading a list of deeds: what was started, asked and told.
--     polls, nows, reading_by         counts and readings
--     told_of, ComesTo                what was told of a call since its start, and the answer that it comes to
--     visits_after, decision          the visits so far, and the visit that a poll decides
use Rattle.std.specs.Prelude.{ℕ, zero, suc, max, Bool, true, false, ◌||◌, nat_eq, nat_le, if◌then◌else◌, is_some, List, [], ◌∷◌, ◌++◌, take, Option, Some, None, option_and_then}
use Rattle.wf_deeds.specs.Outside.{Outside}
use Rattle.wf_host.specs.World.{visit_of}
use Rattle.wf_host.specs.declared.data.Deed.{Deed}
use Rattle.wf_host.specs.declared.data.Deed.TheVariants.{Start, Poll, Now, Reply, Drop, Print}
use Rattle.wf_host.specs.declared.data.What.{What}
use Rattle.wf_host.specs.declared.data.What.TheVariants as what
use Rattle.wf_http_in.specs.AnswerOf.{AnswerOf}
use Rattle.wf_value.specs.Events as plain
use Rattle.wf_value.specs.HttpBody.{Close, Open, Ended, Broke}

-- ## Counts and readings
abbrev pub polls : List Deed → ℕ
polls [] = 0
polls (Poll until h ∷ ds) = suc (polls ds)
polls (d ∷ ds) = polls ds

-- the readings of the clock by itself
abbrev pub nows : List Deed → List ℕ
nows [] = []
nows (Now t ∷ ds) = t ∷ nows ds
nows (d ∷ ds) = nows ds

-- those that came with polls
abbrev pub poll_readings : List Deed → List ℕ
poll_readings [] = []
poll_readings (Poll until h ∷ ds) = h.reading ∷ poll_readings ds
poll_readings (d ∷ ds) = poll_readings ds

abbrev pub greatest : List ℕ → ℕ
greatest [] = 0
greatest (r ∷ rs) = max r (greatest rs)

-- the greatest of a reading, those of the clock, and those of the first w polls
abbrev pub reading_by : ℕ → List Deed → ℕ → ℕ
reading_by last ds w = greatest (last ∷ nows ds ++ take w (poll_readings ds))

abbrev pub was_started : ℕ → List Deed → Bool
was_started k [] = false
was_started k (Start j to b ∷ ds) = nat_eq j k || was_started k ds
was_started k (d ∷ ds) = was_started k ds

abbrev pub was_dropped : ℕ → List Deed → Bool
was_dropped k [] = false
was_dropped k (Drop j ∷ ds) = nat_eq j k || was_dropped k ds
was_dropped k (d ∷ ds) = was_dropped k ds

abbrev pub was_replied : ℕ → List Deed → Bool
was_replied v [] = false
was_replied v (Reply j b ∷ ds) = nat_eq j v || was_replied v ds
was_replied v (d ∷ ds) = was_replied v ds

abbrev pub starts_or_polls : List Deed → Bool
starts_or_polls [] = false
starts_or_polls (Start j to b ∷ ds) = true
starts_or_polls (Poll until h ∷ ds) = true
starts_or_polls (d ∷ ds) = starts_or_polls ds

-- the deeds up to the next poll
abbrev pub before_poll : List Deed → List Deed
before_poll [] = []
before_poll (Poll until h ∷ ds) = []
before_poll (d ∷ ds) = d ∷ before_poll ds

-- a poll, the deeds before it and those behind it
pub record Split : Type 0 where
  pub before : List Deed
  pub deed : Deed
  pub what : What
  pub behind : List Deed

abbrev pub poll_from : List Deed → ℕ → List Deed → Option Split
poll_from before w [] = None
poll_from before zero ds = None
poll_from before (suc zero) (Poll until h ∷ ds) = Some (record { before = before; deed = Poll until h; what = h.what; behind = ds })
poll_from before (suc (suc w)) (Poll until h ∷ ds) = poll_from (before ++ Poll until h ∷ []) (suc w) ds
poll_from before (suc w) (d ∷ ds) = poll_from (before ++ d ∷ []) (suc w) ds

-- poll w, from 1 on
abbrev pub poll_at : ℕ → List Deed → Option Split
poll_at w ds = poll_from [] w ds

-- ## Calls
-- the bytes of a connection, and how it stands
pub record Told : Type 0 where
  pub bytes : List ℕ
  pub close : Close

abbrev pub nothing_told : Told
nothing_told = record { bytes = []; close = Open }

abbrev pub tells : ℕ → What → Told → Told
tells k (what.Bytes j b) t = if nat_eq j k then record { bytes = t.bytes ++ b; close = t.close } else t
tells k (what.End j) t = if nat_eq j k then record { bytes = t.bytes; close = Ended } else t
tells k (what.Broken j) t = if nat_eq j k then record { bytes = t.bytes; close = Broke } else t
tells k w t = t

abbrev pub told_on : ℕ → Told → List Deed → Told
told_on k t [] = t
told_on k t (Poll until h ∷ ds) = told_on k (tells k h.what t) ds
told_on k t (d ∷ ds) = told_on k t ds

-- since its start
abbrev pub told_of : ℕ → List Deed → Told
told_of k [] = nothing_told
told_of k (Start j to b ∷ ds) = if nat_eq j k then told_on k nothing_told ds else told_of k ds
told_of k (d ∷ ds) = told_of k ds

-- it comes to this answer, or to none while more may have to come: that it does, and not by which reading of the bytes
abbrev pub IsAnswered : Told → Option plain.Reply → Type 0
IsAnswered t a = ∥ AnswerOf t.bytes t.close a ∥₁

abbrev pub ComesTo : ℕ → List Deed → Option plain.Reply → Type 0
ComesTo k ds a = IsAnswered (told_of k ds) a

-- ## Visits
pub record Visit : Type 0 where
  pub number : ℕ
  pub told : Told
  pub decided : Bool

-- a visit that is decided: whether it came while 64 others were heard and not decided, and what was told of it
pub record Decision : Type 0 where
  pub visit : ℕ
  pub crowded : Bool
  pub told : Told

abbrev pub tells_visit : What → Told → Told
tells_visit (what.Visit v b) t = record { bytes = t.bytes ++ b; close = t.close }
tells_visit (what.VisitEnd v) t = record { bytes = t.bytes; close = Ended }
tells_visit w t = t

abbrev pub undecided : List Visit → ℕ
undecided [] = 0
undecided (v ∷ vs) = if v.decided then undecided vs else suc (undecided vs)

abbrev pub find_visit : ℕ → List Visit → Option Visit
find_visit n [] = None
find_visit n (v ∷ vs) = if nat_eq v.number n then Some v else find_visit n vs

abbrev pub put_visit : Visit → List Visit → List Visit
put_visit x [] = x ∷ []
put_visit x (v ∷ vs) = if nat_eq v.number x.number then x ∷ vs else v ∷ put_visit x vs

module _ (O : Outside) where
  -- as soon as it is known what it asks
  abbrev pub once_asked : ℕ → Told → Option Decision
  once_asked n t = if O.is_asked t.bytes t.close then Some (record { visit = n; crowded = false; told = t }) else None

  -- a visit is decided once: at its first piece or end where it is crowded, else as soon as it is known what it asks
  abbrev pub decision_of : List Visit → ℕ → What → Option Visit → Option Decision
  decision_of vs n w None = if nat_le 64 (undecided vs) then Some (record { visit = n; crowded = true; told = tells_visit w nothing_told }) else once_asked n (tells_visit w nothing_told)
  decision_of vs n w (Some v) = if v.decided then None else once_asked n (tells_visit w v.told)

  abbrev pub decision : List Visit → What → Option Decision
  decision vs w = option_and_then (λ n. decision_of vs n w (find_visit n vs)) (visit_of w)

  abbrev pub with_piece : List Visit → What → ℕ → Option Visit → List Visit
  with_piece vs w n None = put_visit (record { number = n; told = tells_visit w nothing_told; decided = is_some (decision vs w) }) vs
  with_piece vs w n (Some v) = put_visit (record { number = n; told = tells_visit w v.told; decided = v.decided || is_some (decision vs w) }) vs

  abbrev pub hears_visit : List Visit → What → Option ℕ → List Visit
  hears_visit vs w None = vs
  hears_visit vs w (Some n) = with_piece vs w n (find_visit n vs)

  abbrev pub visits_on : List Visit → List Deed → List Visit
  visits_on vs [] = vs
  visits_on vs (Poll until h ∷ ds) = visits_on (hears_visit vs h.what (visit_of h.what)) ds
  visits_on vs (d ∷ ds) = visits_on vs ds

  -- the visits that were heard
  abbrev pub visits_after : List Deed → List Visit
  visits_after ds = visits_on [] ds

-- a deed that isn't sent anywhere
abbrev pub IsSmall : Deed → Type 0
IsSmall (Print b) = Unit {0}
IsSmall (Now t) = Unit {0}
IsSmall d = ⊥
