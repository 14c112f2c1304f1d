-- Moments and faults of a call that opens a file.
use Rattle.std.specs.Prelude.{◌≡◌, ◌≢◌, ◌⊎◌, ◌≤◌, ℕ, List, [], ◌∷◌, ◌++◌, length, take}
use Rattle.std.proofs.Common.{inl, inr, ⊎_elim, refl, sym, ◌∙◌, ap, subst, arith}
use Rattle.wf_engine.specs.Engine.{OpeningMoment}
use Rattle.wf_history.specs.Stands.{HasNoneOrThis}
use Rattle.wf_host.specs.Moments.{started, joined, weaker}
use Rattle.wf_host.specs.World.{World, LeavesOnly, Only}
use Rattle.wf_host.specs.declared.data.Deed.{Deed}
use Rattle.wf_host.specs.declared.data.Deed.TheVariants.{Now}
use Rattle.wf_journal.specs.Journal.{IsJournal}
use Rattle.wf_journal.specs.Records.{magic, records}
use Rattle.wf_replay.proofs.OnlyReads.{Quiet}

-- the host's law of the present moment
abbrev pub OnlyNow : World → Type 0
OnlyNow w = (c : List ℕ) (d : List Deed) → w.left_since w.moment c d → w.may_leave c × (d ≡ w.deeds)

-- ## Nothing is written and nothing done
pub quiet_at_once : (w : World) → OnlyNow w → LeavesOnly w w (Quiet w)
quiet_at_once w only = started w (Quiet w) only (λ c now. (now, refl))

-- ## A beginning
-- nothing yet, or on a file without a record the start alone or none
abbrev pub BeginMoment : World → List ℕ → List ℕ → List Deed → Type 0
BeginMoment w payload c d = (w.may_leave c × (d ≡ w.deeds)) ⊎ ((records w.seen ≡ []) × HasNoneOrThis w payload c d)

pub begins_quietly : (w new : World) (payload : List ℕ) → LeavesOnly w new (Quiet w) → LeavesOnly w new (BeginMoment w payload)
begins_quietly w new payload run = weaker w new (Quiet w) (BeginMoment w payload) run (λ c d is. inl is)

pub then_begins : (w mid new : World) (payload : List ℕ) → LeavesOnly w mid (Quiet w) → LeavesOnly mid new (HasNoneOrThis mid payload) → records w.seen ≡ [] → mid.deeds ≡ w.deeds → LeavesOnly w new (BeginMoment w payload)
then_begins w mid new payload so_far more none deeds =
    joined w mid new (BeginMoment w payload) (HasNoneOrThis mid payload) (begins_quietly w mid payload so_far) more (λ c d is. inr (none, (is.0, is.1, is.2 ∙ deeds)))

-- a file that is none of this isn't begun
pub not_refused : (file : List ℕ) → IsJournal file → records file ≡ [] → ((5 ≤ length file) × (take 4 file ≢ magic)) ⊎ (records file ≢ []) → ⊥
not_refused file (inl short) none (inl (long, other)) = omega (arith, short, long)
not_refused file (inr begins) none (inl (long, other)) = other begins
not_refused file fit none (inr some) = some none

-- ## An opening
pub opens_quietly : (w new : World) → LeavesOnly w new (Quiet w) → LeavesOnly w new (OpeningMoment w)
opens_quietly w new run = weaker w new (Quiet w) (OpeningMoment w) run (λ c d is. (is.0, inl is.1))

-- and then the clock is read
pub then_reads : (w mid new : World) → LeavesOnly w mid (Quiet w) → LeavesOnly mid new (OpeningMoment mid) → mid.seen ≡ w.seen → mid.deeds ≡ w.deeds → Only mid.seen mid.may_leave → w.may_leave w.seen → LeavesOnly w new (OpeningMoment w)
then_reads w mid new so_far more seen deeds settled reads =
    joined w mid new (OpeningMoment w) (OpeningMoment mid) (opens_quietly w mid so_far) more
    (λ c d is. (subst w.may_leave (sym (settled c is.0 ∙ seen)) reads, ⊎_elim (λ same. inl (same ∙ deeds)) (λ one. inr (one.0, one.1 ∙ ap (λ l. l ++ Now one.0 ∷ []) deeds)) is.1))
