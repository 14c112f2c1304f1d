-- Calls that only read a file.
use Rattle.std.specs.Prelude.{◌≡◌, ◌≢◌, ℕ, List, [], take}
use Rattle.std.proofs.Common.{inl, inr, sym, ◌∙◌, subst}
use Rattle.wf_host.specs.Moments.{CountsNow, joined}
use Rattle.wf_host.specs.World.{World, LeavesOnly, Only}
use Rattle.wf_host.specs.declared.data.Deed.{Deed}
use Rattle.wf_journal.specs.Journal.{IsJournal, Stays}
use Rattle.wf_journal.specs.Records.{magic, records}
use Rattle.wf_journal.specs.Standing.{new_none}

-- nothing is written and nothing done
abbrev pub Quiet : World → List ℕ → List Deed → Type 0
Quiet w c d = w.may_leave c × (d ≡ w.deeds)

-- nor by a call more that changes nothing
pub quiet_stays : (w mid new : World) → LeavesOnly w mid (Quiet w) → LeavesOnly mid new (Stays mid) → mid.seen ≡ w.seen → mid.deeds ≡ w.deeds → w.may_leave w.seen → LeavesOnly w new (Quiet w)
quiet_stays w mid new so_far more seen deeds reads =
    joined w mid new (Quiet w) (Stays mid) so_far more (λ c d is. (subst w.may_leave (sym (is.0 ∙ seen)) reads, is.1 ∙ deeds))

-- behind a call that only reads, a crash leaves what reads
pub settled_behind : (mid new : World) → LeavesOnly mid new (Stays mid) → CountsNow new → new.seen ≡ mid.seen → Only new.seen new.may_leave
settled_behind mid new run counts seen c may = (run.each c new.deeds (counts mid.moment c run.later may)).0 ∙ sym seen

-- a journal with a record begins with the magic
pub magic_found : (file : List ℕ) → IsJournal file → records file ≢ [] → take 4 file ≡ magic
magic_found file (inl short) some = absurd (some (new_none file short))
magic_found file (inr begins) some = begins
