-- A journal over a file that is only read.
use Rattle.std.proofs.Common.{◌≡◌, inl, inr, true, false, length}
use Rattle.std.proofs.lemmas.Bool.{cases_Bool}
use Rattle.wf_host.specs.World.{World}
use Rattle.wf_journal.specs.Gates.{AtGate, AtEnd}
use Rattle.wf_journal.specs.Stands.{Stands}
use Rattle.wf_journal.specs.declared.journal.Journal.{Journal}

-- where records may come the file isn't new
pub not_new : (j : Journal) (w : World) → Stands j w → j.at_end ≡ false → j.is_new ≡ false
not_new j w s more = elim (cases_Bool j.is_new) [
  | inl new ↦ let end = (s.fresh new).2 in absurd (cc (end, more))
  | inr old ↦ old
]

-- a journal that has reached a closed gate
pub stands_at_end : {j : Journal} {w : World} → j.is_new ≡ false → j.at_end ≡ true → j.stale ≡ false → AtEnd w j.gate j.stale → Stands j w
stands_at_end {j} {w} old end fine at = record {
  settled = at.at.settled;
  fresh = λ new. absurd (cc (new, old));
  found = λ _. at.at;
  size = λ more. absurd (cc (more, end));
  ended = λ _ _. at;
  stale = λ _ _ is. absurd (cc (is, fine));
}

-- a journal with records before it, or a gate that isn't open
pub stands_at_gate : {j : Journal} {w : World} → j.is_new ≡ false → j.at_end ≡ false → j.size ≡ length w.seen → AtGate w j.gate → Stands j w
stands_at_gate {j} {w} old more long at = record {
  settled = at.settled;
  fresh = λ new. absurd (cc (new, old));
  found = λ _. at;
  size = λ _. long;
  ended = λ _ end. absurd (cc (end, more));
  stale = λ _ end _. absurd (cc (end, more));
}
