-- What follows where a journal stands over its file.
use Rattle.std.specs.Prelude.{◌≡◌, ◌≢◌, ◌≤◌, ℕ, Bool, true, false, List, [], ◌++◌, length, take, drop, get_or}
use Rattle.std.proofs.Common.{inl, inr, refl, sym, ◌∙◌, ap, arith}
use Rattle.std.proofs.lemmas.Bool.{cases_Bool}
use Rattle.std.proofs.lemmas.List.{drop_all}
use Rattle.wf_host.specs.declared.data.Deed.{Deed}
use Rattle.wf_host.specs.World.{World, Only, Same, Elapses}
use Rattle.wf_host.specs.Moments.{CountsNow, still_settled}
use Rattle.wf_journal.specs.Records.{magic, records, records_from, payloads}
use Rattle.wf_journal.specs.Journal.{IsJournal}
use Rattle.wf_journal.specs.Gates.{AtGate, AtEnd}
use Rattle.wf_journal.specs.Stands.{Stands, is_new, at_end, ahead}
use Rattle.wf_journal.specs.declared.journal.Journal.{Journal}

pub nothing : records_from [] ≡ []
unfolding payloads
nothing = refl

-- a new file has no record
pub new_none : (c : List ℕ) → length c ≤ 4 → records c ≡ []
new_none c short = ap records_from (drop_all 4 c short) ∙ nothing

-- so a journal with a record has the magic
pub magic_of_records : (c : List ℕ) → IsJournal c → records c ≢ [] → take 4 c ≡ magic
magic_of_records c (inl short) some = absurd (some (new_none c short))
magic_of_records c (inr begins) some = begins

pub has_magic : (j : Journal) (w : World) → Stands j w → is_new j ≡ false → take 4 w.seen ≡ magic
has_magic j w s old = (s.found old).begins

pub is_journal : (j : Journal) (w : World) → Stands j w → IsJournal w.seen
is_journal j w s = elim (cases_Bool j.is_new) [ inl new ↦ inl (s.fresh new).0 | inr old ↦ inr (has_magic j w s old) ]

-- at its end nothing comes next
pub none_ahead : (j : Journal) (w : World) → Stands j w → at_end j ≡ true → ahead j w.seen ≡ []
none_ahead j w s end = elim (cases_Bool j.is_new) [
  | inl new ↦ let f = s.fresh new in ap records_from (drop_all j.gate w.seen (omega (arith, f.0, f.1))) ∙ nothing
  | inr old ↦ (s.ended old end).shut
]

-- a gate stands in a file that reads as it did
pub gate_after : (w new : World) (gate : ℕ) → AtGate w gate → new.seen ≡ w.seen → Only new.seen new.may_leave → AtGate new gate
gate_after w new gate p same durable = record {
  settled = durable;
  begins = ap (λ (l : List ℕ). take 4 l) same ∙ p.begins;
  behind = p.behind;
  inside = omega (arith, p.inside, ap length same);
  passed = p.passed;
  opens = λ ahead some. ap (λ (l : List ℕ). records (take gate l ++ ahead)) same ∙ p.opens ahead some;
}

end_after : (w new : World) (gate : ℕ) (stale : Bool) → AtEnd w gate stale → new.seen ≡ w.seen → Only new.seen new.may_leave → AtEnd new gate stale
end_after w new gate stale e same durable = record {
  at = gate_after w new gate e.at same durable;
  shut = ap (λ (l : List ℕ). records_from (drop gate l)) same ∙ e.shut;
  closed = λ is one. e.closed is (sym (ap (λ (l : List ℕ). get_or l gate 0) same) ∙ one);
}

-- a journal stands wherever the file reads as it did and a crash leaves just this
pub stands_where : (j : Journal) (w new : World) → Stands j w → new.seen ≡ w.seen → Only new.seen new.may_leave → Stands j new
stands_where j w new s same durable = record {
  settled = durable;
  fresh = λ is. let f = s.fresh is in (omega (arith, f.0, ap length same), f.1, f.2);
  found = λ is. gate_after w new j.gate (s.found is) same durable;
  size = λ is. s.size is ∙ sym (ap length same);
  ended = λ new_not end. end_after w new j.gate j.stale (s.ended new_not end) same durable;
  stale = λ new_not end is. ap (λ (l : List ℕ). get_or l j.gate 0) same ∙ s.stale new_not end is;
}

-- so it stands after a call of the host that doesn't write
pub stands_after : (j : Journal) (mid new : World) (deed : List Deed) → Stands j mid → Elapses Same deed mid new → new.seen ≡ mid.seen → CountsNow new → Stands j new
stands_after j mid new deed s time same counts =
    stands_where j mid new s same (λ i now. still_settled mid.seen mid new deed s.settled time counts i now ∙ sym same)
