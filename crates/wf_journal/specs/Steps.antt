-- How a function goes on by a call, told of the journal's records and of the deeds alone. At each step its author shows that the
-- fact Q holds without what the call does and with it.
use Rattle.std.specs.Prelude.{◌≡◌, ℕ, false, List, [], ◌∷◌, ◌++◌, take}
use Rattle.std.proofs.Common.{⊎_elim, sym, ◌∙◌, ap, subst, append_assoc}
use Rattle.std.proofs.lemmas.List.{append-nil}
use Rattle.wf_host.specs.declared.data.Deed.{Deed}
use Rattle.wf_host.specs.World.{World, Same, Only, Elapses, LeavesOnly}
use Rattle.wf_host.specs.Moments.{CountsNow, started, goes_on, goes_on_same, joined}
use Rattle.wf_journal.specs.Records.{magic, records}
use Rattle.wf_journal.specs.Journal.{IsBeforeOrAfter}
use Rattle.wf_journal.specs.Stands.{Stands, is_new}
use Rattle.wf_journal.specs.Standing.{has_magic}
use Rattle.wf_journal.specs.declared.journal.Journal.{Journal}

-- a moment since the first one: a file with the magic, and a fact of its records and of the deeds since
abbrev pub Moment : World → (List (List ℕ) → List Deed → Type 0) → List ℕ → List Deed → Type 0
Moment first Q c d = (D : List Deed) × (d ≡ first.deeds ++ D) × (take 4 c ≡ magic) × Q (records c) D

-- so far, with these deeds, and with a file that a crash leaves as it is
pub record Begun (first now : World) (Q : List (List ℕ) → List Deed → Type 0) (D : List Deed) : Type 0 where
  pub moments : LeavesOnly first now (Moment first Q)
  pub deeds : now.deeds ≡ first.deeds ++ D
  pub settled : Only now.seen now.may_leave
  pub begins : take 4 now.seen ≡ magic

-- before the first call
pub begun : (w : World) (Q : List (List ℕ) → List Deed → Type 0) → ((c : List ℕ) (d : List Deed) → w.left_since w.moment c d → w.may_leave c × (d ≡ w.deeds)) → Only w.seen w.may_leave → take 4 w.seen ≡ magic → Q (records w.seen) [] → Begun w w Q []
begun w Q only settled begins holds = record {
  moments = started w (Moment w Q) only (λ c now. ([], sym (append-nil w.deeds), subst (λ i. take 4 i ≡ magic) (sym (settled c now)) begins, subst (λ i. Q (records i) []) (sym (settled c now)) holds));
  deeds = sym (append-nil w.deeds);
  settled = settled;
  begins = begins;
}

-- the same over a journal that stands
pub begun_over : (j : Journal) (w : World) (Q : List (List ℕ) → List Deed → Type 0) → ((c : List ℕ) (d : List Deed) → w.left_since w.moment c d → w.may_leave c × (d ≡ w.deeds)) → Stands j w → is_new j ≡ false → Q (records w.seen) [] → Begun w w Q []
begun_over j w Q only stands old holds = begun w Q only stands.settled (has_magic j w stands old) holds

-- behind a call, over a journal that stands again
pub still_begun : (j : Journal) (first mid new : World) (Q : List (List ℕ) → List Deed → Type 0) (D E : List Deed) → Begun first mid Q D → LeavesOnly first new (Moment first Q) → new.deeds ≡ mid.deeds ++ E
    → Stands j new → is_new j ≡ false → Begun first new Q (D ++ E)
still_begun j first mid new Q D E so_far moments deeds stands old = record {
  moments = moments;
  deeds = deeds ∙ ap (λ l. l ++ E) so_far.deeds ∙ append_assoc first.deeds D E;
  settled = stands.settled;
  begins = has_magic j new stands old;
}

-- one record more: the fact holds without it and with it
pub record_goes_on : (first mid new : World) (Q : List (List ℕ) → List Deed → Type 0) (D : List Deed) (payload : List ℕ) → Begun first mid Q D → LeavesOnly mid new (IsBeforeOrAfter mid payload)
    → Q (records mid.seen) D → Q (records mid.seen ++ payload ∷ []) D → LeavesOnly first new (Moment first Q)
record_goes_on first mid new Q D payload so_far more before after =
    joined first mid new (Moment first Q) (IsBeforeOrAfter mid payload) so_far.moments more
    (λ c d pair. (D, pair.2 ∙ so_far.deeds, pair.0, ⊎_elim (λ is. subst (λ J. Q J D) (sym is) before) (λ is. subst (λ J. Q J D) (sym is) after) pair.1))

-- one deed more: the fact holds without it and with it
pub deed_goes_on : (first mid new : World) (Q : List (List ℕ) → List Deed → Type 0) (D : List Deed) (e : Deed) → Begun first mid Q D → Elapses Same (e ∷ []) mid new
    → Q (records mid.seen) D → Q (records mid.seen) (D ++ e ∷ []) → LeavesOnly first new (Moment first Q)
deed_goes_on first mid new Q D e so_far time before after =
    goes_on first mid new (Moment first Q) Same (e ∷ []) so_far.moments time (λ c d left deeds.
    subst (λ i. (E : List Deed) × (d ≡ first.deeds ++ E) × (take 4 i ≡ magic) × Q (records i) E) (sym (left.2 ∙ so_far.settled left.0 left.1))
    (⊎_elim (λ is. (D, is ∙ so_far.deeds, so_far.begins, before))
    (λ is. (D ++ e ∷ [], is ∙ time.deeds ∙ ap (λ l. l ++ e ∷ []) so_far.deeds ∙ append_assoc first.deeds D (e ∷ []), so_far.begins, after)) deeds))

-- a call without a deed that writes nothing
pub nothing_goes_on : (first mid new : World) (Q : List (List ℕ) → List Deed → Type 0) (D : List Deed) → Begun first mid Q D → CountsNow mid → Elapses Same [] mid new → LeavesOnly first new (Moment first Q)
nothing_goes_on first mid new Q D so_far counts time = goes_on_same first mid new (Moment first Q) so_far.moments counts time

-- a part of a function, whose own deeds follow those so far
pub part_goes_on : (first mid new : World) (Q R : List (List ℕ) → List Deed → Type 0) (D : List Deed) → Begun first mid Q D → LeavesOnly mid new (Moment mid R)
    → ((J : List (List ℕ)) (E : List Deed) → R J E → Q J (D ++ E)) → LeavesOnly first new (Moment first Q)
part_goes_on first mid new Q R D so_far more within =
    joined first mid new (Moment first Q) (Moment mid R) so_far.moments more
    (λ c d (E, is, begins, holds). (D ++ E, is ∙ ap (λ l. l ++ E) so_far.deeds ∙ append_assoc first.deeds D E, begins, within (records c) E holds))
