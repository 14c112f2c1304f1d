-- Where a first record leads, and the records behind it.
use Rattle.std.specs.Prelude.{◌≡◌, ◌≢◌, ◌⊎◌, ◌+◌, ℕ, false, length, map, List, [], ◌∷◌, Option, Some, None, Result, Ok, Err, IfErr, OnOk, IsErr, IsErrAnd, IsErrOf, option_and_then}
use Rattle.std.proofs.Common.{inl, inr, refl, sym, ◌∙◌, ap, subst}
use Rattle.wf_ast.specs.Tree.{Program}
use Rattle.wf_events.specs.Reading.{meaning}
use Rattle.wf_events.specs.Records.{Record, Started, Turned, Kept, Upgrade, Packed, StartedTwo}
use Rattle.wf_history.specs.Faults.{told}
use Rattle.wf_history.specs.Kinds.{turn_in}
use Rattle.wf_history.specs.Stands.{IsBadAt, last_after}
use Rattle.wf_history.specs.declared.fault.HistoryFault.{HistoryFault}
use Rattle.wf_history.specs.declared.fault.HistoryFault.TheVariants as history_fault
use Rattle.wf_machine.specs.Seen.{state_of}
use Rattle.wf_machine.specs.declared.machine.Machine.{Machine}
use Rattle.wf_model.specs.Config.{To}
use Rattle.wf_model.specs.Run.{initial}
use Rattle.wf_deeds.specs.At.{applied_by, turns_in}
use Rattle.wf_deeds.specs.History.{Standing, events, first_standing, goes_to, history, history_from, started, with_turn}
use Rattle.wf_deeds.specs.Language.{Language}
use Rattle.wf_replay.specs.EngineFaults.{fault_of, replay_fault}
use Rattle.wf_replay.specs.Openings.{NoFirst}
use Rattle.wf_replay.specs.Standing.{stands_at}
use Rattle.wf_replay.specs.declared.engine_fault.EngineFault.TheVariants.{NotAHistory, OutOfMemory}
use Rattle.wf_replay.specs.declared.engine_fault.EngineFault.{EngineFault}
use Rattle.wf_replay.specs.declared.fault.ReplayFault.TheVariants as replay_fault_of
use Rattle.wf_replay.specs.declared.fault.ReplayFault.{ReplayFault}
use Rattle.wf_value.specs.Events.{Start, Turn}

-- ## A first record
at_first : (m : Machine) → stands_at 1 None m ≡ record { program = (state_of m).program; config = (state_of m).config; number = 1; session = 0; waits = 0; two = false; marks = false }
unfolding stands_at
at_first m = refl

-- an accepted start leads where its machine stands
pub start_leads : (L : Language) (s : Start) (p : Program) (m : Machine) → L.source s.source ≡ Some p → (state_of m).program ≡ p → initial p s ≡ To (state_of m).config → first_standing L (Some (Started s)) ≡ Some (stands_at 1 None m)
start_leads L s p m accepted program begins_at =
    ap (λ o. option_and_then (λ q. started q false (initial q s)) o) accepted
    ∙ ap (λ a. started p false a) begins_at
    ∙ ap (λ q. Some (record { program = q; config = (state_of m).config; number = 1; session = 0; waits = 0; two = false; marks = false })) (sym program)
    ∙ ap Some (sym (at_first m))

pub start_refused : (L : Language) (s : Start) → L.source s.source ≡ None → first_standing L (Some (Started s)) ≡ None
start_refused L s refused = ap (λ o. option_and_then (λ q. started q false (initial q s)) o) refused

-- ## The records behind it
pub records_lead : (L : Language) (J : List (List ℕ)) (b : List ℕ) (bs : List (List ℕ)) (s : Standing) (r : Result Standing ℕ) → J ≡ b ∷ bs → first_standing L (meaning b) ≡ Some s → goes_to L s bs ≡ r → history L J ≡ r
unfolding history
records_lead L J b bs s r is first leads = ap (λ l. history L l) is ∙ ap (λ o. history_from L o (map meaning bs)) first ∙ leads

pub records_stop : (L : Language) (J : List (List ℕ)) (b : List ℕ) (bs : List (List ℕ)) → J ≡ b ∷ bs → first_standing L (meaning b) ≡ None → history L J ≡ Err 0
unfolding history
records_stop L J b bs is first = ap (λ l. history L l) is ∙ ap (λ o. history_from L o (map meaning bs)) first

-- a payload that is no record is no first one
pub bad_first : (L : Language) (n place : ℕ) (ahead : List (List ℕ)) → place ≡ 0 → IsBadAt n place ahead → NoFirst L n ahead
bad_first L n place ahead at bad = record {
  number = bad.number ∙ ap told at;
  payload = bad.payload;
  rest = bad.rest;
  next = bad.next;
  first = ap (λ o. first_standing L o) bad.bad;
}

pub no_history : (L : Language) (n : ℕ) (ahead : List (List ℕ)) → NoFirst L n ahead → (history L ahead ≡ Err n) × (ahead ≢ [])
no_history L n ahead none = (
  records_stop L ahead none.payload none.rest none.next none.first ∙ ap (λ k. Err k) (sym none.number),
  λ empty. let is : none.payload ∷ none.rest ≡ [] = sym none.next ∙ empty in cc is,
)

-- ## What was read of it
-- behind a first record that begins a history one record is passed, and no turn
pub behind_first : (L : Language) (place : ℕ) (last : Option (ℕ × ℕ)) (found : Record) (m : Machine) → place ≡ 1 → last ≡ last_after None found → first_standing L (Some found) ≡ Some (stands_at 1 None m)
    → first_standing L (Some found) ≡ Some (stands_at place last m)
behind_first L place last found m at none leads = leads ∙ ap (λ n. Some (stands_at n None m)) (sym at) ∙ ap (λ l. Some (stands_at place l m)) (sym (none ∙ no_turn found leads))
  where
    no_turn : (r : Record) → first_standing L (Some r) ≡ Some (stands_at 1 None m) → last_after None r ≡ None
    no_turn (Started s) is = refl
    no_turn (StartedTwo s) is = refl
    no_turn (Turned t) is = absurd (cc is)
    no_turn (Packed t) is = absurd (cc is)
    no_turn (Kept k) is = absurd (cc is)
    no_turn Upgrade is = absurd (cc is)

-- the first one has no events
no_turn_first : (L : Language) (m : Option Record) (ts : List Turn) (s : Standing) → first_standing L m ≡ Some s → with_turn (turn_in m) ts ≡ ts
no_turn_first L (Some (Started t)) ts s is = refl
no_turn_first L (Some (Turned t)) ts s is = absurd cc
no_turn_first L (Some (Kept k)) ts s is = refl
no_turn_first L (Some Upgrade) ts s is = refl
no_turn_first L (Some (Packed t)) ts s is = absurd cc
no_turn_first L (Some (StartedTwo t)) ts s is = refl
no_turn_first L None ts s is = refl

-- so as many were applied as stand in all of them
pub applied_in_all : (L : Language) (J : List (List ℕ)) (b : List ℕ) (bs : List (List ℕ)) (s : Standing) (before after : ℕ) → J ≡ b ∷ bs → first_standing L (meaning b) ≡ Some s → after ≡ before + applied_by bs → after ≡ before + applied_by J
applied_in_all L J b bs s before after is first counted =
    counted ∙ ap (λ ts. before + length (events ts)) (sym (no_turn_first L (meaning b) (turns_in bs) s first)) ∙ ap (λ l. before + applied_by l) (sym is)

-- what holds anyway holds where it answered Ok
pub on_ok : {A E P : Type 0} (r : Result A E) → P → OnOk r P
on_ok (Ok a) it = it
on_ok (Err e) it = tt

-- ## Faults
pub same_number : (m n : ℕ) → NotAHistory m ≡ NotAHistory n → m ≡ n
same_number m n is = cc is

bad_cause : (L : Language) (ahead : List (List ℕ)) (place : ℕ) (cause : HistoryFault) → place ≡ 0 → ((n : ℕ) → cause ≡ history_fault.BadRecord n → IsBadAt n place ahead) → (n : ℕ) → fault_of cause ≡ NotAHistory n → NoFirst L n ahead
bad_cause L ahead place (history_fault.BadRecord m) at bad n is = subst (λ k. NoFirst L k ahead) (same_number m n is) (bad_first L m place ahead at (bad m refl))
bad_cause L ahead place history_fault.DiskFault at bad n is = absurd (cc is)
bad_cause L ahead place history_fault.NotAJournal at bad n is = absurd (cc is)
bad_cause L ahead place history_fault.Closed at bad n is = absurd (cc is)
bad_cause L ahead place history_fault.OutOfMemory at bad n is = absurd (cc is)

-- a payload that is no record
pub at_bad_record : {T : Type 0} (L : Language) (ahead : List (List ℕ)) (place : ℕ) (r : Result T EngineFault) (cause : HistoryFault) → IsErr r × IsErrAnd r (λ e. e ≡ fault_of cause) → place ≡ 0
    → ((n : ℕ) → cause ≡ history_fault.BadRecord n → IsBadAt n place ahead) → IfErr r (λ e. (n : ℕ) → e ≡ NotAHistory n → NoFirst L n ahead)
at_bad_record L ahead place (Ok x) cause gives at bad = absurd gives.1
at_bad_record L ahead place (Err e) cause gives at bad = λ n is. bad_cause L ahead place cause at bad n (sym gives.1 ∙ is)

-- what isn't a history, and isn't empty
abbrev pub IsNone : Language → EngineFault → List (List ℕ) → Type 0
IsNone L e ahead = (n : ℕ) → e ≡ NotAHistory n → (history L ahead ≡ Err n) × (ahead ≢ [])

pub at_first_record : {T : Type 0} (L : Language) (ahead : List (List ℕ)) (r : Result T EngineFault) (cause : EngineFault) → IsErr r × IsErrAnd r (λ e. e ≡ cause) → ((n : ℕ) → cause ≡ NotAHistory n → NoFirst L n ahead)
    → IfErr r (λ e. IsNone L e ahead)
at_first_record L ahead (Ok x) cause gives bad = absurd gives.1
at_first_record L ahead (Err e) cause gives bad = λ n is. no_history L n ahead (bad n (sym gives.1 ∙ is))

-- a record that is no start whose source is accepted
pub at_no_start : (L : Language) (ahead behind : List (List ℕ)) (payload : List ℕ) (found : Record) (r : Result Machine EngineFault) → ahead ≡ payload ∷ behind → meaning payload ≡ Some found → (IsErrOf r (NotAHistory 0) → first_standing L (Some found) ≡ None)
    → IfErr r (λ e. (e ≡ NotAHistory 0) ⊎ (e ≡ OutOfMemory)) → IfErr r (λ e. (n : ℕ) → e ≡ NotAHistory n → NoFirst L n ahead)
at_no_start L ahead behind payload found (Ok m) next means none only = tt
at_no_start L ahead behind payload found (Err e) next means none only = λ n is. by only n is
  where
    by : (e ≡ NotAHistory 0) ⊎ (e ≡ OutOfMemory) → (n : ℕ) → e ≡ NotAHistory n → NoFirst L n ahead
    by (inl at) n is = record {
      number = same_number n 0 (sym is ∙ at);
      payload = payload;
      rest = behind;
      next = next;
      first = ap (λ o. first_standing L o) means ∙ none (ap Err at);
    }
    by (inr lack) n is = absurd (let no : NotAHistory n ≡ OutOfMemory = sym is ∙ lack in cc no)

-- the payloads begin with one that leads to a standing
pub record Begins (L : Language) (ahead behind : List (List ℕ)) (s : Standing) : Type 0 where
  pub payload : List ℕ
  pub next : ahead ≡ payload ∷ behind
  pub first : first_standing L (meaning payload) ≡ Some s

later_cause : (L : Language) (ahead behind : List (List ℕ)) (s : Standing) (cause : ReplayFault) → Begins L ahead behind s → ((n : ℕ) → cause ≡ replay_fault_of.BadEvent n → goes_to L s behind ≡ Err n) → IsNone L (replay_fault cause) ahead
later_cause L ahead behind s (replay_fault_of.BadEvent m) b bad = λ n is. (
  records_lead L ahead b.payload behind s (Err n) b.next b.first (subst (λ k. goes_to L s behind ≡ Err k) (same_number m n is) (bad m refl)),
  λ empty. let is_not : b.payload ∷ behind ≡ [] = sym b.next ∙ empty in cc is_not,
)
later_cause L ahead behind s replay_fault_of.DiskFault b bad = λ n is. absurd (cc is)
later_cause L ahead behind s replay_fault_of.Closed b bad = λ n is. absurd (cc is)
later_cause L ahead behind s replay_fault_of.OutOfMemory b bad = λ n is. absurd (cc is)

pub at_later_record : {T : Type 0} (L : Language) (ahead behind : List (List ℕ)) (s : Standing) (r : Result T EngineFault) (cause : ReplayFault) → IsErr r × IsErrAnd r (λ e. e ≡ replay_fault cause) → Begins L ahead behind s
    → ((n : ℕ) → cause ≡ replay_fault_of.BadEvent n → goes_to L s behind ≡ Err n) → IfErr r (λ e. IsNone L e ahead)
at_later_record L ahead behind s (Ok x) cause gives b bad = absurd gives.1
at_later_record L ahead behind s (Err e) cause gives b bad = λ n is. later_cause L ahead behind s cause b bad n (sym gives.1 ∙ is)
