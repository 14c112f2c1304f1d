-- States: bytes are read just as the state that they spell.
use Rattle.std.proofs.Common.{◌≡◌, ℕ, nat_lt, nat_eq, if◌then◌else◌, List, [], ◌++◌, length, Option, Some, Result, Ok, Err, refl, sym, ap, subst, ◌∙◌}
use Rattle.std.proofs.lemmas.Bool.{eqb-true}
use Rattle.std.proofs.lemmas.List.{append-nil, nil_from_length}
use Rattle.wf_record_parts.proofs.Parts.{ok_is, bind_ok, guard_yes, reads_32, reads_64, reads_list}
use Rattle.wf_record_parts.specs.Laws.{AreBytes, Reads}
use Rattle.wf_record_parts.specs.Reading.{Read, list_at}
use Rattle.wf_record_parts.specs.Spelling.{Bytes, four, eight, listed, Fits32, Fits64, Each}
use Rattle.wf_states.proofs.Combined.{reads_as, reads_both}
use Rattle.wf_states.proofs.Controls.{Number, Long}
use Rattle.wf_states.proofs.Beside.{reads_call, reads_endpoint, reads_log_entry, reads_outcome, reads_facts}
use Rattle.wf_states.proofs.Tasks.{task_bytes, reads_task}
use Rattle.wf_states.proofs.Rises.{reads_rising}
use Rattle.wf_states.specs.Laws.{OneConfiguration, OneState, ReadsAsSpelled}
use Rattle.wf_states.specs.Parts.{TaskPart, State}
use Rattle.wf_states.specs.Reading.{Fields, facts_at, task_at, call_at, endpoint_at, log_entry_at, state_made, state_at, whole_at, by_offset, state_of}
use Rattle.wf_model.specs.Config.{Config}
use Rattle.wf_states.specs.Places.{config_at}
use Rattle.wf_states.specs.Rising.{both_at, both, BothFit, rising_at, AreRising}
use Rattle.wf_states.specs.Spelling.{facts, call, endpoint, log_entry, state, AreFacts, IsTask, IsCall, IsEndpoint, IsLogEntry, HasState, Spells}

-- ## One behind the other, from the last on
module _ {A B : Type 0} (a : Bytes → Read A) (p : A → Bytes) (F : A → Type 0) (first : Reads a p F) {b : Bytes → Read B} {q : B → Bytes} {G : B → Type 0} (second : Reads b q G) where
  and_then : Reads (both_at a b) (both p q) (BothFit F G)
  and_then = reads_both a p F first b q G second

abbrev AreTasks : List (ℕ × TaskPart) → Type 0
AreTasks = AreRising nat_lt Fits32 IsTask

abbrev fields_of : State → Fields
fields_of s = (s.facts, (s.made, (s.tasks, (s.calls, (s.endpoints, (s.log, (s.moves, (s.bodies, (s.last, s.outcome)))))))))

pub reads_state : Reads state_at state HasState
unfolding state_at
reads_state =
    reads_as _ _ _
    (and_then facts_at facts AreFacts reads_facts
    (and_then Number four Fits32 reads_32
    (and_then (rising_at nat_lt Number task_at) (listed (both four task_bytes)) AreTasks (reads_rising nat_lt Number four Fits32 reads_32 task_at task_bytes IsTask reads_task)
    (and_then (list_at call_at) (listed call) (Each IsCall) (reads_list call_at call IsCall reads_call)
    (and_then (list_at endpoint_at) (listed endpoint) (Each IsEndpoint) (reads_list endpoint_at endpoint IsEndpoint reads_endpoint)
    (and_then (list_at log_entry_at) (listed log_entry) (Each IsLogEntry) (reads_list log_entry_at log_entry IsLogEntry reads_log_entry)
    (and_then Long eight Fits64 reads_64 (and_then Long eight Fits64 reads_64 (and_then Long eight Fits64 reads_64 reads_outcome)))))))))
    state_made fields_of (λ p f. refl) (λ s. refl)

-- ## The laws
of_whole : (bytes : Bytes) (s : State) → by_offset (length bytes) (whole_at bytes) ≡ Ok s → whole_at bytes ≡ Ok s
of_whole bytes s e = by_result (length bytes) (whole_at bytes) s e
  where
    by_result : (count : ℕ) (r : Result State ℕ) (s : State) → by_offset count r ≡ Ok s → r ≡ Ok s
    by_result count (Ok t) s e = e
    by_result count (Err left) s e = absurd cc

pub spelled_where_read : (bytes : Bytes) (s : State) → AreBytes bytes → state_of bytes ≡ Ok s → Spells bytes s
unfolding state_of whole_at
spelled_where_read bytes s are e =
    let w = of_whole bytes s e in
    let r = bind_ok (state_at bytes) (λ x. if nat_eq (length x.1) 0 then Ok x.0 else Err (length x.1)) s w in
    let g = guard_yes (nat_eq (length r.0.1) 0) (length r.0.1) r.0.0 s r.2 in
    let t = reads_state.takes bytes r.0.0 r.0.1 are r.1 in
    let none : r.0.1 ≡ [] = nil_from_length r.0.1 (eqb-true (length r.0.1) 0 g.0) in
    subst (λ x. Spells bytes x) g.1 (t.2, t.0 ∙ ap (λ (l : Bytes). state r.0.0 ++ l) none ∙ append-nil (state r.0.0))

pub read_where_spelled : (bytes : Bytes) (s : State) → Spells bytes s → state_of bytes ≡ Ok s
unfolding state_of whole_at
read_where_spelled bytes s spells =
    let again : state_at bytes ≡ Ok (s, []) = ap state_at (spells.1 ∙ sym (append-nil (state s))) ∙ reads_state.again s [] spells.0 in
    rw again refl

pub reads_as_spelled : ReadsAsSpelled
reads_as_spelled bytes s are = (spelled_where_read bytes s are, read_where_spelled bytes s)

abbrev done : State → Result State ℕ
done s = Ok s

pub one_state : OneState
one_state bytes s t first second = let e : done s ≡ done t = sym (read_where_spelled bytes s first) ∙ read_where_spelled bytes t second in ok_is s t e

pub one_configuration : OneConfiguration
one_configuration p bytes c d first second =
    let same = one_state bytes first.parts second.parts first.spells second.spells in
    let e : ◌≡◌ {A = Option Config} (Some c) (Some d) = sym first.stands ∙ ap (config_at p) same ∙ second.stands in
    cc
