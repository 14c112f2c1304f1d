-- The worked examples hold: records are read from their bytes, their sources are worked examples of wf_source, and the rest computes.
use Rattle.std.specs.Prelude.{◌≡◌, ℕ, true, false, List, [], ◌∷◌, map, Option, Some, None, option_and_then, Result, Ok, Err, codes}
use Rattle.std.proofs.Common.{refl, ◌∙◌, ap}
use Rattle.std.specs.Str.{chars, is_utf8}
use Rattle.json.specs.Json.{value}
use Rattle.json.specs.Lex.{lex, punctuate}
use Rattle.json.specs.Word.{word}
use lib.Utf8.{encode}
use Rattle.wf_ast.specs.Tree.{Program}
use Rattle.wf_lives.specs.Rows.{WorkedHistories, outcome, outcome_of, start, turn}
use Rattle.wf_events.specs.Reading.{meaning, record_of, whole_at, record_at, start_at, turn_at, events_at, event_at, argument_at, is_argument}
use Rattle.wf_events.specs.Records.{Record, Started, Turned}
use Rattle.wf_events.specs.Spelling.{record_bytes}
use Rattle.wf_deeds.specs.History.{Standing, first_standing, goes_on, goes_to, history, history_from, started, told}
use Rattle.wf_model.specs.Config.{After, Config, To}
use Rattle.wf_model.specs.Run.{empty, initial, run_on}
use Rattle.wf_record_parts.specs.Reading.{text_at, string_at, list_at, items_at}
use Rattle.wf_replay.specs.TheLanguage.{accepted, the_language}
use Rattle.wf_value.specs.Events.{Move}
use Rattle.wf_source.proofs.RowsHold.{worked_sources}
use Rattle.wf_source.specs.Function.{source_of}
use Rattle.wf_source.specs.Rows.{returns_a_sum}
use Rattle.wf_status.specs.declared.Refusal.{Refusal}

-- ## The sources
abbrev sum : List ℕ
sum = codes "- a:\n    return: ${1 + 1}\n"

abbrev wrong : List ℕ
wrong = codes "- a:\n    return: ${1 +}\n"

source_is : (bytes : List ℕ) (r : Result Program Refusal) → source_of bytes ≡ r → the_language.source bytes ≡ accepted r
unfolding the_language
source_is bytes r is = ap accepted is

-- ## The records
means_sum : meaning (record_bytes (Started (start sum))) ≡ Some (Started (start sum))
unfolding meaning record_bytes record_of whole_at record_at start_at text_at string_at argument_at is_argument value punctuate lex word list_at items_at chars is_utf8 encode
means_sum = refl

means_wrong : meaning (record_bytes (Started (start wrong))) ≡ Some (Started (start wrong))
unfolding meaning record_bytes record_of whole_at record_at start_at text_at string_at argument_at is_argument value punctuate lex word list_at items_at chars is_utf8 encode
means_wrong = refl

means_turn : meaning (record_bytes (Turned turn)) ≡ Some (Turned turn)
unfolding meaning record_bytes record_of whole_at record_at turn_at events_at event_at list_at items_at
means_turn = refl

-- ## Where they lead
first_is : (source : List ℕ) (r : Result Program Refusal) → meaning (record_bytes (Started (start source))) ≡ Some (Started (start source)) → source_of source ≡ r
    → first_standing the_language (meaning (record_bytes (Started (start source)))) ≡ option_and_then (λ p. started p false (initial p (start source))) (accepted r)
first_is source r means is = ap (λ o. first_standing the_language o) means ∙ ap (λ o. option_and_then (λ p. started p false (initial p (start source))) o) (source_is source r is)

outcome_is : (r : Record) (rs : List Record) (o : Option Standing) → first_standing the_language (meaning (record_bytes r)) ≡ o → outcome (r ∷ rs) ≡ outcome_of (history_from the_language o (map meaning (map record_bytes rs)))
unfolding history
outcome_is r rs o is = ap (λ x. outcome_of (history_from the_language x (map meaning (map record_bytes rs)))) is

abbrev behind : Standing → Option Record → List (List ℕ) → Result Standing ℕ
behind s r bs = elim (goes_on the_language s r) [ None ↦ Err (told s.number) | Some t ↦ goes_to the_language t bs ]

turn_on : (s : Standing) (bs : List (List ℕ)) → goes_to the_language s (record_bytes (Turned turn) ∷ bs) ≡ behind s (Some (Turned turn)) bs
turn_on s bs = ap (λ r. behind s r bs) means_turn

abbrev config_of : After → Config
config_of (To c) = c
config_of a = empty (start sum)

-- behind the start, and behind one turn
abbrev first : Standing
first = record { program = returns_a_sum; config = config_of (initial returns_a_sum (start sum)); number = 1; session = 0; waits = 0; two = false; marks = false }

abbrev second : Standing
second = record { program = returns_a_sum; config = config_of (run_on returns_a_sum (To first.config) (Move 0 ∷ [])); number = 2; session = 1; waits = 0; two = false; marks = true }

begun : first_standing the_language (meaning (record_bytes (Started (start sum)))) ≡ Some first
begun = first_is sum (Ok returns_a_sum) means_sum worked_sources.yaml

pub worked_histories : WorkedHistories
unfolding history
worked_histories = record {
  nothing = refl;
  start_alone = outcome_is (Started (start sum)) [] (Some first) begun;
  sum_is_returned = outcome_is (Started (start sum)) (Turned turn ∷ []) (Some first) begun ∙ ap outcome_of (turn_on first []);
  source_is_refused = outcome_is (Started (start wrong)) [] None (first_is wrong (Err _) means_wrong worked_sources.operand_is_missing);
  turn_behind_the_outcome = outcome_is (Started (start sum)) (Turned turn ∷ Turned turn ∷ []) (Some first) begun ∙ ap outcome_of (turn_on first (record_bytes (Turned turn) ∷ [])) ∙ ap outcome_of (turn_on second []);
}
