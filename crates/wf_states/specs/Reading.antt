-- Reading the parts of a state from left to right.
--     value_at, item_at ..   what stands at the front, or how many bytes are left where no part stands
--     state_of               the state that these bytes spell, or the offset of the first part that no state goes on with
use Rattle.std.specs.Prelude.{ℕ, zero, suc, ◌-◌, ℤ, Bool, true, false, nat_lt, nat_eq, if◌then◌else◌, List, length, map, Option, Result, Ok, Err}
use Rattle.std.specs.Int.{w16, w32, w64, cast_signed}
use Rattle.wf_events.specs.Reading.{pair_at, route_at}
use Rattle.wf_model.specs.Config.{Layer, Left, OfList, OfRange, Wait, Awake, Sleep, Delay, Calling, Await, Call, Open, Answered, TimedOut, LogEntry, Outcome, Active, Returned, Raised, Cancelled, Facts}
use Rattle.wf_record_parts.specs.Reading.{Read, ◌>>=◌, byte_at, number_at, string_at, text_at, list_at, method_at, visitor_at}
use Rattle.wf_record_parts.specs.Spelling.{Bytes}
use Rattle.wf_states.specs.Parts.{WorkPart, Branches, Iterations, ItemPart, Do, Entries, Then, Loop, Try, Judge, Mark, Back, Join, TaskPart, State}
use Rattle.wf_states.specs.Rising.{as_made, both_at, option_at, nothing_at, rising_at}
use Rattle.wf_states.specs.Spelling.{less_key}
use Rattle.wf_value.specs.Data as plain
use Rattle.wf_value.specs.Data.{Data, Pairs, items_of, pairs_of}
use Rattle.wf_value.specs.Events.{Method, Routes, Visitor}
use Rattle.wf_value.specs.declared.Severity.{Severity}
use Rattle.wf_value.specs.Pairs.{Text}
use Rattle.wf_value.specs.Queues.{Endpoint}
use Rattle.wf_value.specs.declared.Severity.TheVariants as severity

-- ## Values
abbrev pub signed_at : Bytes → Read ℤ
signed_at bytes = as_made (cast_signed w64) (number_at w64 bytes)

-- 00 or 01
unfoldable pub truth_at : Bytes → Read Bool
truth_at bytes = do
  kind ← byte_at bytes
  if nat_eq kind.0 0 then Ok (false, kind.1) else (if nat_eq kind.0 1 then Ok (true, kind.1) else Err (length bytes))

-- a value that holds no other, by the code that stood before these bytes; or what stands otherwise
abbrev pub scalar_at : ℕ → Bytes → Read Data → Read Data
scalar_at kind bytes others =
    if nat_eq kind 0
    then Ok (plain.null, bytes)
    else if nat_eq kind 1
    then as_made plain.boolean (truth_at bytes)
    else if nat_eq kind 2
    then as_made plain.integer (signed_at bytes)
    else if nat_eq kind 3
    then as_made plain.text (text_at bytes)
    else if nat_eq kind 4
    then as_made plain.bytes (string_at bytes)
    else others

-- a value that nests at most so deep
unfoldable pub value_in : ℕ → Bytes → Read Data
value_in zero bytes = byte_at bytes >>= λ kind. scalar_at kind.0 kind.1 (Err (length bytes))
value_in (suc n) bytes =
    byte_at bytes >>= λ kind. scalar_at kind.0 kind.1 (
    if nat_eq kind.0 5
    then as_made (λ ds. plain.list (items_of ds)) (list_at (value_in n) kind.1)
    else if nat_eq kind.0 6
    then as_made (λ ps. plain.map (pairs_of ps)) (rising_at less_key text_at (value_in n) kind.1)
    else Err (length bytes)
    )

-- the nesting of a value of a configuration that fits is at most 100
abbrev pub value_at : Bytes → Read Data
value_at = value_in 100

abbrev pub variables_at : Bytes → Read Pairs
variables_at bytes = as_made pairs_of (rising_at less_key text_at value_at bytes)

-- ## Controls
unfoldable pub left_at : Bytes → Read Left
left_at bytes = do
  kind ← byte_at bytes
  if nat_eq kind.0 0
      then as_made OfList (list_at value_at kind.1)
      else if nat_eq kind.0 1
      then as_made (λ p. OfRange p.0 p.1) (both_at signed_at signed_at kind.1)
      else Err (length bytes)

unfoldable pub work_at : Bytes → Read WorkPart
work_at bytes = do
  kind ← byte_at bytes
  if nat_eq kind.0 0
      then as_made Branches (number_at w32 kind.1)
      else if nat_eq kind.0 1
      then as_made (λ p. Iterations p.0 p.1) (both_at left_at (number_at w32) kind.1)
      else Err (length bytes)

abbrev pub numbers_at : Bytes → Read (List ℕ)
numbers_at bytes = as_made (map (λ p. p.0)) (rising_at nat_lt (number_at w32) nothing_at bytes)

abbrev pub errors_at : Bytes → Read (List (ℕ × Data))
errors_at = rising_at nat_lt (number_at w32) value_at

abbrev pub delay_at : Bytes → Read (Option ℕ)
delay_at = option_at (number_at w64)

abbrev pub result_at : Bytes → Read (Option Text)
result_at = option_at text_at

unfoldable pub item_at : Bytes → Read ItemPart
item_at bytes = do
  kind ← byte_at bytes
  if nat_eq kind.0 1
      then as_made (λ p. Do p.0 p.1) (both_at (number_at w32) (number_at w32) kind.1)
      else if nat_eq kind.0 2
      then as_made (λ p. Entries p.0 p.1) (both_at (number_at w32) (number_at w32) kind.1)
      else if nat_eq kind.0 3
      then as_made Then (text_at kind.1)
      else if nat_eq kind.0 4
      then as_made (λ p. Loop p.0 p.1.0 p.1.1) (both_at (number_at w32) (both_at left_at (number_at w64)) kind.1)
      else if nat_eq kind.0 5
      then as_made (λ p. Try p.0 p.1.0 p.1.1) (both_at (number_at w32) (both_at (number_at w32) delay_at) kind.1)
      else if nat_eq kind.0 6
      then as_made (λ p. Judge p.0 p.1.0 p.1.1.0 p.1.1.1) (both_at (number_at w32) (both_at (number_at w32) (both_at delay_at value_at)) kind.1)
      else if nat_eq kind.0 7
      then Ok (Mark, kind.1)
      else if nat_eq kind.0 8
      then as_made Back (result_at kind.1)
      else if nat_eq kind.0 9
      then as_made (λ p. Join p.0 p.1.0 p.1.1.0 p.1.1.1) (both_at (number_at w32) (both_at work_at (both_at numbers_at errors_at)) kind.1)
      else Err (length bytes)

-- ## Tasks
unfoldable pub wait_at : Bytes → Read Wait
wait_at bytes = do
  kind ← byte_at bytes
  if nat_eq kind.0 0
      then Ok (Awake, kind.1)
      else if nat_eq kind.0 1
      then as_made (λ p. Sleep p.0 p.1) (both_at (number_at w64) result_at kind.1)
      else if nat_eq kind.0 2
      then as_made Delay (number_at w64 kind.1)
      else if nat_eq kind.0 3
      then as_made (λ p. Calling p.0 p.1) (both_at (number_at w64) result_at kind.1)
      else if nat_eq kind.0 4
      then as_made (λ p. Await p.0 p.1.0 p.1.1) (both_at (number_at w64) (both_at (number_at w64) result_at) kind.1)
      else Err (length bytes)

abbrev pub layer_of : Bool × Pairs → Layer
layer_of p = record { vars = p.1; by_call = p.0 }

abbrev pub layer_at : Bytes → Read Layer
layer_at bytes = as_made layer_of (both_at truth_at variables_at bytes)

abbrev pub parent_at : Bytes → Read (ℕ × ℕ)
parent_at = both_at (number_at w32) (number_at w32)

abbrev pub task_of : Option (ℕ × ℕ) × (List ItemPart × (List Layer × Wait)) → TaskPart
task_of p = record { parent = p.0; items = p.1.0; layers = p.1.1.0; wait = p.1.1.1 }

-- behind its number
abbrev pub task_at : Bytes → Read TaskPart
task_at bytes = as_made task_of (both_at (option_at parent_at) (both_at (list_at item_at) (both_at (list_at layer_at) wait_at)) bytes)

-- ## Beside the tasks
abbrev pub open_of : ℕ × (Text × (ℕ × (List ℕ × ℕ))) → Call
open_of p = Open p.0 (record { address = record { name = p.1.0; port = p.1.1.0 }; bytes = p.1.1.1.0 }) p.1.1.1.1

unfoldable pub call_at : Bytes → Read Call
call_at bytes = do
  kind ← byte_at bytes
  if nat_eq kind.0 0
      then Ok (Answered, kind.1)
      else if nat_eq kind.0 1
      then Ok (TimedOut, kind.1)
      else if nat_eq kind.0 2
      then as_made open_of (both_at (number_at w32) (both_at text_at (both_at (number_at w16) (both_at string_at (number_at w64)))) kind.1)
      else Err (length bytes)

abbrev pub endpoint_of : Method × List Visitor → Endpoint
endpoint_of p = record { method = p.0; queue = p.1 }

abbrev pub endpoint_at : Bytes → Read Endpoint
endpoint_at bytes = as_made endpoint_of (both_at method_at (list_at visitor_at) bytes)

unfoldable pub severity_at : Bytes → Read Severity
severity_at bytes = do
  kind ← byte_at bytes
  if nat_eq kind.0 0
      then Ok (severity.Default, kind.1)
      else if nat_eq kind.0 1
      then Ok (severity.Debug, kind.1)
      else if nat_eq kind.0 2
      then Ok (severity.Info, kind.1)
      else if nat_eq kind.0 3
      then Ok (severity.Notice, kind.1)
      else if nat_eq kind.0 4
      then Ok (severity.Warning, kind.1)
      else if nat_eq kind.0 5
      then Ok (severity.Error, kind.1)
      else if nat_eq kind.0 6
      then Ok (severity.Critical, kind.1)
      else if nat_eq kind.0 7
      then Ok (severity.Alert, kind.1)
      else if nat_eq kind.0 8
      then Ok (severity.Emergency, kind.1)
      else Err (length bytes)

abbrev pub log_entry_of : ℕ × (Severity × Data) → LogEntry
log_entry_of p = record { reading = p.0; severity = p.1.0; value = p.1.1 }

abbrev pub log_entry_at : Bytes → Read LogEntry
log_entry_at bytes = as_made log_entry_of (both_at (number_at w64) (both_at severity_at value_at) bytes)

unfoldable pub outcome_at : Bytes → Read Outcome
outcome_at bytes = do
  kind ← byte_at bytes
  if nat_eq kind.0 0
      then Ok (Active, kind.1)
      else if nat_eq kind.0 1
      then as_made Returned (value_at kind.1)
      else if nat_eq kind.0 2
      then as_made Raised (value_at kind.1)
      else if nat_eq kind.0 3
      then Ok (Cancelled, kind.1)
      else Err (length bytes)

-- 01 or 02
unfoldable pub rules_at : Bytes → Read ℕ
rules_at bytes = do
  kind ← byte_at bytes
  if nat_eq kind.0 1 then Ok (1, kind.1) else (if nat_eq kind.0 2 then Ok (2, kind.1) else Err (length bytes))

abbrev pub facts_of : ℕ × (Text × (Routes × (List (Text × Text) × Text))) → Facts
facts_of p = record { id = p.1.0; routes = p.1.1.0; env = p.1.1.1.0; base = p.1.1.1.1; rules = p.0 }

abbrev pub facts_at : Bytes → Read Facts
facts_at bytes = as_made facts_of (both_at rules_at (both_at text_at (both_at (list_at route_at) (both_at (list_at pair_at) text_at))) bytes)

-- ## States
-- its fields, in their order
abbrev pub Fields : Type 0
Fields = Facts × (ℕ × (List (ℕ × TaskPart) × (List Call × (List Endpoint × (List LogEntry × (ℕ × (ℕ × (ℕ × Outcome))))))))

abbrev pub state_made : Fields → State
state_made p = record {
  facts = p.0;
  made = p.1.0;
  tasks = p.1.1.0;
  calls = p.1.1.1.0;
  endpoints = p.1.1.1.1.0;
  log = p.1.1.1.1.1.0;
  moves = p.1.1.1.1.1.1.0;
  bodies = p.1.1.1.1.1.1.1.0;
  last = p.1.1.1.1.1.1.1.1.0;
  outcome = p.1.1.1.1.1.1.1.1.1;
}

unfoldable pub state_at : Bytes → Read State
state_at bytes = as_made state_made
    (both_at facts_at
    (both_at (number_at w32)
    (both_at (rising_at nat_lt (number_at w32) task_at)
    (both_at (list_at call_at)
    (both_at (list_at endpoint_at)
    (both_at (list_at log_entry_at) (both_at (number_at w64) (both_at (number_at w64) (both_at (number_at w64) outcome_at)))))))) bytes)

-- a state, and nothing behind it; or the offset of the first part that no state goes on with
unfoldable pub whole_at : Bytes → Result State ℕ
whole_at bytes = do
  s ← state_at bytes
  if nat_eq (length s.1) 0 then Ok s.0 else Err (length s.1)

abbrev pub by_offset : ℕ → Result State ℕ → Result State ℕ
by_offset count (Ok s) = Ok s
by_offset count (Err left) = Err (count - left)

unfoldable pub state_of : Bytes → Result State ℕ
state_of bytes = by_offset (length bytes) (whole_at bytes)
