-- What is told of an execution.
--     shown, shown_as     four lines of a configuration, with its own id or another
--     logged              the lines of its log
use Rattle.std.specs.Prelude.{ℕ, Bool, true, ◌||◌, nat_eq, if◌then◌else◌, List, [], ◌∷◌, ◌++◌, length, Option, Some, None, codes, decimal, flat_map}
use Rattle.std.specs.List.{starts_with}
use Rattle.wf_model.specs.Config.{Config, LogEntry, Outcome, Active, Returned, Raised, Cancelled}
use Rattle.wf_value.specs.Events.{severity_name}
use Rattle.wf_value.specs.Json.{json_text}

-- ## What it has come to
abbrev pub state_word : Outcome → List ℕ
state_word Active = codes "active"
state_word (Returned v) = codes "succeeded"
state_word (Raised e) = codes "failed"
state_word Cancelled = codes "cancelled"

-- the id, the state, the counted events and the calls, a line each
unfoldable pub shown_as : List ℕ → Config → List ℕ
shown_as id c =
    codes "id " ++ id ++ codes "\nstate " ++ state_word c.outcome ++ codes "\nmoves " ++ decimal c.moves ++ codes "\ncalls " ++ decimal (length c.calls)
    ++ codes "\n"

abbrev pub shown : Config → List ℕ
shown c = shown_as c.facts.id c

-- ## What it has logged
-- a text stands in these bytes
abbrev pub holds : List ℕ → List ℕ → Bool
holds text [] = starts_with nat_eq [] text
holds text (b ∷ bs) = starts_with nat_eq (b ∷ bs) text || holds text bs

-- JSON that holds the text which is looked for, if there is one
abbrev pub is_wanted : Option (List ℕ) → List ℕ → Bool
is_wanted None json = true
is_wanted (Some text) json = holds text json

-- the reading, the severity and the value
abbrev pub entry_line : LogEntry → List ℕ
entry_line e = decimal e.reading ++ codes " " ++ severity_name e.severity ++ codes " " ++ json_text e.value ++ codes "\n"

abbrev pub told_of : Option (List ℕ) → LogEntry → List ℕ
told_of grep e = if is_wanted grep (json_text e.value) then entry_line e else []

-- a line for each entry that is wanted, in their order
unfoldable pub logged : Option (List ℕ) → List LogEntry → List ℕ
logged grep es = flat_map (told_of grep) es
