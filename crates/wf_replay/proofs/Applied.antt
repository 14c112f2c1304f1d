-- How many events records have.
use Rattle.std.specs.Prelude.{◌≡◌, ◌+◌, ℕ, List, ◌∷◌, length, Option, Some}
use Rattle.std.proofs.Common.{◌∙◌, ap, arith, length-append}
use Rattle.wf_events.specs.Reading.{meaning}
use Rattle.wf_events.specs.Records.{Record, Started, Turned, Kept, Upgrade, Packed, StartedTwo}
use Rattle.wf_deeds.specs.At.{applied_by, events_of, turns_in}
use Rattle.wf_deeds.specs.History.{events, with_turn}
use Rattle.wf_history.specs.Kinds.{turn_in, turn_of_record}
use Rattle.wf_value.specs.Events.{Turn}

-- those of the first, and those of the others
with_first : (r : Record) (ts : List Turn) → length (events (with_turn (turn_of_record r) ts)) ≡ length (events_of r) + length (events ts)
with_first (Turned t) ts = length-append t.events (events ts)
with_first (Started s) ts = omega arith
with_first (Kept k) ts = omega arith
with_first Upgrade ts = omega arith
with_first (Packed t) ts = length-append t.events (events ts)
with_first (StartedTwo s) ts = omega arith

-- where a record is passed and its events are counted, those that are left are fewer by as many
pub passed : (r : Record) (b : List ℕ) (rest ahead : List (List ℕ)) (before after : ℕ) → ahead ≡ b ∷ rest → meaning b ≡ Some r → after ≡ before + length (events_of r) → after + applied_by rest ≡ before + applied_by ahead
passed r b rest ahead before after next meant counted =
    let all : applied_by ahead ≡ length (events_of r) + applied_by rest =
    ap applied_by next ∙ ap (λ (m : Option Record). length (events (with_turn (turn_in m) (turns_in rest)))) meant ∙ with_first r (turns_in rest) in
    omega (arith, all, counted)
