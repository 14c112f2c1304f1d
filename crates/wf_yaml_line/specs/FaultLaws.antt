-- What the law of faults says: of the faults of two parts the least speaks, by line and then by kind.
use Rattle.std.specs.Prelude.{◌≡◌, ◌⊎◌, ◌↔◌, ◌<◌, ◌≤◌, true, Result, Err}
use Rattle.wf_yaml_line.specs.Fault.{Fault, rank, speaks_before, both}

-- an order of all faults: the earlier line is before, and in one line the lower kind
pub record SpeakingIsAnOrder : Type 0 where
  pub by_line_and_kind : (f g : Fault) → (speaks_before f g ≡ true) ↔ ((f.line < g.line) ⊎ ((f.line ≡ g.line) × (rank f.kind ≤ rank g.kind)))
  pub reflexive : (f : Fault) → speaks_before f f ≡ true
  pub transitive : (f g h : Fault) → speaks_before f g ≡ true → speaks_before g h ≡ true → speaks_before f h ≡ true
  pub total : (f g : Fault) → (speaks_before f g ≡ true) ⊎ (speaks_before g f ≡ true)
  pub same_both_ways : (f g : Fault) → speaks_before f g ≡ true → speaks_before g f ≡ true → f ≡ g

-- the fault speaks before that of this part, if it has one
abbrev pub SpeaksBefore : {A : Type 0} → Fault → Result A Fault → Type 0
SpeaksBefore h part = (g : Fault) → part ≡ Err g → speaks_before h g ≡ true

-- The fault of two parts is a fault of one of them, and speaks before that of each.
abbrev pub TheLeastSpeaks : (A B C : Type 0) → Type 0
TheLeastSpeaks A B C = (f : A → B → C) (part : Result A Fault) (other : Result B Fault) (h : Fault) → both f part other ≡ Err h
    → ((part ≡ Err h) ⊎ (other ≡ Err h)) × SpeaksBefore h part × SpeaksBefore h other
