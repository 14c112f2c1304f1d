-- Laws of sources, as they stand in the contract of `laws_of_sources`.
use Rattle.std.specs.Prelude.{◌≡◌, ◌≤◌, ℕ, List, length}
use Rattle.wf_ast.specs.Tree.{Program}
use Rattle.wf_source.specs.Programs.{IsRefusalOf, IsSourceOf}
use Rattle.wf_status.specs.declared.Refusal.{Refusal}

-- a source is at most one program
abbrev pub OneProgram : Type 0
OneProgram = (bytes : List ℕ) (p q : Program) → IsSourceOf bytes p → IsSourceOf bytes q → p ≡ q

-- one refusal speaks first
abbrev pub OneRefusal : Type 0
OneRefusal = (bytes : List ℕ) (r s : Refusal) → IsRefusalOf bytes r → IsRefusalOf bytes s → r ≡ s

-- what is a program isn't refused
abbrev pub NotBoth : Type 0
NotBoth = (bytes : List ℕ) (p : Program) (r : Refusal) → IsSourceOf bytes p → ¬ IsRefusalOf bytes r

-- a program has at most 131,072 bytes
abbrev pub ProgramIsShort : Type 0
ProgramIsShort = (bytes : List ℕ) (p : Program) → IsSourceOf bytes p → length bytes ≤ 131072
