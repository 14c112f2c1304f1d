-- What reading JSON into a tree gives is decided by the source alone.
use Rattle.std.specs.Prelude.{◌≡◌, ◌⊎◌, ◌↔◌, ℕ, List, Some}
use Rattle.wf_value.specs.Json.{IsNotJson, HasDecimal}
use Rattle.wf_value.specs.declared.path.PathPart.{PathPart}
use Rattle.wf_tree.specs.Trees.{Tree}
use Rattle.wf_tree.specs.Decode.{json_tree}
use Rattle.wf_tree.specs.Json.{HasDecimalAt, IsTooDeep, IsTree}

-- some tree is what the source says
abbrev pub HasTree : List ℕ → Type 0
HasTree b = (t : Tree) × IsTree b t

-- some path is that of the source's first decimal
abbrev pub HasPath : List ℕ → Type 0
HasPath b = (p : List PathPart) × HasDecimalAt b p

-- of any source one of the four holds
abbrev pub OneHolds : Type 0
OneHolds = (b : List ℕ) → HasTree b ⊎ (IsNotJson b ⊎ (HasPath b ⊎ IsTooDeep b))

-- no two of the four hold of some source
pub record NoTwoHold (b : List ℕ) : Type 0 where
  pub tree_or_not_json : HasTree b → ¬ IsNotJson b
  pub tree_or_decimal : HasTree b → ¬ HasPath b
  pub tree_or_too_deep : HasTree b → ¬ IsTooDeep b
  pub not_json_or_decimal : IsNotJson b → ¬ HasPath b
  pub not_json_or_too_deep : IsNotJson b → ¬ IsTooDeep b
  pub decimal_or_too_deep : HasPath b → ¬ IsTooDeep b

-- a source says one tree at most
abbrev pub OneTree : Type 0
OneTree = (b : List ℕ) (t u : Tree) → IsTree b t → IsTree b u → t ≡ u

-- and has one first decimal at most
abbrev pub OnePath : Type 0
OnePath = (b : List ℕ) (p q : List PathPart) → HasDecimalAt b p → HasDecimalAt b q → p ≡ q

-- a source has a first decimal exactly where it is no value for its decimals
abbrev pub AsValues : Type 0
AsValues = (b : List ℕ) → HasPath b ↔ HasDecimal b

-- the function that reads finds just the tree that the source says
abbrev pub FindsTheTree : Type 0
FindsTheTree = (b : List ℕ) (t : Tree) → (json_tree b ≡ Some t) ↔ IsTree b t
