-- When each fault of reading comes.
use Rattle.std.specs.Prelude.{◌≡◌, ℕ, List, reverse, Option, Some}
use Rattle.wf_value.specs.Json.{IsNotJson}
use Rattle.wf_value.specs.declared.path.PathPart.{PathPart}
use Rattle.wf_tree.specs.Json.{HasDecimalAt, IsTooDeep}
use Rattle.wf_tree.specs.declared.json_text.TreeFault.{TreeFault}
use Rattle.wf_tree.specs.declared.json_text.TreeFault.TheVariants.{NotJson, Decimal, TooDeep, OutOfMemory}
use Rattle.wf_tree.specs.declared.json_text.NoTree.{NoTree}
use Rattle.wf_tree.specs.declared.json_text.NoTree.TheVariants as none

-- what holds of the source where a fault is told
abbrev pub IsFaultOf : List ℕ → TreeFault → Type 0
IsFaultOf b NotJson = IsNotJson b
IsFaultOf b (Decimal path) = HasDecimalAt b path
IsFaultOf b TooDeep = IsTooDeep b
IsFaultOf b OutOfMemory = Unit {0}

-- the fault of the reader: the source, or no memory
abbrev pub IsReaderFault : List ℕ → TreeFault → Type 0
IsReaderFault b NotJson = IsNotJson b
IsReaderFault b (Decimal path) = ⊥
IsReaderFault b TooDeep = ⊥
IsReaderFault b OutOfMemory = Unit {0}

-- the fault of some JSON that was read: the first decimal of it, or no memory
abbrev pub IsTreeFault : (first : Option (List PathPart)) → TreeFault → Type 0
IsTreeFault first NotJson = ⊥
IsTreeFault first (Decimal path) = first ≡ Some path
IsTreeFault first TooDeep = ⊥
IsTreeFault first OutOfMemory = Unit {0}

-- the same while the path is built, the innermost step first
abbrev pub IsNoTree : (first : Option (List PathPart)) → NoTree → Type 0
IsNoTree first (none.Decimal steps) = first ≡ Some (reverse steps.items)
IsNoTree first none.OutOfMemory = Unit {0}
