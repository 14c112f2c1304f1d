-- The numbers of workflows by their names.
use Rattle.std.specs.Prelude.{◌≡◌, List}
use Rattle.std.specs.Coded.{Coded-set, coded_option, coded_ℕ}
use Rattle.wf_ast.specs.Tree.{Flow}
use Rattle.wf_table.specs.Built.{flow_number, flow_of}
use Rattle.wf_table.specs.declared.table.Table.{Table}
use Rattle.wf_value.specs.Pairs.{Text}

-- each name has the number of the first workflow that has it
abbrev pub IsNumbered : List Flow → Table → Type 0
IsNumbered fs t = (x : Text) → flow_of t x ≡ flow_number x fs 0

-- this has at most one proof
pub IsNumbered-prop : (fs : List Flow) (t : Table) → IsProp (IsNumbered fs t)
IsNumbered-prop fs t = λ a b i x. Coded-set (coded_option coded_ℕ) (flow_of t x) (flow_number x fs 0) (a x) (b x) i
