-- Entries of assigns, evaluated.
use Rattle.std.specs.Prelude.{List, Ok, map}
use Rattle.wf_ast.specs.Apply.{View}
use Rattle.wf_ast.specs.Eval.{eval_all, fill}
use Rattle.wf_ast.specs.Tree.{Entry}
use Rattle.wf_frames.specs.declared.assigned.Assigned.{Assigned}
use Rattle.wf_value.specs.Data.{Data}
use Rattle.wf_value.specs.Errors.{Answer, ◌>>=◌}
use Rattle.wf_value.specs.Plain.{plain}

-- the value of an entry, and then those of the places of its target
abbrev pub entry_values : Entry → View → Answer (Data × List Data)
entry_values e v = fill e.value v >>= λ d. eval_all e.target.places v >>= λ ds. Ok (d, ds)

abbrev pub values_of : Assigned → Data × List Data
values_of a = (plain a.value, map plain a.places.items)
