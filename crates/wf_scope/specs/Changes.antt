-- What binding and assigning lead to.
--     bound, assigned       the layers behind it, or the fault
--     Answers               what such a call answers, and the layers that it leaves
use Rattle.std.specs.Prelude.{◌≡◌, ℕ, List, if◌then◌else◌, nat_le, unwrap_or, Some, None, Ok, Err, Option, Result}
use Rattle.wf_ast.specs.Places.{written, made_new}
use Rattle.wf_value.specs.Data.{Data, depth}
use Rattle.wf_value.specs.Errors.{Answer}
use Rattle.wf_value.specs.Maps.{value_at}
use Rattle.wf_value.specs.Pairs.{Text}
use Rattle.wf_scope.specs.Faults.{faulted}
use Rattle.wf_scope.specs.Layers.{Layer, chain, holder_in, put_at, total_of, vars_at}
use Rattle.wf_scope.specs.declared.fault.AssignFault.{AssignFault}
use Rattle.wf_scope.specs.declared.fault.AssignFault.TheVariants as fault

-- a variable of a layer with this value, if the total and the nesting are within their limits
abbrev pub bound : ℕ → ℕ → Text → Data → List Layer → Result (List Layer) AssignFault
bound limit n x v ls =
    if nat_le (total_of (put_at n x v ls)) limit
    then (if nat_le (depth v) 100 then Ok (put_at n x v ls) else Err fault.TooDeep)
    else Err fault.TooLarge

-- the same with a value that may not be there
abbrev pub bound_to : ℕ → ℕ → Text → Result Data AssignFault → List Layer → Result (List Layer) AssignFault
bound_to limit n x (Ok v) ls = bound limit n x v ls
bound_to limit n x (Err f) ls = Err f

-- the value of a variable, behind an assignment to it or to the places below it
abbrev pub changed : Option Data → List Data → Data → Answer Data
changed None ks v = made_new ks v
changed (Some w) ks v = written ks w v

-- the layer that an assignment changes: the one that is seen to have the name, and else the layer itself
abbrev pub target : Text → ℕ → List Layer → ℕ
target x n ls = unwrap_or (holder_in x (chain n ls)) n

-- this layer's variable, or places below it, changed
abbrev pub assigned_at : ℕ → ℕ → Text → List Data → Data → List Layer → Result (List Layer) AssignFault
assigned_at limit n x ks v ls = bound_to limit n x (faulted (changed (value_at x (vars_at n ls)) ks v)) ls

-- an assignment from a layer
abbrev pub assigned : ℕ → ℕ → Text → List Data → Data → List Layer → Result (List Layer) AssignFault
assigned limit n x ks v ls = assigned_at limit (target x n ls) x ks v ls

-- a call leaves these layers, or tells the fault; want of memory may be answered in place of anything
abbrev pub Answers : Result (Unit {0}) AssignFault → List Layer → Result (List Layer) AssignFault → Type 0
Answers (Ok u) new r = r ≡ Ok new
Answers (Err fault.OutOfMemory) new r = Unit {0}
Answers (Err f) new r = r ≡ Err f
