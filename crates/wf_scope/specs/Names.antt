-- The names of a layer, in order. One without a value isn't bound.
--     bound_of              those that are bound, with their values
--     value_of              the value of a name that was found
--     unbound               a name without its value
--     is_whole              a whole number
use Rattle.std.specs.Prelude.{Bool, true, false, List, [], ◌∷◌, Option, Some, None, option_map}
use Rattle.wf_value.specs.Data.{Data, integer}
use Rattle.wf_value.specs.Pairs.{Text}
use Rattle.wf_value.specs.Plain.{plain}
use Rattle.wf_value.specs.declared.Value.{Value}

-- a name before others that are bound
abbrev pub with_bound : Text → Option Value → List (Text × Data) → List (Text × Data)
with_bound x None ps = ps
with_bound x (Some v) ps = (x, plain v) ∷ ps

abbrev pub bound_of : List (Text × Option Value) → List (Text × Data)
bound_of [] = []
bound_of (e ∷ es) = with_bound e.0 e.1 (bound_of es)

abbrev pub value_of : Option (Option Value) → Option Data
value_of None = None
value_of (Some o) = option_map plain o

abbrev pub unbound : Text × Option Value → Text × Option Value
unbound e = (e.0, None)

abbrev pub is_whole : Option Data → Bool
is_whole (Some (integer n)) = true
is_whole o = false
