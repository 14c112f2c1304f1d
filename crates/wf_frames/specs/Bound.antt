-- Names and the values that they are bound to.
use Rattle.std.specs.Prelude.{List, map, reverse}
use Rattle.wf_frames.specs.declared.bindings.Bindings.{Bindings}
use Rattle.wf_value.specs.Data.{Data}
use Rattle.wf_value.specs.Pairs.{Text}
use Rattle.wf_value.specs.Plain.{plain}
use Rattle.wf_value.specs.declared.Value.{Value}

abbrev pub binding_of : Text × Value → Text × Data
binding_of x = (x.0, plain x.1)

-- in their order
abbrev pub bindings_of : Bindings → List (Text × Data)
bindings_of b = map binding_of (reverse b.items.items)
