-- Values as places below a variable.
use Rattle.std.specs.Prelude.{◌≡◌, Bool, true, false, ◌&&◌, List, [], ◌∷◌, map as each, Some, None, Ok, Err, Option, Result}
use Rattle.std.specs.Borrow.{Bor}
use Rattle.std.specs.Prelude.{Vec}
use Rattle.std.specs.declared.alloc.Global.{Global}
use Rattle.wf_scope.specs.Places.{key_data}
use Rattle.wf_scope.specs.declared.key.Key.{Key}
use Rattle.wf_value.specs.Data.{Data, integer, text}
use Rattle.wf_value.specs.Errors.{Answer}
use Rattle.wf_value.specs.Plain.{plain}
use Rattle.wf_value.specs.declared.Tag.{Tag}
use Rattle.wf_value.specs.declared.Value.{Value}

-- a text or a whole number
abbrev pub is_key : Data → Bool
is_key (text t) = true
is_key (integer i) = true
is_key d = false

abbrev pub all_keys : List Data → Bool
all_keys [] = true
all_keys (d ∷ ds) = is_key d && all_keys ds

abbrev pub IsKey : Data → Option Key → Type 0
IsKey d (Some k) = key_data k ≡ d
IsKey d None = is_key d ≡ false

abbrev pub AreKeys : List Data → Option (Vec Key Global) → Type 0
AreKeys ds (Some ks) = each key_data ks.items ≡ ds
AreKeys ds None = all_keys ds ≡ false

-- a call lends the value of an answer, or tells its error
abbrev pub Reads : Result (Bor Value) Tag → Answer Data → Type 0
Reads (Ok v) d = d ≡ Ok (plain v.now)
Reads (Err t) d = d ≡ Err t
