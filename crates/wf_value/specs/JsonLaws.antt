-- What reading JSON gives is decided by the bytes alone.
use Rattle.std.specs.Prelude.{◌≡◌, ◌⊎◌, ◌↔◌, ℕ, List, Some}
use Rattle.wf_value.specs.Data.{Data}
use Rattle.wf_value.specs.Decode.{json_value}
use Rattle.wf_value.specs.Json.{IsNotJson, HasDecimal, IsTooDeep, IsValue}

-- some value is what the bytes say
abbrev pub HasValue : List ℕ → Type 0
HasValue b = (d : Data) × IsValue b d

-- of any bytes one of the four holds
abbrev pub OneHolds : Type 0
OneHolds = (b : List ℕ) → HasValue b ⊎ (IsNotJson b ⊎ (HasDecimal b ⊎ IsTooDeep b))

-- no two of the four hold of some bytes
pub record NoTwoHold (b : List ℕ) : Type 0 where
  pub value_or_not_json : HasValue b → ¬ IsNotJson b
  pub value_or_decimal : HasValue b → ¬ HasDecimal b
  pub value_or_too_deep : HasValue b → ¬ IsTooDeep b
  pub not_json_or_decimal : IsNotJson b → ¬ HasDecimal b
  pub not_json_or_too_deep : IsNotJson b → ¬ IsTooDeep b
  pub decimal_or_too_deep : HasDecimal b → ¬ IsTooDeep b

-- bytes say one value at most
abbrev pub OneValue : Type 0
OneValue = (b : List ℕ) (d e : Data) → IsValue b d → IsValue b e → d ≡ e

-- the function that reads finds just the value that the bytes say
abbrev pub FindsTheValue : Type 0
FindsTheValue = (b : List ℕ) (d : Data) → (json_value b ≡ Some d) ↔ IsValue b d
