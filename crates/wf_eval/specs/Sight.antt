-- What an evaluation looks things up in.
use Rattle.std.specs.Prelude.{ℕ, List}
use Rattle.wf_ast.specs.Apply.{View}
use Rattle.wf_value.specs.Data.{Data}
use Rattle.wf_value.specs.Maps.{value_at}
use Rattle.wf_value.specs.Pairs.{Text}

-- the visible names with their values, the environment, the id and the callback base
pub record Sight : Type 0 where
  pub names : List (Text × Data)
  pub env : List (Text × Text)
  pub id : Text
  pub base : Text

-- the view of an evaluation at a reading of the clock
abbrev pub seen : Sight → ℕ → View
seen s now = record { look = λ x. value_at x s.names; env = s.env; id = s.id; base = s.base; now = now }
