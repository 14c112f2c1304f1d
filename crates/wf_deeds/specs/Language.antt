-- What the meaning of a journal takes from the language and from the spelling of states. The definitions are the same whichever forms of source are
-- built.
use Rattle.std.specs.Prelude.{ℕ, Bool, List, Option}
use Rattle.wf_ast.specs.Tree.{Program}
use Rattle.wf_model.specs.Config.{Config}

pub record Language : Type 0 where
  -- the program of a source, where it is accepted
  pub source : List ℕ → Option Program
  -- the greatest rules under which a start of the second format may stand
  pub rules : ℕ
  -- whether these bytes are a state of this configuration of the program
  pub spells : Program → Config → List ℕ → Bool
