-- How an execution begins.
use Rattle.std.specs.Prelude.{◌≡◌}
use Rattle.wf_ast.specs.Tree.{Program}
use Rattle.wf_model.specs.Config.{Config, To}
use Rattle.wf_model.specs.Run.{initial}
use Rattle.wf_value.specs.Events.{Start}

-- each program starts
abbrev pub EachProgramStarts : Type 0
EachProgramStarts = (p : Program) (s : Start) → (c : Config) × (initial p s ≡ To c)
