-- What the checker's yes is good for: no run of an accepted program goes wrong.
use Rattle.std.specs.Prelude.{◌≡◌, List}
use Rattle.wf_ast.specs.Accept.{Kind, Accept}
use Rattle.wf_ast.specs.Tree.{Program}
use Rattle.wf_model.specs.Config.{Wrong}
use Rattle.wf_model.specs.Run.{run}
use Rattle.wf_value.specs.Events.{Event, Start}

-- whatever the start and the events; wf_never_wrong carries it as a clause
abbrev pub NeverWrong : Type 0
NeverWrong = (p : Program) → Accept p → (s : Start) (es : List Event) (k : Kind) → run p s es ≡ Wrong k → ⊥
