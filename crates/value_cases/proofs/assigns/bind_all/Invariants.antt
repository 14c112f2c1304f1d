use Rattle.wf_scope.specs.Layers.{StayInnermost, StayLive}
use Rattle.wf_scope.specs.Store.{layers_of}
use Rattle.value_cases.proofs.assigns.bind_all.Given as goal

-- what was live still is, and where nothing stood inside still nothing does
abbrev pub invariant-loop-i : goal.invariant-loop-i
invariant-loop-i l = record {
  stay : StayLive (layers_of l.fn.scopes) (layers_of l.scopes);
  apart : StayInnermost (layers_of l.fn.scopes) (layers_of l.scopes);
}
