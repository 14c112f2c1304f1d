use Rattle.std.proofs.Common.{◌≡◌, length}
use Rattle.wf_frames.specs.Bound.{bindings_of}
use Rattle.wf_frames.specs.Turns.{bound_all}
use Rattle.wf_scope.specs.Layers.{IsInnermost, IsLive, closed}
use Rattle.wf_scope.specs.Store.{layers_of}
use Rattle.wf_frames.proofs.entering.bind_all.Given as goal

-- the names that are left are bound where those before them were
abbrev pub invariant-loop-both : goal.invariant-loop-both
invariant-loop-both l = record {
  bound : bound_all l.initial.scopes.limit l.layer.number (bindings_of l.bindings) (layers_of l.scopes) ≡ bound_all l.initial.scopes.limit l.layer.number (bindings_of l.initial.bindings) (layers_of l.initial.scopes);
  rest : closed l.layer.number (layers_of l.scopes) ≡ closed l.layer.number (layers_of l.initial.scopes);
  limit : l.scopes.limit ≡ l.initial.scopes.limit;
  live : IsLive l.layer.number (layers_of l.scopes);
  innermost : IsInnermost l.layer.number (layers_of l.scopes);
}

abbrev pub decreases-loop-both : goal.decreases-loop-both
decreases-loop-both l = length (bindings_of l.bindings)
