use Rattle.std.proofs.Common.{◌≡◌}
use Rattle.wf_scope.specs.Layers.{IsLive, chain, depth_in, find, look_in}
use Rattle.wf_scope.specs.Store.{layers_of}
use Rattle.wf_scope.proofs.scopes.Scopes.look_from.Given as goal

-- what is seen from the layer that was asked is what is seen from here
abbrev pub invariant-loop-value : goal.invariant-loop-value
invariant-loop-value l = record {
  live : IsLive l.here (layers_of l.self);
  same : look_in l.name (chain l.number (layers_of l.self)) ≡ look_in l.name (chain l.here (layers_of l.self));
}

-- the layers around
abbrev pub decreases-loop-value : goal.decreases-loop-value
decreases-loop-value l = depth_in (find l.here (layers_of l.self))
