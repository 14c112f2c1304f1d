use Rattle.std.proofs.Common.{◌≡◌}
use Rattle.wf_scope.specs.Layers.{IsLive, chain, depth_in, find, holder_in}
use Rattle.wf_scope.specs.Store.{layers_of}
use Rattle.wf_scope.proofs.scopes.Scopes.nearest.Given as goal

-- the holder that is seen from the layer that was asked is the one that is seen from here
abbrev pub invariant-loop-layer : goal.invariant-loop-layer
invariant-loop-layer l = record {
  live : IsLive l.here (layers_of l.self);
  same : holder_in l.name (chain l.number (layers_of l.self)) ≡ holder_in l.name (chain l.here (layers_of l.self));
}

-- the layers around
abbrev pub decreases-loop-layer : goal.decreases-loop-layer
decreases-loop-layer l = depth_in (find l.here (layers_of l.self))
