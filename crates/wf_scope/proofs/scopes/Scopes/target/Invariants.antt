use Rattle.std.proofs.Common.{◌≡◌}
use Rattle.wf_scope.specs.Layers.{IsLive, chain, depth_in, find, holder_in}
use Rattle.wf_scope.specs.Spots.{IsKept}
use Rattle.wf_scope.specs.Lives.{live_in}
use Rattle.wf_scope.specs.Store.{layers_of}
use Rattle.wf_scope.proofs.scopes.Scopes.target.Given as goal

-- the holder that is seen from the layer that was asked is the one that is seen from here, and what is kept is that layer's spot
abbrev pub invariant-loop-spot : goal.invariant-loop-spot
invariant-loop-spot l = record {
  live : IsLive l.here (layers_of l.self);
  same : holder_in l.name (chain l.number (layers_of l.self)) ≡ holder_in l.name (chain l.here (layers_of l.self));
  kept : IsKept l.number l.name (live_in l.self.layers) l.home;
}

-- the layers around
abbrev pub decreases-loop-spot : goal.decreases-loop-spot
decreases-loop-spot l = depth_in (find l.here (layers_of l.self))
