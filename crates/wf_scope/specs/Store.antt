-- The layers that a store holds.
use Rattle.std.specs.Prelude.{List}
use Rattle.wf_scope.specs.Layers.{Layer}
use Rattle.wf_scope.specs.Lives.{live_in}
use Rattle.wf_scope.specs.Views.{views}
use Rattle.wf_scope.specs.declared.scopes.Scopes.{Scopes}

-- by rising number
abbrev pub layers_of : Scopes → List Layer
layers_of s = views (live_in s.layers)
