-- The layers of a store that are live.
use Rattle.std.specs.Prelude.{List, take}
use Rattle.wf_scope.specs.declared.layer.Layer as declared
use Rattle.wf_scope.specs.declared.layers.Layers.{Layers}

-- so many, from the first on
abbrev pub live_in : Layers → List declared.Layer
live_in s = take s.count s.all.items
