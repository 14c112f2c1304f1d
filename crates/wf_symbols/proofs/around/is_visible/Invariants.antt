use Rattle.std.proofs.Common.{◌≡◌, drop, map}
use Rattle.wf_ast.specs.Accept.{is_visible}
use Rattle.wf_symbols.proofs.around.is_visible.Given as goal
use Rattle.wf_symbols.specs.Around.{layer_view}

-- what is left tells
abbrev pub invariant-loop-layer : goal.invariant-loop-layer
invariant-loop-layer l = is_visible l.name (map layer_view l.layers) ≡ is_visible l.name (map layer_view (drop l.layer-index l.layers))
