use Rattle.std.proofs.Common.{◌≡◌, ◌++◌, ◌∷◌, map}
use Rattle.wf_ast.specs.View.{flow_view, flows_view}
use Rattle.wf_syntax.proofs.flows.in_order.Given as goal

-- the workflows so far, and what is left behind them
abbrev pub invariant-each : goal.invariant-each
invariant-each l = flows_view l.flows ++ map flow_view l.flow-iterator.rest.items ≡ flow_view l.fn.main ∷ map flow_view l.fn.others.items
