use Rattle.std.proofs.Common.{drop, map}
use Rattle.wf_ast.specs.Nodes.{param_names}
use Rattle.wf_ast.specs.View.{param_view}
use Rattle.wf_symbols.proofs.Added.{AddsOn}
use Rattle.wf_symbols.proofs.tables.param_names.Given as goal

abbrev pub invariant-loop-param : goal.invariant-loop-param
invariant-loop-param l = AddsOn l.initial.names l.names (param_names (map param_view l.param-items)) (param_names (map param_view (drop l.param-index l.param-items)))
