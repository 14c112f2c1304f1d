use Rattle.std.proofs.Common.{drop, map}
use Rattle.wf_ast.specs.Tree.{field_names, fields}
use Rattle.wf_ast.specs.View.{field_view}
use Rattle.wf_symbols.proofs.Added.{AddsOn}
use Rattle.wf_check_expressions.proofs.arguments.argument_names.Given as goal

-- the rest adds up to all
abbrev pub invariant-loop-argument : goal.invariant-loop-argument
invariant-loop-argument l = AddsOn l.initial.names l.names (field_names (fields (map field_view l.arguments))) (field_names (fields (map field_view (drop l.argument-index l.arguments))))
