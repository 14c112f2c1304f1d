use Rattle.std.proofs.Common.{◌≡◌, drop, map}
use Rattle.wf_ast.specs.Nodes.{Path}
use Rattle.wf_ast.specs.Tree.{fields, templates}
use Rattle.wf_ast.specs.View.{field_view, template_view}
use Rattle.wf_check_expressions.proofs.expressions.+template.Given as goal
use Rattle.wf_check_expressions.specs.Expressions.{fields_failing, items_failing}
use Rattle.wf_check_expressions.specs.Tests.{sees}
use Rattle.wf_symbols.specs.Around.{layer_view}

-- what is left tells
abbrev pub invariant-items_failing-each : goal.invariant-items_failing-each
invariant-items_failing-each l = (path : Path) → items_failing (sees (map layer_view l.layers)) (templates (map template_view l.members)) path 0 ≡ items_failing (sees (map layer_view l.layers)) (templates (map template_view (drop l.index l.members))) path l.index

abbrev pub invariant-fields_failing-each : goal.invariant-fields_failing-each
invariant-fields_failing-each l = (path : Path) → fields_failing (sees (map layer_view l.layers)) (fields (map field_view l.members)) path ≡ fields_failing (sees (map layer_view l.layers)) (fields (map field_view (drop l.member-index l.members))) path
