use Rattle.std.proofs.Common.{map, ◌∙◌}
use Rattle.wf_ast.specs.Tree.{field_names, fields}
use Rattle.wf_ast.specs.View.{field_view, params_view}
use Rattle.wf_check_expressions.proofs.Fits.{flow_fits}
use Rattle.wf_check_expressions.proofs.arguments.flow_takes.Goals as goal
use Rattle.wf_symbols.specs.Names.{names_of}

pub returns : goal.returns
returns c =
    c.tables_fit.ensures
    ∙ flow_fits (params_view c.args.flow.now.params) (field_names (fields (map field_view c.args.arguments.now))) (names_of c.in_ok-known.known) (names_of c.in_ok-given.given) c.in_ok-known.ensures c.in_ok-given.ensures
