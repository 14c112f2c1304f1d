use Rattle.std.proofs.Common.{sym, ap, ◌∙◌}
use Rattle.wf_ast.specs.Blocks.{has_no_steps}
use Rattle.wf_check_scopes.proofs.Vacant.{none_there}
use Rattle.wf_symbols.proofs.Bodies.{steps_same}
use Rattle.wf_check_scopes.proofs.blocks.is_empty.Goals as goal

pub returns : goal.returns
returns c = c.is_empty.ensures ∙ sym (none_there c.items.result.now) ∙ ap has_no_steps (steps_same c.items.result.now c.args.steps.now c.items.ensures.view)
