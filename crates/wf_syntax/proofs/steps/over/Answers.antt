use Rattle.std.proofs.Common.{option_map, sym, ap}
use Rattle.wf_ast.specs.View.{template_view}
use Rattle.wf_syntax.proofs.steps.over.Goals as goal
use Rattle.wf_syntax.specs.Forms.{ends_view, over_of}

-- (the list is let go on the way)
pub returns-in-Some : goal.returns-in-Some
returns-in-Some c = ap (λ r. over_of (option_map template_view c.args.list) (option_map ends_view r)) (sym c.in-Some.is)
