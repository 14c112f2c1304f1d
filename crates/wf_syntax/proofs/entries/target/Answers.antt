use Rattle.wf_ast.specs.View.{target_view}
use Rattle.wf_syntax.proofs.Targets.{target_sound}
use Rattle.wf_syntax.proofs.entries.target.Goals as goal

pub returns-in-Ok : goal.returns-in-Ok
returns-in-Ok c = (target_sound c.one_target.ensures.apart c.args.key.now (target_view c.in-Ok.target) c.in-Ok.ensures.target, c.in-Ok.ensures.target)
