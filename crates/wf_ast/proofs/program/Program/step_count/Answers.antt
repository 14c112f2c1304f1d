use Rattle.std.proofs.Common.{arith}
use Rattle.std.proofs.lemmas.Grind.{common_steps}
use Rattle.wf_ast.proofs.Views.{steps_level}
use Rattle.wf_ast.proofs.program.Program.step_count.Goals as goal

pub loop-flow-preserved : goal.loop-flow-preserved
loop-flow-preserved c = grind (arith, common_steps, steps_level c.flow-item.result.steps)
