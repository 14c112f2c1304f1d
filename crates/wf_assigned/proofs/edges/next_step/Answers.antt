use Rattle.std.proofs.Common.{Some, ap, ◌∙◌}
use Rattle.wf_assigned.proofs.Stepping.{step_there}
use Rattle.wf_assigned.proofs.edges.next_step.Goals as goal
use Rattle.wf_assigned.specs.Laid.{site_of}

pub returns-then-index-steps : goal.returns-then-index-steps
returns-then-index-steps c = λ around. ap Some c.exit.ensures ∙ step_there (site_of c.args.here around) c.args.steps.now c.args.index c.args.number c.args.out c.if-index-steps.true
