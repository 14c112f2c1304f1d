use Rattle.std.proofs.Common.{Err, ap, ◌∙◌}
use Rattle.wf_cli.proofs.Works.{argument_end, argument_worked}
use Rattle.wf_engine.specs.Safe.{scene}
use Rattle.wf_args.specs.Plain.{plain_line}
use Rattle.wf_cli.proofs.execution.run.Goals as goal

pub returns-in-Err-clause-end : goal.returns-in-Err-clause-end
returns-in-Err-clause-end g c = λ words is.
    let old = g.H.Host.world c.args.host.now in
    let s = scene words (g.S.Source.left c.args.source.now) old in
    argument_end s old (g.S.Source.faults c.args.source.now) (g.S.Source.faults c.args.source.now) (g.H.Host.faults c.args.host.now) (g.H.Host.faults c.args.host.now) c.in-Err.fault c.of_argument.result c.of_argument.ensures
    (λ why. (plain_line c.args.line.now, is, c.requires.command, c.read_argument.ensures.bad (c.in-Err.is ∙ ap Err why)))

pub returns-in-Err-clause-worked : goal.returns-in-Err-clause-worked
returns-in-Err-clause-worked g c = λ O told words is.
    let old = g.H.Host.world c.args.host.now in
    let s = scene words (g.S.Source.left c.args.source.now) old in
    argument_worked O s old c.in-Err.fault c.of_argument.result c.of_argument.ensures
    (λ why. (plain_line c.args.line.now, is, c.requires.command, c.read_argument.ensures.bad (c.in-Err.is ∙ ap Err why)))
    (λ i d left. g.met.H.Host.only_now c.args.host.now i d told left)
