use Rattle.std.proofs.Common.{ap, subst, sym}
use Rattle.wf_cli.proofs.Causes.{good_argument}
use Rattle.wf_cli.proofs.Works.{failed_worked, run_takes, source_end, source_worked}
use Rattle.wf_engine.specs.Printed.{uses_source}
use Rattle.wf_engine.specs.Safe.{scene}
use Rattle.wf_host.specs.Source.{IsFirst}
use Rattle.wf_args.specs.Plain.{plain_line}
use Rattle.wf_source.specs.Programs.{IsRefusalOf}
use Rattle.wf_source.specs.Views.{TellsOf}
use Rattle.wf_cli.proofs.execution.run_source.Goals as goal

pub returns-in_err-bytes-clause-worked : goal.returns-in_err-bytes-clause-worked
returns-in_err-bytes-clause-worked g c = λ O told words is.
    let old = g.H.Host.world c.args.host.now in
    failed_worked O (scene words (g.S.Source.left c.args.source.now) old) old c.from_residual.result c.from_residual.ensures.0 (λ i d left. g.met.H.Host.only_now c.args.host.now i d told left)

pub returns-in-Ok-clause-end : goal.returns-in-Ok-clause-end
returns-in-Ok-clause-end g c = λ words is.
    c.run_program.ensures.end words (g.S.Source.left c.args.source.now) (g.S.Source.faults c.args.source.now) (g.S.Source.faults c.read_up_to.new.source) is (subst (λ b. IsFirst 131073 (g.S.Source.left c.args.source.now) b) (sym c.as_slice-in-Ok.ensures.value) c.in_ok-bytes.ensures.bytes)

pub returns-in-Ok-clause-worked : goal.returns-in-Ok-clause-worked
returns-in-Ok-clause-worked g c = λ O told words is.
    c.run_program.ensures.worked O told words (g.S.Source.left c.args.source.now) is (subst (λ b. IsFirst 131073 (g.S.Source.left c.args.source.now) b) (sym c.as_slice-in-Ok.ensures.value) c.in_ok-bytes.ensures.bytes)

pub returns-in-Err-clause-end : goal.returns-in-Err-clause-end
returns-in-Err-clause-end g c = λ words is.
    let old = g.H.Host.world c.args.host.now in
    let s = scene words (g.S.Source.left c.args.source.now) old in
    source_end s (plain_line c.args.line.now) old (g.S.Source.faults c.args.source.now) (g.S.Source.faults c.read_up_to.new.source) (g.H.Host.faults c.args.host.now) (g.H.Host.faults c.args.host.now) c.in_ok-bytes.bytes.items c.in-Err.fault c.of_source.result
    (is, ap uses_source c.requires.command, c.in_ok-bytes.ensures.bytes) (run_takes (plain_line c.args.line.now).command c.requires.command) (good_argument s (plain_line c.args.line.now) is c.requires.has) (subst (λ b. TellsOf (IsRefusalOf b) c.in-Err.fault) c.as_slice.ensures.value c.in-Err.ensures.fault) c.of_source.ensures

pub returns-in-Err-clause-worked : goal.returns-in-Err-clause-worked
returns-in-Err-clause-worked g c = λ O told words is.
    let old = g.H.Host.world c.args.host.now in
    let s = scene words (g.S.Source.left c.args.source.now) old in
    source_worked O s (plain_line c.args.line.now) old c.in_ok-bytes.bytes.items c.in-Err.fault c.of_source.result
    (is, ap uses_source c.requires.command, c.in_ok-bytes.ensures.bytes) (run_takes (plain_line c.args.line.now).command c.requires.command) (subst (λ b. TellsOf (IsRefusalOf b) c.in-Err.fault) c.as_slice.ensures.value c.in-Err.ensures.fault) c.of_source.ensures
    (λ i d left. g.met.H.Host.only_now c.args.host.now i d told left)
