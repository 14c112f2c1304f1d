use Rattle.std.proofs.Common.{sym, ap}
use Rattle.wf_cli.proofs.Works.{lays_out, checked_end, checked_worked, layout_end, layout_worked, report_end, report_worked, no_layout, help_reported, version_reported}
use Rattle.wf_engine.specs.Safe.{scene}
use Rattle.wf_args.specs.Plain.{plain_line}
use Rattle.wf_cli.proofs.top.execute.Goals as goal

pub returns-in-Check-clause-end : goal.returns-in-Check-clause-end
returns-in-Check-clause-end g c = λ words is.
    let old = g.H.Host.world c.args.host.now in
    checked_end (scene words (g.S.Source.left c.args.source.now) old) (plain_line c.args.line.now) old (g.S.Source.faults c.args.source.now) (g.S.Source.faults c.check.new.source) (g.H.Host.faults c.args.host.now) (g.H.Host.faults c.args.host.now) c.check.result
    is (sym c.in-Check.ensures.command) c.check.ensures.says

pub returns-in-Check-clause-worked : goal.returns-in-Check-clause-worked
returns-in-Check-clause-worked g c = λ O told words is.
    let old = g.H.Host.world c.args.host.now in
    checked_worked O (scene words (g.S.Source.left c.args.source.now) old) (plain_line c.args.line.now) old (g.S.Source.faults c.args.source.now) (g.S.Source.faults c.check.new.source) c.check.result
    is (sym c.in-Check.ensures.command) c.check.ensures.says (λ i d left. g.met.H.Host.only_now c.args.host.now i d told left)

pub returns-in-Format-clause-end : goal.returns-in-Format-clause-end
returns-in-Format-clause-end g c = λ words is.
    let old = g.H.Host.world c.args.host.now in
    layout_end (scene words (g.S.Source.left c.args.source.now) old) (plain_line c.args.line.now) old (g.S.Source.faults c.args.source.now) (g.S.Source.faults c.format.new.source) (g.H.Host.faults c.args.host.now) (g.H.Host.faults c.args.host.now) c.format.result
    is (sym c.in-Format.ensures.command) c.format.ensures.says

pub returns-in-Format-clause-worked : goal.returns-in-Format-clause-worked
returns-in-Format-clause-worked g c = λ O told words is.
    let old = g.H.Host.world c.args.host.now in
    layout_worked O (scene words (g.S.Source.left c.args.source.now) old) (plain_line c.args.line.now) old (g.S.Source.faults c.args.source.now) (g.S.Source.faults c.format.new.source) c.format.result
    is (sym c.in-Format.ensures.command) c.format.ensures.says (λ i d left. g.met.H.Host.only_now c.args.host.now i d told left)

pub returns-in-Resume-clause-end : goal.returns-in-Resume-clause-end
returns-in-Resume-clause-end g c = λ words is. c.resume.ensures.end words (g.S.Source.left c.args.source.now) (g.S.Source.faults c.args.source.now) (g.S.Source.faults c.args.source.now) is

pub returns-in-Resume-clause-worked : goal.returns-in-Resume-clause-worked
returns-in-Resume-clause-worked g c = λ O told words is. c.resume.ensures.worked O told words (g.S.Source.left c.args.source.now) is

pub returns-in-Help-clause-end : goal.returns-in-Help-clause-end
returns-in-Help-clause-end g c = λ words is.
    let old = g.H.Host.world c.args.host.now in
    report_end (scene words (g.S.Source.left c.args.source.now) old) old (g.S.Source.faults c.args.source.now) (g.S.Source.faults c.args.source.now) (g.H.Host.faults c.args.host.now) (g.H.Host.faults c.args.host.now) c.help_text.result.now c.text_of_program.result
    (help_reported (scene words (g.S.Source.left c.args.source.now) old) (plain_line c.args.line.now) c.help_text.result.now is (sym c.in-Help.ensures.command) c.help_text.ensures.text) (no_layout (scene words (g.S.Source.left c.args.source.now) old) (plain_line c.args.line.now) c.help_text.result.now is (ap lays_out (sym c.in-Help.ensures.command))) c.text_of_program.ensures

pub returns-in-Help-clause-worked : goal.returns-in-Help-clause-worked
returns-in-Help-clause-worked g c = λ O told words is.
    let old = g.H.Host.world c.args.host.now in
    report_worked O (scene words (g.S.Source.left c.args.source.now) old) old c.help_text.result.now c.text_of_program.result
    (help_reported (scene words (g.S.Source.left c.args.source.now) old) (plain_line c.args.line.now) c.help_text.result.now is (sym c.in-Help.ensures.command) c.help_text.ensures.text) c.text_of_program.ensures
    (λ i d left. g.met.H.Host.only_now c.args.host.now i d told left)

pub returns-in-Version-clause-end : goal.returns-in-Version-clause-end
returns-in-Version-clause-end g c = λ words is.
    let old = g.H.Host.world c.args.host.now in
    report_end (scene words (g.S.Source.left c.args.source.now) old) old (g.S.Source.faults c.args.source.now) (g.S.Source.faults c.args.source.now) (g.H.Host.faults c.args.host.now) (g.H.Host.faults c.args.host.now) c.version_text.result.now c.text_of_program-in-Version.result
    (version_reported (scene words (g.S.Source.left c.args.source.now) old) (plain_line c.args.line.now) c.version_text.result.now is (sym c.in-Version.ensures.command) c.version_text.ensures) (no_layout (scene words (g.S.Source.left c.args.source.now) old) (plain_line c.args.line.now) c.version_text.result.now is (ap lays_out (sym c.in-Version.ensures.command))) c.text_of_program-in-Version.ensures

pub returns-in-Version-clause-worked : goal.returns-in-Version-clause-worked
returns-in-Version-clause-worked g c = λ O told words is.
    let old = g.H.Host.world c.args.host.now in
    report_worked O (scene words (g.S.Source.left c.args.source.now) old) old c.version_text.result.now c.text_of_program-in-Version.result
    (version_reported (scene words (g.S.Source.left c.args.source.now) old) (plain_line c.args.line.now) c.version_text.result.now is (sym c.in-Version.ensures.command) c.version_text.ensures) c.text_of_program-in-Version.ensures
    (λ i d left. g.met.H.Host.only_now c.args.host.now i d told left)

pub returns-in-Show-clause-end : goal.returns-in-Show-clause-end
returns-in-Show-clause-end g c = λ words is. c.report.ensures.end words (g.S.Source.left c.args.source.now) (g.S.Source.faults c.args.source.now) (g.S.Source.faults c.args.source.now) is

pub returns-in-Show-clause-worked : goal.returns-in-Show-clause-worked
returns-in-Show-clause-worked g c = λ O told words is. c.report.ensures.worked O told words (g.S.Source.left c.args.source.now) is
