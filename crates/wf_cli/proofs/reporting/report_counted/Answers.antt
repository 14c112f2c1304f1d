use Rattle.std.proofs.Common.{refl}
use Rattle.wf_args.specs.Plain.{plain_line}
use Rattle.wf_cli.proofs.Tellings.{telling_end, telling_worked}
use Rattle.wf_cli.proofs.reporting.report_counted.Goals as goal
use Rattle.wf_engine.specs.Safe.{scene}

pub returns-clause-end : goal.returns-clause-end
returns-clause-end g c = λ words rest reads reads2 is.
    let old = g.H.Host.world c.args.host.now in
    let new = g.H.Host.world c.text_for-told.new.host in
    telling_end (scene words rest old) (plain_line c.args.line.now) is c.requires.command old new refl reads reads2 (g.H.Host.faults c.args.host.now) (g.H.Host.faults c.text_for-told.new.host) c.text_for-told.result c.said_of.result
    c.text_for-told.ensures.reads c.text_for-told.ensures.only c.said_of.ensures c.text_for-told.ensures.disk_fault

pub returns-clause-worked : goal.returns-clause-worked
returns-clause-worked g c = λ O told words rest is.
    let old = g.H.Host.world c.args.host.now in
    let new = g.H.Host.world c.text_for-told.new.host in
    telling_worked (scene words rest old) (plain_line c.args.line.now) is c.requires.command old new refl O c.laws_of_rules.ensures.only_readings c.laws_of_moments.ensures.no_turns_behind c.laws_of_moments.ensures.next_behind_history
    c.text_for-told.result c.said_of.result (c.text_for-told.ensures.reads told) c.text_for-told.ensures.only c.said_of.ensures
