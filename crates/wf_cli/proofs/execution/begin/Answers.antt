use Rattle.std.proofs.Common.{◌≡◌, Bool, ◌∷◌, [], IfOk, ◌∙◌, ap, refl, subst, sym}
use Rattle.wf_check.specs.Seen.{program_of}
use Rattle.wf_cli.proofs.Begins.{no_clock, no_start, opening_by_run, start_of_line}
use Rattle.wf_cli.proofs.Moments.{StartOfLine}
use Rattle.wf_cli.proofs.Works.{lacks_engine}
use Rattle.wf_deeds.specs.Memory.{StandsFor}
use Rattle.wf_engine.specs.Engine.{memory}
use Rattle.wf_host.specs.declared.data.Deed.TheVariants.{Now}
use Rattle.wf_journal.specs.Records.{records}
use Rattle.wf_cli.specs.Top.{IsLineOf}
use Rattle.wf_args.specs.declared.command.Command.TheVariants.{Run}
use Rattle.wf_deeds.specs.Kept as kept
use Rattle.wf_engine.specs.Safe.{scene}
use Rattle.wf_events.specs.Records.{Started}
use Rattle.wf_events.specs.Spelling.{HasSpelling, record_bytes}
use Rattle.wf_events.specs.View.{start_view}
use Rattle.wf_args.specs.Plain.{plain_line}
use Rattle.wf_value.specs.Events.{Start}
use Rattle.wf_source.specs.Programs.{IsSourceOf}
use Rattle.wf_cli.proofs.execution.begin.Goals as goal
use Rattle.wf_replay.specs.TheLanguage.{the_language}

pub start_for-requires : goal.start_for-requires
start_for-requires g c = record { text = c.requires.text; has = c.requires.has; short = c.laws_of_sources.ensures.short c.args.source.now (program_of c.args.program) c.requires.program }

pub returns-in_err-reading-clause-opening : goal.returns-in_err-reading-clause-opening
returns-in_err-reading-clause-opening g c = λ O told words rest is first.
    let old = g.H.Host.world c.args.host.now in
    let new = g.H.Host.world c.now.new.self in
    let s = scene words rest old in
    lacks_engine O kept.Run s old new c.from_residual.result c.from_residual.ensures
    (λ f why.
    no_clock O s old (plain_line c.args.line.now, is, c.requires.command) f new (λ i d left. g.met.H.Host.only_now c.args.host.now i d told left) (λ t i le now. g.met.H.Host.counts_now c.args.host.now t i told le now)
    (c.in_err-reading.ensures.time told) (c.now.ensures.seen told) why)

pub returns-in_err-start-clause-opening : goal.returns-in_err-start-clause-opening
returns-in_err-start-clause-opening g c = λ O told words rest is first.
    let old = g.H.Host.world c.args.host.now in
    let new = g.H.Host.world c.now.new.self in
    let s = scene words rest old in
    lacks_engine O kept.Run s old new c.from_residual-in_err-start.result c.from_residual-in_err-start.ensures
    (λ f why.
    no_start O s old (plain_line c.args.line.now, is, c.requires.command) f new c.in_ok-reading.reading (λ i d left. g.met.H.Host.only_now c.args.host.now i d told left) (c.in_ok-reading.ensures.time told) (c.now.ensures.seen told) why)

pub begin-requires-clause-accepted : goal.begin-requires-clause-accepted
begin-requires-clause-accepted g c = subst (λ (s : Start). IsSourceOf s.source (program_of c.args.program)) (sym c.in_ok-start.ensures.start) c.requires.program

pub returns-clause-opening : goal.returns-clause-opening
returns-clause-opening g c = λ O told words rest is first.
    let old = g.H.Host.world c.args.host.now in
    let mid = g.H.Host.world c.now.new.self in
    let new = g.H.Host.world c.begin.new.host in
    let s = scene words rest old in
    let t = c.in_ok-reading.reading in
    let l = plain_line c.args.line.now in
    let told2 = c.now.ensures.tells ∙ told in
    let the_start = c.in_ok-start.ensures.start in
    let line : IsLineOf s (λ k. k ≡ Run) = (l, is, c.requires.command) in
    opening_by_run O s old mid new t (record_bytes (Started (start_view c.in_ok-start.start))) line refl (λ i d left. g.met.H.Host.only_now c.args.host.now i d told left)
    (λ u i le now. g.met.H.Host.counts_now c.now.new.self u i told2 le now) (c.in_ok-reading.ensures.time told) (c.now.ensures.seen told)
    (subst (λ st. StartOfLine s t (record_bytes (Started st))) (sym the_start)
    (start_of_line c.each_source_is_one.ensures s l c.args.source.now (program_of c.args.program) t is c.requires.command first c.requires.program (subst (λ st. HasSpelling (Started st)) the_start c.in_ok-start.ensures.spelled) c.one_spelling.ensures.again
    c.laws_of_histories.ensures.start))
    c.laws_of_rules.ensures.only_readings c.laws_of_moments.ensures.no_turns_behind c.laws_of_moments.ensures.next_behind_history c.begin.result (c.begin.ensures.refused_reads told2)
    (record {
      stands = subst (λ u. IfOk c.begin.result (λ e. (handed : Bool) → StandsFor the_language O kept.Run handed (memory e) (records new.seen) (Now u ∷ []))) (ap (λ st. st.reading) the_start) (c.begin.ensures.stands O told2);
      session = c.begin.ensures.session;
      started = c.begin.ensures.started told2;
      any_moment = c.begin.ensures.any_moment told2;
      refused_stays = c.begin.ensures.refused_stays told2;
      not_a_journal = c.begin.ensures.not_a_journal told2;
      a_journal = c.begin.ensures.a_journal told2;
      already_started = c.begin.ensures.already_started told2;
      settled = c.begin.ensures.settled told2;
      fresh = c.begin.ensures.fresh told2;
      only = c.begin.ensures.only;
      deeds = c.begin.ensures.deeds told2;
    })
