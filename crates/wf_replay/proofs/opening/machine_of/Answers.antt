use Rattle.std.proofs.Common.{◌∙◌, ap, sym, subst, Some, None}
use Rattle.std.specs.Prelude.{option_map}
use Rattle.wf_lemmas.proofs.Options.{none_unless}
use Rattle.wf_check.specs.Seen.{program_of}
use Rattle.wf_events.specs.View.{record_view, start_view}
use Rattle.wf_deeds.specs.History.{first_standing}
use Rattle.wf_replay.proofs.FirstRecords.{start_leads, start_refused}
use Rattle.wf_replay.proofs.Language.{accepts}
use Rattle.wf_replay.proofs.opening.machine_of.Goals as goal
use Rattle.wf_replay.specs.Openings.{Accepts}
use Rattle.wf_replay.specs.TheLanguage.{the_language}

pub returns-in_default-2-clause-none : goal.returns-in_default-2-clause-none
returns-in_default-2-clause-none c = λ _.
    let none = none_unless c.in_ok-program.field-0 c.in_default-2.not-Some in
    let refused = subst (λ o. Accepts c.as_slice.result.now (option_map program_of o)) none c.in_ok-program.ensures in
    ap (λ r. first_standing the_language (Some (record_view r))) c.in-Start.is
    ∙ start_refused the_language (start_view c.in-Start.start) (ap (λ l. the_language.source l) (sym c.as_slice.ensures) ∙ accepts c.each_source_is_one.ensures c.as_slice.result.now None refused)

pub returns-clause-starts : goal.returns-clause-starts
returns-clause-starts c =
    let found = subst (λ o. Accepts c.as_slice.result.now (option_map program_of o)) c.in-Some.is c.in_ok-program.ensures in
    let accepted = accepts c.each_source_is_one.ensures c.as_slice.result.now (Some (program_of c.in-Some.program)) found in
    ap (λ r. first_standing the_language (Some (record_view r))) c.in-Start.is
    ∙ start_leads the_language (start_view c.in-Start.start) (program_of c.in-Some.program) c.in_ok-new.field-0 (ap (λ l. the_language.source l) (sym c.as_slice.ensures) ∙ accepted) c.in_ok-new.ensures.program c.in_ok-new.ensures.initial
