use Rattle.std.proofs.Common.{ap, ◌∙◌, arith, sym}
use Rattle.wf_engine.proofs.Bringing.{answer_leads}
use Rattle.wf_engine.proofs.Chosen.{whole_after}
use Rattle.wf_engine.proofs.turns.bring.Goals as goal
use Rattle.wf_machine.specs.Counts.{counts}
use Rattle.wf_machine.specs.Seen.{state_of}
use Rattle.wf_machine.specs.declared.ApplyFault.TheVariants as fault
use Rattle.wf_model.proofs.After.{nowhere_is_no_config}
use Rattle.wf_model.specs.ChoiceLaws.{reading_of}
use Rattle.wf_model.specs.Step.{next}
use Rattle.wf_record_parts.specs.View.{reply_view}
use Rattle.std.specs.Prelude.{Err, unwrap_or}

pub unreachable-requires : goal.unreachable-requires
unreachable-requires g c =
    let s = state_of c.args.machine.now in
    let t = c.args.taken in
    let (d, leads) = answer_leads s c.answers_lead.ensures c.requires.takable.active t.call c.args.reading (reply_view t.reply.value) c.requires.takable.opened c.requires.last in
    nowhere_is_no_config d (sym (c.in-Err-NotEnabled.ensures.not_enabled (ap Err c.in-Err-NotEnabled.field-0-is)) ∙ ap (λ e. next s.program s.config e) c.event-event.ensures.event ∙ leads)

pub returns-in-Ok-clause-brought : goal.returns-in-Ok-clause-brought
returns-in-Ok-clause-brought g c =
    let is = c.event-event.ensures.event in record {
      is = is;
      leads = c.in-Ok.ensures.applied;
      moves = omega (arith, c.in-Ok.ensures.counted, ap counts is);
      most = c.apply.ensures.most;
      last = c.in-Ok.ensures.last ∙ ap (λ e. unwrap_or (reading_of e) (state_of c.args.machine.now).config.last) is;
      spelled = c.event-event.ensures.old;
      short = c.event-event.ensures.short;
      program = c.apply.ensures.program;
      whole = whole_after c.apply.new.self.broken c.apply.result c.in-Ok.field-0 fault.OutOfMemory c.in-Ok.is c.apply.ensures.broken.0;
    }
