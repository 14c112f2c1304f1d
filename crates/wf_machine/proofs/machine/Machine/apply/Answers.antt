use Rattle.std.proofs.Common.{rules, ◌∙◌}
use Rattle.wf_events.specs.View.{event_view}
use Rattle.wf_machine.proofs.Places.{not_now}
use Rattle.wf_machine.proofs.machine.Machine.apply.Goals as goal

pub returns-in-Err : goal.returns-in-Err
returns-in-Err g c = record {
  applied = search rules;
  whole = search rules;
  not_enabled = λ is. not_now c.laws_of_places.ensures.steps_stand c.args.self.now c.if-self.false (event_view c.args.event.now) (c.carry_out.ensures.never (c.in-Err.is ∙ is));
  stays = search rules;
  program = search rules;
  counted = search rules;
  steps = search rules;
  no_step = search rules;
  last = search rules;
  most = search rules;
  broken = search rules;
  stays_broken = search rules;
}
