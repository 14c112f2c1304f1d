use Rattle.std.proofs.Common.{Err, subst, sym}
use Rattle.wf_callbacks.specs.Plain.{plain_visitor}
use Rattle.wf_events.specs.View.{event_view}
use Rattle.wf_events.specs.declared.data.Event.{Event}
use Rattle.wf_machine.proofs.Applying.{refused}
use Rattle.wf_machine.proofs.Good.{good_of}
use Rattle.wf_machine.proofs.Places.{never_by}
use Rattle.wf_machine.proofs.Stepping.{arrive_never, begin_never}
use Rattle.wf_machine.proofs.machine.Machine.carry_out.Goals as goal
use Rattle.wf_machine.specs.Applied.{Applied}
use Rattle.wf_machine.specs.Seen.{state_of}
use Rattle.wf_machine.specs.declared.events.ApplyFault.TheVariants.{NotEnabled}
use Rattle.wf_value.specs.Events as plain

-- no branch begins
pub returns-in-Begin : goal.returns-in-Begin
returns-in-Begin c =
    let m = c.args.self.now in
    let e = plain.Event.Begin c.in-Begin.field-0 in
    subst (λ (v : Event). Applied (state_of m) (state_of m) (event_view v) (Err NotEnabled)) (sym c.in-Begin.is)
    (refused (state_of m) e c.requires (never_by m c.requires e (λ run. begin_never m (good_of m c.requires run) run c.in-Begin.field-0)))

-- no endpoint takes requests
pub returns-in-Arrive : goal.returns-in-Arrive
returns-in-Arrive c =
    let m = c.args.self.now in
    let v = plain_visitor c.in-Arrive.field-2.value in
    let e = plain.Event.Arrive c.in-Arrive.field-0 c.in-Arrive.field-1 v in
    subst (λ (v : Event). Applied (state_of m) (state_of m) (event_view v) (Err NotEnabled)) (sym c.in-Arrive.is)
    (refused (state_of m) e c.requires (never_by m c.requires e (λ run. arrive_never m run c.in-Arrive.field-0 c.in-Arrive.field-1 v)))
