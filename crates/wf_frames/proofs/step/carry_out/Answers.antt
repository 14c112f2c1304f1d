use Rattle.std.proofs.Common.{sym, ap, ◌∙◌}
use Rattle.wf_lemmas.proofs.Results.{with_ok}
use Rattle.wf_eval.specs.Sight.{seen}
use Rattle.wf_frames.specs.Fits.{reach}
use Rattle.wf_frames.specs.Frames.{inner}
use Rattle.wf_frames.proofs.Choices.{busy_body, idle_body}
use Rattle.wf_frames.proofs.Fitting.{jump_ready, then_fits}
use Rattle.wf_frames.proofs.Parts.{node_at, part_is}
use Rattle.wf_frames.proofs.Performed.{carries_beside, carries_jump, carries_plainly}
use Rattle.wf_frames.proofs.Asking.{asks_beside, asks_plainly, idle_carries}
use Rattle.wf_frames.specs.Steps.{CarriesCall, CarriesOut, Performs, PerformsCall}
use Rattle.wf_model.specs.Spots.{part_at, part_body, part_next}
use Rattle.wf_frames.specs.declared.step.Step.TheVariants as step
use Rattle.wf_frames.proofs.step.carry_out.Goals as goal

pub returns-in-None-clause-carried : goal.returns-in-None-clause-carried
returns-in-None-clause-carried g c =
    let v = seen (g.K.Look.sight c.args.look.now) c.args.now in
    let x = c.index-nodes-n.result in
    let there = node_at c.args.nodes.now c.args.n x c.requires.1.1.0 c.index-nodes-n.is in
    with_ok (Performs g.ns (part_body (part_at g.ns c.args.n)) v (inner c.args.frames.now) (inner c.perform.new.frames)) (CarriesOut g.ns (part_body (part_at g.ns c.args.n)) (part_next (part_at g.ns c.args.n)) v (inner c.args.frames.now) (inner c.perform.new.frames)) c.perform.result
    (λ st h. carries_plainly g.ns c.args.n v (inner c.args.frames.now) (inner c.perform.new.frames) st (c.requires.1.0.nexts c.args.n x there ∙ c.in-None.is) h) c.perform.ensures.performed

pub returns-then-does_nothing-clause-carried : goal.returns-then-does_nothing-clause-carried
returns-then-does_nothing-clause-carried g c =
    let v = seen (g.K.Look.sight c.args.look.now) c.args.now in
    let x = c.index-nodes-n.result in
    let there = node_at c.args.nodes.now c.args.n x c.requires.1.1.0 c.index-nodes-n.is in
    carries_jump g.ns c.args.n v (inner c.args.frames.now) c.in-Some.field-0 (c.requires.1.0.nexts c.args.n x there ∙ c.in-Some.is)
    (ap part_body (part_is g.ns c.args.nodes.now c.args.n x c.requires.1.0.resolves there) ∙ idle_body g.ns x.codes.items.items x.name x.next x.kind (sym c.does_nothing.ensures ∙ c.if-does_nothing.true))

pub returns-then-does_nothing-clause-ready : goal.returns-then-does_nothing-clause-ready
returns-then-does_nothing-clause-ready g c =
    let x = c.index-nodes-n.result in
    let there = node_at c.args.nodes.now c.args.n x c.requires.1.1.0 c.index-nodes-n.is in
    jump_ready g.ns c.args.nodes.now c.args.n x (inner c.args.frames.now) (inner c.args.frames.now) there c.requires.1.1.1.0 c.in-Some.field-0 c.in-Some.is c.requires.1.1.1.1

pub perform-requires-in-Some : goal.perform-requires-in-Some
perform-requires-in-Some g c κs within =
    let x = c.index-nodes-n.result in
    let there = node_at c.args.nodes.now c.args.n x c.requires.1.1.0 c.index-nodes-n.is in (
      within,
      (
        c.requires.1.0,
        (
          c.requires.1.1.0,
          (
            then_fits g.ns c.args.nodes.now c.args.n x (inner c.args.frames.now) (inner c.push.new.self) there c.requires.1.1.1.0 c.in-Some.field-0 c.in-Some.is c.requires.1.1.1.1 c.in_ok-push-in-Some.ensures.pushed,
            c.requires.1.1.1.1 ∙ ap reach (sym c.in_ok-push-in-Some.ensures.pushed),
          ),
        ),
      ),
    )

pub returns-in_ok-push-in-Some-clause-carried : goal.returns-in_ok-push-in-Some-clause-carried
returns-in_ok-push-in-Some-clause-carried g c =
    let v = seen (g.K.Look.sight c.args.look.now) c.args.now in
    let x = c.index-nodes-n.result in
    let there = node_at c.args.nodes.now c.args.n x c.requires.1.1.0 c.index-nodes-n.is in
    with_ok (Performs g.ns (part_body (part_at g.ns c.args.n)) v (inner c.push.new.self) (inner c.perform-in-Some.new.frames)) (CarriesOut g.ns (part_body (part_at g.ns c.args.n)) (part_next (part_at g.ns c.args.n)) v (inner c.args.frames.now) (inner c.perform-in-Some.new.frames)) c.perform-in-Some.result
    (λ st h. carries_beside g.ns c.args.n v (inner c.args.frames.now) (inner c.push.new.self) (inner c.perform-in-Some.new.frames) c.in-Some.field-0 st (c.requires.1.0.nexts c.args.n x there ∙ c.in-Some.is)
    (λ e. busy_body g.ns x.codes.items.items x.name x.next x.kind (sym c.does_nothing.ensures ∙ c.if-does_nothing.false) (sym (ap part_body (part_is g.ns c.args.nodes.now c.args.n x c.requires.1.0.resolves there)) ∙ e))
    c.in_ok-push-in-Some.ensures.pushed h) c.perform-in-Some.ensures.performed

pub returns-in-None-clause-asked : goal.returns-in-None-clause-asked
returns-in-None-clause-asked g c =
    let v = seen (g.K.Look.sight c.args.look.now) c.args.now in
    let x = c.index-nodes-n.result in
    let there = node_at c.args.nodes.now c.args.n x c.requires.1.1.0 c.index-nodes-n.is in
    with_ok (PerformsCall g.ns (part_body (part_at g.ns c.args.n)) v (inner c.args.frames.now) (inner c.perform.new.frames)) (CarriesCall g.ns (part_body (part_at g.ns c.args.n)) (part_next (part_at g.ns c.args.n)) v (inner c.args.frames.now) (inner c.perform.new.frames)) c.perform.result
    (λ st h. asks_plainly g.ns c.args.n v (inner c.args.frames.now) (inner c.perform.new.frames) st (c.requires.1.0.nexts c.args.n x there ∙ c.in-None.is) h) c.perform.ensures.asked

pub returns-then-does_nothing-clause-asked : goal.returns-then-does_nothing-clause-asked
returns-then-does_nothing-clause-asked g c =
    let v = seen (g.K.Look.sight c.args.look.now) c.args.now in
    let x = c.index-nodes-n.result in
    let there = node_at c.args.nodes.now c.args.n x c.requires.1.1.0 c.index-nodes-n.is in
    idle_carries g.ns c.args.n v (inner c.args.frames.now) (inner c.args.frames.now) (step.Jumps c.args.n)
    (ap part_body (part_is g.ns c.args.nodes.now c.args.n x c.requires.1.0.resolves there) ∙ idle_body g.ns x.codes.items.items x.name x.next x.kind (sym c.does_nothing.ensures ∙ c.if-does_nothing.true))

pub returns-in_ok-push-in-Some-clause-asked : goal.returns-in_ok-push-in-Some-clause-asked
returns-in_ok-push-in-Some-clause-asked g c =
    let v = seen (g.K.Look.sight c.args.look.now) c.args.now in
    let x = c.index-nodes-n.result in
    let there = node_at c.args.nodes.now c.args.n x c.requires.1.1.0 c.index-nodes-n.is in
    with_ok (PerformsCall g.ns (part_body (part_at g.ns c.args.n)) v (inner c.push.new.self) (inner c.perform-in-Some.new.frames)) (CarriesCall g.ns (part_body (part_at g.ns c.args.n)) (part_next (part_at g.ns c.args.n)) v (inner c.args.frames.now) (inner c.perform-in-Some.new.frames)) c.perform-in-Some.result
    (λ st h. asks_beside g.ns c.args.n v (inner c.args.frames.now) (inner c.push.new.self) (inner c.perform-in-Some.new.frames) c.in-Some.field-0 st (c.requires.1.0.nexts c.args.n x there ∙ c.in-Some.is)
    c.in_ok-push-in-Some.ensures.pushed h) c.perform-in-Some.ensures.asked
