use Rattle.std.proofs.Common.{◌≡◌, ◌<◌, length, sym, ◌∙◌, subst, Ok}
use Rattle.std.specs.Prelude.{IfSome}
use Rattle.wf_eval.specs.Answers.{Answers}
use Rattle.wf_eval.specs.Sight.{seen}
use Rattle.wf_frames.specs.Fits.{Fits}
use Rattle.wf_frames.specs.Frames.{inner}
use Rattle.wf_model.specs.Move.{chosen}
use Rattle.wf_frames.proofs.Choices.{idle_is, busy_is}
use Rattle.wf_frames.proofs.Parts.{node_at}
use Rattle.wf_frames.proofs.Performed.{empty_chosen, body_chosen}
use Rattle.wf_frames.specs.Steps.{arm_in}
use Rattle.wf_model.specs.Spots.{arms_by, owners_at}
use Rattle.wf_frames.proofs.step.switch.Goals as goal

pub returns-then-is_idle-clause-performed : goal.returns-then-is_idle-clause-performed
returns-then-is_idle-clause-performed g c =
    let v = seen (g.K.Look.sight c.args.look.now) c.args.now in
    let arms = arms_by g.at.spots c.args.arms.now in
    let lt = subst (λ o. IfSome o (λ m. (m < length c.args.nodes.now) × (owners_at g.at.spots m ≡ g.at.owners))) c.in-Some.is c.in-Ok.ensures.within in
    let there = node_at c.args.nodes.now c.in-Some.n c.index-nodes-n.result lt.0 c.index-nodes-n.is in
    let idle = idle_is g.at.spots c.args.nodes.now c.in-Some.n c.index-nodes-n.result c.requires.1.0 there (sym c.is_idle.ensures ∙ c.if-is_idle.true) in
    empty_chosen g.at.spots v arms (inner c.args.frames.now) c.in-Some.n (subst (λ o. Answers (arm_in g.at.spots) (Ok o) (chosen v arms)) c.in-Some.is c.in-Ok.ensures.chosen) idle.0 idle.1

pub returns-clause-performed : goal.returns-clause-performed
returns-clause-performed g c =
    let v = seen (g.K.Look.sight c.args.look.now) c.args.now in
    let arms = arms_by g.at.spots c.args.arms.now in
    let lt = subst (λ o. IfSome o (λ m. (m < length c.args.nodes.now) × (owners_at g.at.spots m ≡ g.at.owners))) c.in-Some.is c.in-Ok.ensures.within in
    let there = node_at c.args.nodes.now c.in-Some.n c.index-nodes-n.result lt.0 c.index-nodes-n.is in
    let busy = busy_is g.at.spots c.args.nodes.now c.in-Some.n c.index-nodes-n.result c.requires.1.0 there (sym c.is_idle.ensures ∙ c.if-is_idle.false) in
    body_chosen g.at.spots v arms (inner c.args.frames.now) c.in-Some.n (inner c.push.new.self) (subst (λ o. Answers (arm_in g.at.spots) (Ok o) (chosen v arms)) c.in-Some.is c.in-Ok.ensures.chosen) busy c.in_ok-push.ensures.pushed

pub returns-clause-fits : goal.returns-clause-fits
returns-clause-fits g c =
    let lt = subst (λ o. IfSome o (λ m. (m < length c.args.nodes.now) × (owners_at g.at.spots m ≡ g.at.owners))) c.in-Some.is c.in-Ok.ensures.within in
    subst (Fits g.at.spots c.args.nodes.now) (sym c.in_ok-push.ensures.pushed) ((lt.0, lt.1 ∙ c.requires.1.1.1.1), c.requires.1.1.1.0)
