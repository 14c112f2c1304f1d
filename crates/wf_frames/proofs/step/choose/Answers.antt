use Rattle.std.proofs.Common.{◌<◌, length, get_or, refl, sym, ◌∙◌, subst, arith, Ok, Err, ℕ, ◌≡◌}
use Rattle.std.specs.Prelude.{suc}
use Rattle.wf_eval.specs.Answers.{Answers}
use Rattle.wf_eval.specs.Sight.{seen}
use Rattle.wf_frames.proofs.Choices.{at_false, at_error}
use Rattle.wf_frames.proofs.Evaluated.{arm_stands}
use Rattle.wf_frames.specs.Steps.{Holds, arm_in}
use Rattle.wf_model.specs.Spots.{owners_at}
use Rattle.wf_frames.proofs.step.choose.Goals as goal

pub holds-requires : goal.holds-requires
holds-requires g c κs within =
    let w = arm_stands g.at.spots (length c.args.nodes.now) g.at.owners c.args.arms.now c.loop-arm.arm-index 0 c.requires.1.1 c.loop-arm-test.true in
    (within, (c.requires.1.0, omega (arith, w.1)))

pub returns-in-Err-clause-chosen : goal.returns-in-Err-clause-chosen
returns-in-Err-clause-chosen g c =
    subst (λ q. Answers (arm_in g.at.spots) (Err c.in-Err.raise) q) (sym c.loop-arm.invariant)
    (at_error g.at.spots (seen (g.K.Look.sight c.args.look.now) c.args.now) c.args.arms.now c.loop-arm.arm-index (get_or c.args.arms.now c.loop-arm.arm-index 0) c.loop-arm-test.true refl c.in-Err.raise c.in-Err.ensures)

pub loop-arm-preserved : goal.loop-arm-preserved
loop-arm-preserved g c =
    let v = seen (g.K.Look.sight c.args.look.now) c.args.now in
    let n = get_or c.args.arms.now c.loop-arm.arm-index 0 in
    c.loop-arm.invariant
    ∙ at_false g.at.spots v c.args.arms.now c.loop-arm.arm-index n c.loop-arm-test.true refl (subst (λ b. Holds g.at.spots n v (Ok b)) c.in-Ok-false.field-0-test c.in-Ok-false.ensures)

pub returns-in-Ok-true-clause-within : goal.returns-in-Ok-true-clause-within
returns-in-Ok-true-clause-within g c =
    let n = get_or c.args.arms.now c.loop-arm.arm-index 0 in
    let w = arm_stands g.at.spots (length c.args.nodes.now) g.at.owners c.args.arms.now c.loop-arm.arm-index 0 c.requires.1.1 c.loop-arm-test.true in
    let e : c.in-Some.body ≡ suc n = omega (arith, c.in-Some.ensures) in
    (subst (λ (m : ℕ). m < length c.args.nodes.now) (sym e) w.1, subst (λ (m : ℕ). owners_at g.at.spots m ≡ g.at.owners) (sym e) w.0)
