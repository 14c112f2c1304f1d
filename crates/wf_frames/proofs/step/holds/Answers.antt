use Rattle.std.proofs.Common.{ap, sym, ◌∙◌}
use Rattle.wf_model.specs.Shapes.{shape_by}
use Rattle.wf_eval.specs.Sight.{seen}
use Rattle.wf_frames.proofs.Choices.{no_condition, condition_is, null_holds, truth_holds, error_holds}
use Rattle.wf_frames.proofs.Parts.{node_at}
use Rattle.wf_frames.proofs.step.holds.Goals as goal

pub returns-in_default : goal.returns-in_default
returns-in_default g c =
    let there = node_at c.args.nodes.now c.args.n c.index-nodes-n.result c.requires.1.1 c.index-nodes-n.is in
    null_holds g.ns c.args.n (seen (g.K.Look.sight c.args.look.now) c.args.now) (no_condition g.ns c.args.nodes.now c.args.n c.index-nodes-n.result c.requires.1.0.resolves there c.in_default.not-Arm)

pub returns-in-Ok : goal.returns-in-Ok
returns-in-Ok g c =
    let there = node_at c.args.nodes.now c.args.n c.index-nodes-n.result c.requires.1.1 c.index-nodes-n.is in
    let is = condition_is g.ns c.args.nodes.now c.args.n c.index-nodes-n.result c.in-Arm.condition c.requires.1.0.resolves there c.in-Arm.is in
    truth_holds g.ns c.args.n (seen (g.K.Look.sight c.args.look.now) c.args.now) (shape_by c.items.result.now c.in-Arm.condition) c.in-Ok.value c.truth_of.result (is ∙ ap (λ cs. shape_by cs c.in-Arm.condition) (sym c.items.ensures)) c.in-Ok.ensures c.truth_of.ensures

pub returns-in-Err : goal.returns-in-Err
returns-in-Err g c =
    let there = node_at c.args.nodes.now c.args.n c.index-nodes-n.result c.requires.1.1 c.index-nodes-n.is in
    let is = condition_is g.ns c.args.nodes.now c.args.n c.index-nodes-n.result c.in-Arm.condition c.requires.1.0.resolves there c.in-Arm.is in
    error_holds g.ns c.args.n (seen (g.K.Look.sight c.args.look.now) c.args.now) (shape_by c.items.result.now c.in-Arm.condition) c.in-Err.raise (is ∙ ap (λ cs. shape_by cs c.in-Arm.condition) (sym c.items.ensures)) c.in-Err.ensures
