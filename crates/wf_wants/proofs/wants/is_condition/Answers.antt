use Rattle.std.proofs.Common.{ap, sym, ◌∙◌}
use Rattle.wf_model.specs.Kinds.{template_now}
use Rattle.wf_frames.proofs.Choices.{condition_is, no_condition}
use Rattle.wf_frames.proofs.Parts.{node_at}
use Rattle.wf_model.specs.Shapes.{shape_by}
use Rattle.wf_wants.proofs.wants.is_condition.Goals as goal

pub returns-in-Arm : goal.returns-in-Arm
returns-in-Arm g c =
    let x = c.index-nodes-n.result in
    let there = node_at c.args.nodes.now c.args.n x c.requires.1 c.index-nodes-n.is in
    c.is_clock_in.ensures ∙ ap (λ cs. template_now (shape_by cs c.in-Arm.condition)) c.items.ensures ∙ ap template_now (sym (condition_is g.ns c.args.nodes.now c.args.n x c.in-Arm.condition c.requires.0.resolves there c.in-Arm.is))

pub returns-in_default : goal.returns-in_default
returns-in_default g c =
    let x = c.index-nodes-n.result in
    let there = node_at c.args.nodes.now c.args.n x c.requires.1 c.index-nodes-n.is in
    sym (ap template_now (no_condition g.ns c.args.nodes.now c.args.n x c.requires.0.resolves there c.in_default.not-Arm))
