use Rattle.std.proofs.Common.{sym, ap, subst, ◌∙◌}
use Rattle.wf_frames.specs.Fits.{IsCallOf}
use Rattle.wf_frames.specs.Frames.{body_result, result_of}
use Rattle.wf_moves.proofs.Calling.{call_within, only_call}
use Rattle.wf_model.specs.Spots.{part_body}
use Rattle.wf_model.specs.declared.node.NodeKind.TheVariants as kind
use Rattle.wf_frames.proofs.Parts.{as_part, node_at}
use Rattle.wf_moves.proofs.back.result_of.Goals as goal

pub returns-in-Call : goal.returns-in-Call
returns-in-Call g c =
    let x = c.index-nodes-n.result in
    let there = node_at c.args.nodes.now c.in-Some.n x (call_within c.args.nodes.now c.in-Some.n (subst (IsCallOf c.args.nodes.now) c.in-Some.is c.requires.1)) c.index-nodes-n.is in
    c.as_ref.ensures.value
    ∙ sym (ap (result_of g.ns) c.in-Some.is ∙ ap (λ p. body_result (part_body p)) (as_part g.ns c.args.nodes.now c.in-Some.n x (kind.Call c.in-Call.call) c.requires.0.resolves there c.in-Call.is))

pub returns-in_default-kind : goal.returns-in_default-kind
returns-in_default-kind g c =
    let x = c.index-nodes-n.result in
    let is = subst (IsCallOf c.args.nodes.now) c.in-Some.is c.requires.1 in
    let there = node_at c.args.nodes.now c.in-Some.n x (call_within c.args.nodes.now c.in-Some.n is) c.index-nodes-n.is in
    absurd (only_call c.args.nodes.now c.in-Some.n x is there c.in_default-kind.not-Call)
