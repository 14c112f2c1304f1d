use Rattle.std.proofs.Common.{◌∷◌, refl, sym, ap, ◌∙◌}
use Rattle.wf_model.specs.Config.{Item}
use Rattle.wf_model.specs.Spots.{part_body, steps_by}
use Rattle.wf_model.specs.declared.node.NodeKind.TheVariants as kind
use Rattle.wf_frames.proofs.Fitting.{block_frame}
use Rattle.wf_frames.proofs.Parts.{as_part, node_at, part_is}
use Rattle.wf_frames.proofs.Performed.{block_entered, lone_entered, no_block, no_next}
use Rattle.wf_frames.proofs.step.body_frame.Goals as goal

pub returns-in-Block-clause-item : goal.returns-in-Block-clause-item
returns-in-Block-clause-item g c k =
    let x = c.index-nodes-body.result in
    let there = node_at c.args.nodes.now c.args.body x c.requires.1.0 c.index-nodes-body.is in
    ap (λ (i : Item). i ∷ k) (block_entered g.ns c.args.body x.name (steps_by g.ns c.in-Block.field-0.steps.items) x.next (as_part g.ns c.args.nodes.now c.args.body x (kind.Block c.in-Block.field-0) c.requires.0.resolves there c.in-Block.is))

pub returns-in-Block-clause-fits : goal.returns-in-Block-clause-fits
returns-in-Block-clause-fits g c fs inside =
    let x = c.index-nodes-body.result in
    let there = node_at c.args.nodes.now c.args.body x c.requires.1.0 c.index-nodes-body.is in
    block_frame g.ns c.args.nodes.now c.args.body x fs there c.in-Block.field-0 c.in-Block.is inside

pub returns-in_default : goal.returns-in_default
returns-in_default g c =
    let x = c.index-nodes-body.result in
    let there = node_at c.args.nodes.now c.args.body x c.requires.1.0 c.index-nodes-body.is in
    record {
      item = λ k. ap (λ (i : Item). i ∷ k) (lone_entered g.ns c.args.body (no_next g.ns c.args.nodes.now c.args.body x c.requires.0 there c.requires.1.1)
          (λ ss e. no_block g.ns x.codes.items.items x.name x.next x.kind c.in_default.not-Block ss (ap part_body (sym (part_is g.ns c.args.nodes.now c.args.body x c.requires.0.resolves there)) ∙ e)));
      fits = λ fs inside. (c.requires.1.0, inside);
      own = refl;
    }
