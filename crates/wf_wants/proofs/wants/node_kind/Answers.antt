use Rattle.std.proofs.Common.{length, ap, sym, subst, ◌∙◌}
use Rattle.wf_ast.specs.Tree.{Body, fields, parallel}
use Rattle.wf_ast.specs.View.{texts_view}
use Rattle.wf_ast.specs.Flows.{flow}
use Rattle.wf_model.specs.Kinds.{arms_now, body_kind, by_clock, call_kind, fields_now, over_now, template_now}
use Rattle.wf_wants.proofs.Nodes.{body_so}
use Rattle.wf_frames.proofs.Parts.{node_at}
use Rattle.wf_frames.proofs.Performed.{default_body}
use Rattle.wf_model.specs.NodeKinds.{kind_by, over_by, side_by}
use Rattle.wf_model.specs.Shapes.{fields_by, shape_by}
use Rattle.wf_model.specs.Spots.{arms_by, entries_by, owners_at, part_body}
use Rattle.wf_model.specs.Table.{AreBelow, ArmsStandIn, PartsStand, work_of}
use Rattle.wf_model.specs.declared.node.WorkNode.{WorkNode}
use Rattle.wf_model.specs.declared.node.NodeKind.TheVariants as kind
use Rattle.wf_wants.proofs.wants.node_kind.Goals as goal

pub first_kind-requires : goal.first_kind-requires
first_kind-requires g c =
    let x = c.index-nodes-n.result in
    let there = node_at c.args.nodes.now c.args.n x c.requires.1 c.index-nodes-n.is in (
      c.requires.0,
      subst (AreBelow (length c.args.nodes.now)) (sym c.as_slice.ensures.value)
          (subst (λ k. PartsStand g.ns (length c.args.nodes.now) (owners_at g.ns c.args.n) (kind_by x.codes.items.items k)) c.in-Assign.is (c.requires.0.resolves.each c.args.n x there).parts),
    )

pub are_arms-requires : goal.are_arms-requires
are_arms-requires g c =
    let x = c.index-nodes-n.result in
    let there = node_at c.args.nodes.now c.args.n x c.requires.1 c.index-nodes-n.is in (
      c.requires.0,
      (
        owners_at g.ns c.args.n,
        subst (ArmsStandIn g.ns (length c.args.nodes.now) (owners_at g.ns c.args.n)) (sym c.as_slice-in-Switch.ensures.value)
            (subst (λ k. PartsStand g.ns (length c.args.nodes.now) (owners_at g.ns c.args.n) (kind_by x.codes.items.items k)) c.in-Switch.is (c.requires.0.resolves.each c.args.n x there).parts),
      ),
    )

pub returns-in-Assign : goal.returns-in-Assign
returns-in-Assign g c p named =
    let x = c.index-nodes-n.result in
    let there = node_at c.args.nodes.now c.args.n x c.requires.1 c.index-nodes-n.is in
    c.first_kind.ensures p ∙ ap (λ ns. body_kind p (Body.Assign (entries_by g.ns ns))) c.as_slice.ensures.value
    ∙ sym (body_so g.ns c.args.nodes.now c.args.n x c.requires.0.resolves there p (kind.Assign c.in-Assign.numbers) c.in-Assign.is)

pub returns-in-Switch : goal.returns-in-Switch
returns-in-Switch g c p named =
    let x = c.index-nodes-n.result in
    let there = node_at c.args.nodes.now c.args.n x c.requires.1 c.index-nodes-n.is in
    c.by_clock.ensures ∙ ap by_clock (c.are_arms.ensures ∙ ap (λ ns. arms_now (arms_by g.ns ns)) c.as_slice-in-Switch.ensures.value)
    ∙ sym (body_so g.ns c.args.nodes.now c.args.n x c.requires.0.resolves there p (kind.Switch c.in-Switch.arms) c.in-Switch.is)

pub returns-in-For : goal.returns-in-For
returns-in-For g c p named =
    let x = c.index-nodes-n.result in
    let there = node_at c.args.nodes.now c.args.n x c.requires.1 c.index-nodes-n.is in
    c.by_clock-in-For.ensures ∙ ap by_clock (c.is_over.ensures ∙ ap (λ cs. over_now (over_by cs c.in-For.body.over)) c.items-codes.ensures)
    ∙ sym (body_so g.ns c.args.nodes.now c.args.n x c.requires.0.resolves there p (kind.For c.in-For.body) c.in-For.is)

pub returns-in-Raise : goal.returns-in-Raise
returns-in-Raise g c p named =
    let x = c.index-nodes-n.result in
    let there = node_at c.args.nodes.now c.args.n x c.requires.1 c.index-nodes-n.is in
    c.by_clock-in-Raise.ensures ∙ ap by_clock (c.is_clock_in.ensures ∙ ap (λ cs. template_now (shape_by cs c.in-Raise.shape)) c.items-codes.ensures)
    ∙ sym (body_so g.ns c.args.nodes.now c.args.n x c.requires.0.resolves there p (kind.Raise c.in-Raise.shape) c.in-Raise.is)

pub returns-in-Return : goal.returns-in-Return
returns-in-Return g c p named =
    let x = c.index-nodes-n.result in
    let there = node_at c.args.nodes.now c.args.n x c.requires.1 c.index-nodes-n.is in
    c.by_clock-in-Return.ensures ∙ ap by_clock (c.is_clock_in-in-Return.ensures ∙ ap (λ cs. template_now (shape_by cs c.in-Return.shape)) c.items-codes.ensures)
    ∙ sym (body_so g.ns c.args.nodes.now c.args.n x c.requires.0.resolves there p (kind.Return c.in-Return.shape) c.in-Return.is)

pub returns-in_default : goal.returns-in_default
returns-in_default g c p named =
    let x = c.index-nodes-n.result in
    let there = node_at c.args.nodes.now c.args.n x c.requires.1 c.index-nodes-n.is in
    let n = c.in_default in
    sym (ap (body_kind p) (ap part_body (c.requires.0.resolves.each c.args.n x there).part ∙ default_body g.ns x.codes.items.items x.name x.next x.kind n.not-Assign n.not-Switch n.not-For n.not-Block n.not-Raise n.not-Return n.not-Call n.not-Parallel n.not-Try))

pub returns-in-Block : goal.returns-in-Block
returns-in-Block g c p named =
    let x = c.index-nodes-n.result in
    let there = node_at c.args.nodes.now c.args.n x c.requires.1 c.index-nodes-n.is in
    sym (body_so g.ns c.args.nodes.now c.args.n x c.requires.0.resolves there p (kind.Block c.in-Block.field-0) c.in-Block.is)

pub returns-in-Call : goal.returns-in-Call
returns-in-Call g c p named =
    let x = c.index-nodes-n.result in
    let there = node_at c.args.nodes.now c.args.n x c.requires.1 c.index-nodes-n.is in
    c.call_kind.ensures p.flows g.ns c.in-Call.call.name (named.calls c.args.n x c.in-Call.call there c.in-Call.is)
    ∙ ap (call_kind (flow p.flows c.in-Call.call.name) c.in-Call.call.name) (c.is_clock_named.ensures ∙ ap (λ cs. fields_now (fields (fields_by cs c.in-Call.call.args))) c.items-codes.ensures)
    ∙ sym (body_so g.ns c.args.nodes.now c.args.n x c.requires.0.resolves there p (kind.Call c.in-Call.call) c.in-Call.is)

pub returns-in-Try : goal.returns-in-Try
returns-in-Try g c p named =
    let x = c.index-nodes-n.result in
    let there = node_at c.args.nodes.now c.args.n x c.requires.1 c.index-nodes-n.is in
    sym (body_so g.ns c.args.nodes.now c.args.n x c.requires.0.resolves there p (kind.Try c.in-Try.field-0) c.in-Try.is)

pub returns-in-Branches : goal.returns-in-Branches
returns-in-Branches g c p named =
    let x = c.index-nodes-n.result in
    let there = node_at c.args.nodes.now c.args.n x c.requires.1 c.index-nodes-n.is in
    let b = c.in-Parallel.body in
    sym (body_so g.ns c.args.nodes.now c.args.n x c.requires.0.resolves there p (kind.Parallel b) c.in-Parallel.is
    ∙ ap (λ (w : WorkNode). body_kind p (Body.Parallel (parallel (texts_view b.shared) b.limit (work_of g.ns (side_by x.codes.items.items w))))) c.in-Branches.is)

pub returns-in-Loop : goal.returns-in-Loop
returns-in-Loop g c p named =
    let x = c.index-nodes-n.result in
    let there = node_at c.args.nodes.now c.args.n x c.requires.1 c.index-nodes-n.is in
    let b = c.in-Parallel.body in
    c.by_clock-in-Loop.ensures ∙ ap by_clock (c.is_over-in-Loop.ensures ∙ ap (λ cs. over_now (over_by cs c.in-Loop.repeated.over)) c.items-codes.ensures)
    ∙ sym (body_so g.ns c.args.nodes.now c.args.n x c.requires.0.resolves there p (kind.Parallel b) c.in-Parallel.is
    ∙ ap (λ (w : WorkNode). body_kind p (Body.Parallel (parallel (texts_view b.shared) b.limit (work_of g.ns (side_by x.codes.items.items w))))) c.in-Loop.is)
