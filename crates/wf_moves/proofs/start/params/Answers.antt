use Rattle.std.proofs.Common.{ap, sym, ◌∙◌}
use Rattle.wf_ast.specs.View.{params_view}
use Rattle.wf_frames.proofs.Parts.{node_at}
use Rattle.wf_moves.proofs.Starting.{flow_is, flow_params, flow_within, only_flow}
use Rattle.wf_model.specs.NodeKinds.{block_view, kind_by}
use Rattle.wf_moves.proofs.start.params.Goals as goal

pub bounds-nodes-flow : goal.bounds-nodes-flow
bounds-nodes-flow g c = flow_within c.args.nodes.now c.args.flow c.requires.1

pub returns : goal.returns
returns g c =
    let x = c.index-nodes-flow.result in
    let there = node_at c.args.nodes.now c.args.flow x (flow_within c.args.nodes.now c.args.flow c.requires.1) c.index-nodes-flow.is in
    c.items.ensures.view
    ∙ sym (flow_params g.ns c.args.nodes.now c.args.flow x (params_view c.in-Flow.flow.params) (block_view c.in-Flow.flow.block) c.requires.0.resolves there (ap (kind_by x.codes.items.items) c.in-Flow.is))

pub unreachable-requires : goal.unreachable-requires
unreachable-requires g c =
    let x = c.index-nodes-flow.result in
    let f = c.requires.1 in
    let there = node_at c.args.nodes.now c.args.flow x (flow_within c.args.nodes.now c.args.flow f) c.index-nodes-flow.is in
    only_flow x.codes.items.items x.kind f.params f.list (flow_is c.args.nodes.now c.args.flow x f there) c.in_default.not-Flow
