use Rattle.std.proofs.Common.{sym, ap, ◌∙◌}
use Rattle.wf_lemmas.proofs.Results.{with_ok}
use Rattle.wf_ast.specs.Tree.{Body}
use Rattle.wf_eval.specs.Sight.{seen}
use Rattle.wf_frames.specs.Frames.{inner}
use Rattle.wf_model.specs.NodeKinds.{call_by}
use Rattle.wf_model.specs.Spots.{part_at, part_body}
use Rattle.wf_model.specs.declared.node.NodeKind.TheVariants as kind
use Rattle.wf_frames.proofs.Asking.{no_call_of, performs_asked, plain_performs}
use Rattle.wf_frames.proofs.Parts.{as_part, node_at, other_node}
use Rattle.wf_frames.proofs.Performed.{performs_call}
use Rattle.wf_frames.specs.Steps.{AsksWith, CallsWith, IsNoCall, IsOf, Performs, PerformsCall}
use Rattle.wf_frames.proofs.step.perform.Goals as goal

pub returns-in-Call-clause-performed : goal.returns-in-Call-clause-performed
returns-in-Call-clause-performed g c =
    let v = seen (g.K.Look.sight c.args.look.now) c.args.now in
    let x = c.index-nodes-n.result in
    let there = node_at c.args.nodes.now c.args.n x c.requires.1.1.0 c.index-nodes-n.is in
    let f = call_by c.items.result.now c.in-Call.call in
    let part = as_part g.ns c.args.nodes.now c.args.n x (kind.Call c.in-Call.call) c.requires.1.0.resolves there c.in-Call.is in
    with_ok (CallsWith c.args.n f v) (Performs g.ns (part_body (part_at g.ns c.args.n)) v (inner c.args.frames.now) (inner c.args.frames.now)) c.calls.result
    (λ st h. performs_call g.ns c.args.n f v (inner c.args.frames.now) st (ap part_body part ∙ ap (λ cs. Body.Call (call_by cs c.in-Call.call)) (sym c.items.ensures)) h) c.calls.ensures.called

pub returns-in-Call-clause-asked : goal.returns-in-Call-clause-asked
returns-in-Call-clause-asked g c =
    let v = seen (g.K.Look.sight c.args.look.now) c.args.now in
    let x = c.index-nodes-n.result in
    let there = node_at c.args.nodes.now c.args.n x c.requires.1.1.0 c.index-nodes-n.is in
    let f = call_by c.items.result.now c.in-Call.call in
    let part = as_part g.ns c.args.nodes.now c.args.n x (kind.Call c.in-Call.call) c.requires.1.0.resolves there c.in-Call.is in
    with_ok (AsksWith c.args.n f v) (PerformsCall g.ns (part_body (part_at g.ns c.args.n)) v (inner c.args.frames.now) (inner c.args.frames.now)) c.calls.result
    (λ st h. performs_asked g.ns c.args.n f v (inner c.args.frames.now) st (ap part_body part ∙ ap (λ cs. Body.Call (call_by cs c.in-Call.call)) (sym c.items.ensures)) h) c.calls.ensures.asked

pub returns-in-Call-clause-ready : goal.returns-in-Call-clause-ready
returns-in-Call-clause-ready g c =
    let x = c.index-nodes-n.result in
    let there = node_at c.args.nodes.now c.args.n x c.requires.1.1.0 c.index-nodes-n.is in
    c.calls.ensures.ready g.ns c.args.nodes.now (inner c.args.frames.now) (record { node = x; at = there; is = c.in-Call.is })

pub perform_plain-requires : goal.perform_plain-requires
perform_plain-requires g c κs within =
    let x = c.index-nodes-n.result in
    let there = node_at c.args.nodes.now c.args.n x c.requires.1.1.0 c.index-nodes-n.is in
    (within, (c.requires.1.0, (c.requires.1.1.0, (other_node c.args.nodes.now c.args.n x there c.in_default.not-Call, (c.requires.1.1.1.0, c.requires.1.1.1.1)))))

pub returns-in_default-clause-asked : goal.returns-in_default-clause-asked
returns-in_default-clause-asked g c =
    let v = seen (g.K.Look.sight c.args.look.now) c.args.now in
    let x = c.index-nodes-n.result in
    let there = node_at c.args.nodes.now c.args.n x c.requires.1.1.0 c.index-nodes-n.is in
    with_ok IsNoCall (PerformsCall g.ns (part_body (part_at g.ns c.args.n)) v (inner c.args.frames.now) (inner c.perform_plain.new.frames)) c.perform_plain.result
    (λ st h. plain_performs g.ns c.args.nodes.now c.args.n x v (inner c.args.frames.now) (inner c.perform_plain.new.frames) st c.requires.1.0.resolves there c.in_default.not-Call) c.perform_plain.ensures.no_call

pub returns-in_default-clause-of : goal.returns-in_default-clause-of
returns-in_default-clause-of g c = with_ok IsNoCall (IsOf c.args.n) c.perform_plain.result (no_call_of c.args.n) c.perform_plain.ensures.no_call
