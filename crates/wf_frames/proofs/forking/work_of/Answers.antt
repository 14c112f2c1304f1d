use Rattle.std.proofs.Common.{◌≡◌, Ok, Err, sym, ap, subst, ◌∙◌}
use Rattle.wf_ast.specs.View.{texts_view}
use Rattle.wf_eval.specs.Answers.{Answers}
use Rattle.wf_eval.specs.Sight.{seen}
use Rattle.wf_frames.proofs.Counting.{branches_at, branches_total, branches_work, loop_at, loop_counts, loop_fails, parallel_is}
use Rattle.wf_frames.proofs.Parts.{node_at, parallel_within}
use Rattle.wf_frames.specs.Forks.{parallel_at}
use Rattle.wf_frames.specs.Frames.{left_view}
use Rattle.wf_model.specs.Move.{over}
use Rattle.wf_model.specs.NodeKinds.{over_by}
use Rattle.wf_model.specs.Spots.{steps_by}
use Rattle.wf_model.specs.declared.node.Node.{Node}
use Rattle.wf_model.specs.declared.node.WorkNode.TheVariants as variant
use Rattle.wf_frames.proofs.forking.work_of.Goals as goal

pub returns-in_ok-total-in-Branches-clause-work : goal.returns-in_ok-total-in-Branches-clause-work
returns-in_ok-total-in-Branches-clause-work g c =
    let p = c.parallel_node-body.result.now in
    let is = parallel_is g.ns c.args.nodes.now c.args.n p (variant.Branches c.in-Branches.branches) c.requires.1.0.resolves c.parallel_node-body.ensures c.in-Branches.is in
    branches_work g.ns (parallel_at g.ns c.args.n) (texts_view p.shared) p.limit c.in-Branches.branches.items is (seen (g.K.Look.sight c.args.look.now) c.args.now) c.in_ok-total-in-Branches.total

pub returns-in_ok-total-in-Branches-clause-total : goal.returns-in_ok-total-in-Branches-clause-total
returns-in_ok-total-in-Branches-clause-total g c =
    let p = c.parallel_node-body.result.now in
    let is = parallel_is g.ns c.args.nodes.now c.args.n p (variant.Branches c.in-Branches.branches) c.requires.1.0.resolves c.parallel_node-body.ensures c.in-Branches.is in
    c.in_ok-total-in-Branches.ensures ∙ c.len.ensures ∙ c.in-Branches.branches.ok.0 ∙ sym (branches_total g.ns (parallel_at g.ns c.args.n) (texts_view p.shared) p.limit c.in-Branches.branches.items is)

pub returns-in-Err-clause-work : goal.returns-in-Err-clause-work
returns-in-Err-clause-work g c =
    let p = c.parallel_node-body.result.now in
    let at = c.parallel_node-body.ensures in
    let l = c.in-Loop.repeated in
    let v = seen (g.K.Look.sight c.args.look.now) c.args.now in
    let x = c.index-nodes-n.result in
    let there = node_at c.args.nodes.now c.args.n x (parallel_within c.args.nodes.now c.args.n c.requires.1.1) c.index-nodes-n.is in
    let same : x ≡ at.node = cc (sym there ∙ at.at) in
    let codes = c.items.ensures ∙ ap (λ (y : Node). y.codes.items.items) same in
    let is = parallel_is g.ns c.args.nodes.now c.args.n p (variant.Loop l) c.requires.1.0.resolves at c.in-Loop.is in
    loop_fails (parallel_at g.ns c.args.n) (texts_view p.shared) p.limit l.value l.index (over_by at.node.codes.items.items l.over) (steps_by g.ns l.block.steps.items) is v c.in-Err.raise
    (subst (λ cs. Answers left_view (Err c.in-Err.raise) (over v (over_by cs l.over))) codes c.in-Err.ensures)

pub returns-in_ok-counted-in-Ok-clause-work : goal.returns-in_ok-counted-in-Ok-clause-work
returns-in_ok-counted-in-Ok-clause-work g c =
    let p = c.parallel_node-body.result.now in
    let at = c.parallel_node-body.ensures in
    let l = c.in-Loop.repeated in
    let v = seen (g.K.Look.sight c.args.look.now) c.args.now in
    let x = c.index-nodes-n.result in
    let there = node_at c.args.nodes.now c.args.n x (parallel_within c.args.nodes.now c.args.n c.requires.1.1) c.index-nodes-n.is in
    let same : x ≡ at.node = cc (sym there ∙ at.at) in
    let codes = c.items.ensures ∙ ap (λ (y : Node). y.codes.items.items) same in
    let is = parallel_is g.ns c.args.nodes.now c.args.n p (variant.Loop l) c.requires.1.0.resolves at c.in-Loop.is in
    loop_counts (parallel_at g.ns c.args.n) (texts_view p.shared) p.limit l.value l.index (over_by at.node.codes.items.items l.over) (steps_by g.ns l.block.steps.items) is v c.in-Ok.left c.in_ok-counted-in-Ok.field-0
    (c.in_ok-counted-in-Ok.ensures.values (parallel_at g.ns c.args.n)) (subst (λ cs. Answers left_view (Ok c.in-Ok.left) (over v (over_by cs l.over))) codes c.in-Ok.ensures)

pub returns-in_ok-total-in-Branches-clause-at : goal.returns-in_ok-total-in-Branches-clause-at
returns-in_ok-total-in-Branches-clause-at g c = branches_at c.args.nodes.now c.args.n c.parallel_node-body.result.now c.parallel_node-body.ensures c.in-Branches.branches c.in-Branches.is

pub returns-in_ok-counted-in-Ok-clause-at : goal.returns-in_ok-counted-in-Ok-clause-at
returns-in_ok-counted-in-Ok-clause-at g c = loop_at c.args.nodes.now c.args.n c.parallel_node-body.result.now c.parallel_node-body.ensures c.in-Loop.repeated c.in-Loop.is c.in_ok-counted-in-Ok.field-0.work c.in_ok-counted-in-Ok.ensures.of_loop
