use Rattle.wf_frames.proofs.Parts.{node_at, parallel_within}
use Rattle.wf_frames.proofs.nodes.parallel_node.Goals as goal

pub returns : goal.returns
returns c =
    let x = c.index-nodes-n.result in
    let there = node_at c.args.nodes.now c.args.n x (parallel_within c.args.nodes.now c.args.n c.requires) c.index-nodes-n.is in
    record { node = x; at = there; is = c.in-Parallel.is }
