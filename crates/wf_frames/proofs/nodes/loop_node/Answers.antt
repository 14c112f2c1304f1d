use Rattle.wf_frames.proofs.Parts.{loop_within, node_at}
use Rattle.wf_frames.proofs.nodes.loop_node.Goals as goal

pub returns : goal.returns
returns c =
    let x = c.index-nodes-n.result in
    let there = node_at c.args.nodes.now c.args.n x (loop_within c.args.nodes.now c.args.n c.requires) c.index-nodes-n.is in
    record { node = x; at = there; is = c.in-For.is }
