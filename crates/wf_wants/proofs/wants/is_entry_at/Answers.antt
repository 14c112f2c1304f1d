use Rattle.std.proofs.Common.{ap, sym, ◌∙◌}
use Rattle.wf_model.specs.Kinds.{entry_now}
use Rattle.wf_frames.proofs.Clocked.{entry_there}
use Rattle.wf_wants.proofs.Nodes.{entry_absent}
use Rattle.wf_frames.proofs.Parts.{node_at}
use Rattle.wf_model.specs.NodeKinds.{entry_by}
use Rattle.wf_wants.proofs.wants.is_entry_at.Goals as goal

pub returns-in-Entry : goal.returns-in-Entry
returns-in-Entry g c =
    let x = c.index-nodes-n.result in
    let there = node_at c.args.nodes.now c.args.n x c.requires.1 c.index-nodes-n.is in
    c.is_entry_clock.ensures ∙ ap (λ cs. entry_now (entry_by cs c.in-Entry.entry)) c.items.ensures ∙ ap entry_now (sym (entry_there g.ns c.args.nodes.now c.args.n x c.in-Entry.entry c.requires.0.resolves there c.in-Entry.is))

pub returns-in_default : goal.returns-in_default
returns-in_default g c =
    let x = c.index-nodes-n.result in
    let there = node_at c.args.nodes.now c.args.n x c.requires.1 c.index-nodes-n.is in
    sym (entry_absent g.ns c.args.nodes.now c.args.n x c.requires.0.resolves there c.in_default.not-Entry)
