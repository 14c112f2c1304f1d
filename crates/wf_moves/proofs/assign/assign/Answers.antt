use Rattle.std.proofs.Common.{ap, sym, subst, ◌∙◌}
use Rattle.wf_lemmas.proofs.Results.{with_ok}
use Rattle.wf_frames.proofs.Clocked.{entry_there}
use Rattle.wf_frames.proofs.Parts.{node_at}
use Rattle.wf_frames.specs.Owned.{beside, control_of, local_of}
use Rattle.wf_model.specs.Move.{assigns}
use Rattle.wf_moves.specs.Moved.{IsMove}
use Rattle.wf_model.specs.NodeKinds.{entry_by}
use Rattle.wf_moves.proofs.assign.assign.Goals as goal

pub returns-then-entry-eq0-clause-moved : goal.returns-then-entry-eq0-clause-moved
returns-then-entry-eq0-clause-moved g c =
    let there = node_at c.args.nodes.now c.args.n c.index-nodes-n.result c.requires.1.1 c.index-nodes-n.is in
    let is = entry_there g.around.spots c.args.nodes.now c.args.n c.index-nodes-n.result c.in-Entry.entry c.requires.0.resolves there c.in-Entry.is in
    let same = is ∙ ap (λ cs. entry_by cs c.in-Entry.entry) (sym c.items-codes.ensures) in
    with_ok _ _ c.assign_name.result
    (λ w h s d sees agrees. subst (λ x. IsMove s (assigns s x (control_of g.around c.args.frames.now) (beside d g.around c.args.frames.now c.args.scopes.now)) w (local_of g.around c.assign_name.new.frames c.assign_name.new.scopes)) (sym same) (h s d sees agrees))
    c.assign_name.ensures.moved

pub returns-clause-moved : goal.returns-clause-moved
returns-clause-moved g c =
    let there = node_at c.args.nodes.now c.args.n c.index-nodes-n.result c.requires.1.1 c.index-nodes-n.is in
    let is = entry_there g.around.spots c.args.nodes.now c.args.n c.index-nodes-n.result c.in-Entry.entry c.requires.0.resolves there c.in-Entry.is in
    let same = is ∙ ap (λ cs. entry_by cs c.in-Entry.entry) (sym c.items-codes.ensures) in
    with_ok _ _ c.assign_places.result
    (λ w h s d sees agrees. subst (λ x. IsMove s (assigns s x (control_of g.around c.args.frames.now) (beside d g.around c.args.frames.now c.args.scopes.now)) w (local_of g.around c.assign_places.new.frames c.assign_places.new.scopes)) (sym same) (h s d sees agrees))
    c.assign_places.ensures.moved
