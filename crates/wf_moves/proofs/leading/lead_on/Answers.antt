use Rattle.std.proofs.Common.{sym, subst}
use Rattle.wf_frames.specs.Frames.{inner}
use Rattle.wf_frames.specs.Owned.{held_by, local_of}
use Rattle.wf_model.specs.Local.{Local, settled}
use Rattle.wf_moves.proofs.Leaving.{ended_there, going_there, none_there}
use Rattle.wf_moves.proofs.Retrying.{went_there}
use Rattle.wf_moves.specs.Moved.{IsEnd, IsWent}
use Rattle.wf_moves.specs.declared.finish.End.TheVariants as end
use Rattle.wf_value.specs.declared.Value.TheVariants as value
use Rattle.wf_moves.proofs.leading.lead_on.Goals as goal

pub returns-in-None-clause-left : goal.returns-in-None-clause-left
returns-in-None-clause-left g c = none_there (inner c.settle.new.frames) c.in-None.ensures

pub returns-in-None-clause-moved : goal.returns-in-None-clause-moved
returns-in-None-clause-moved g c d =
    let frames = c.settle.new.frames in
    let scopes = c.settle.new.scopes in
    subst (λ (l : Local). IsEnd (settled l) (end.Value value.Null) (local_of g.around frames scopes)) (sym (c.settle.ensures.left d)) (ended_there g.around.spots (inner frames) (held_by g.around frames scopes) c.in-None.ensures)

pub returns-in-Some-clause-left : goal.returns-in-Some-clause-left
returns-in-Some-clause-left g c = (going_there c.args.nodes.now c.in-Some.field-0.now (inner c.settle.new.frames) c.in-Some.ensures c.settle.ensures.settled, c.settle.ensures.next)

pub returns-in-Some-clause-moved : goal.returns-in-Some-clause-moved
returns-in-Some-clause-moved g c d =
    let frames = c.settle.new.frames in
    let scopes = c.settle.new.scopes in
    subst (λ (l : Local). IsWent (settled l) (local_of g.around frames scopes)) (sym (c.settle.ensures.left d)) (went_there g.around.spots c.in-Some.field-0.now (inner frames) (held_by g.around frames scopes) c.in-Some.ensures)
