use Rattle.std.proofs.Common.{sym, subst}
use Rattle.wf_frames.specs.Frames.{inner}
use Rattle.wf_frames.specs.Owned.{held_by, local_of}
use Rattle.wf_model.specs.Local.{Local, settled}
use Rattle.wf_moves.proofs.Leaving.{going_there, none_there, went_on, went_out}
use Rattle.wf_moves.specs.Moved.{IsMove}
use Rattle.wf_moves.specs.declared.finish.Went.TheVariants as went
use Rattle.wf_moves.proofs.finish.goes.Goals as goal

pub returns-in-None-clause-left : goal.returns-in-None-clause-left
returns-in-None-clause-left g c = none_there (inner c.settle.new.frames) c.in-None.ensures

pub returns-in-None-clause-moved : goal.returns-in-None-clause-moved
returns-in-None-clause-moved g c s d =
    let frames = c.settle.new.frames in
    let scopes = c.settle.new.scopes in
    subst (λ (l : Local). IsMove s (settled l) went.Ends (local_of g.around frames scopes)) (sym (c.settle.ensures.left d)) (went_out s g.around.spots (inner frames) (held_by g.around frames scopes) c.in-None.ensures)

pub returns-in-Some-clause-left : goal.returns-in-Some-clause-left
returns-in-Some-clause-left g c = (going_there c.args.nodes.now c.in-Some.field-0.now (inner c.settle.new.frames) c.in-Some.ensures c.settle.ensures.settled, c.settle.ensures.next)

pub returns-in-Some-clause-moved : goal.returns-in-Some-clause-moved
returns-in-Some-clause-moved g c s d =
    let frames = c.settle.new.frames in
    let scopes = c.settle.new.scopes in
    subst (λ (l : Local). IsMove s (settled l) went.Goes (local_of g.around frames scopes)) (sym (c.settle.ensures.left d)) (went_on s g.around.spots c.in-Some.field-0.now (inner frames) (held_by g.around frames scopes) c.in-Some.ensures)
