use Rattle.std.proofs.Common.{Some, sym, subst}
use Rattle.wf_lemmas.proofs.Results.{with_ok}
use Rattle.wf_frames.specs.Frames.{result_of}
use Rattle.wf_frames.specs.Owned.{control_of, local_of}
use Rattle.wf_model.specs.Leave.{gives}
use Rattle.wf_moves.proofs.Waiting.{awake_local, call_there}
use Rattle.wf_moves.specs.Moved.{IsMove}
use Rattle.wf_moves.specs.Tasks.{MovesSo}
use Rattle.wf_moves.specs.Waits.{task_local}
use Rattle.wf_value.specs.Plain.{plain}
use Rattle.wf_moves.proofs.task.Task.gives.Goals as goal

pub give-requires : goal.give-requires
give-requires g c = (c.requires.0, (c.requires.1.1.0, call_there c.args.nodes.now c.args.node c.requires.1.1.1.0))

pub follow-requires : goal.follow-requires
follow-requires g c = (c.requires.0, (c.requires.1.0, (c.in_ok-went.ensures.stands, (c.in_ok-went.ensures.left, c.requires.1.1.1.1))))

pub returns-clause-moved : goal.returns-clause-moved
returns-clause-moved g c =
    let w = c.args.self.now.wait in
    let old = c.args.self.now.frames in
    let mid = c.give.new.frames in
    let awake = c.requires.1.1.1.1 in
    let k = control_of g.around old in
    let r = result_of g.around.spots (Some c.args.node) in
    with_ok _ _ c.follow.result
    (λ d h s sees agrees.
    subst (λ l. MovesSo (gives s r (plain c.args.value) k l) d (task_local g.around c.follow.new.self c.follow.new.scopes)) (sym (awake_local g.around w old c.args.scopes.now awake))
    (h s (gives s r (plain c.args.value) k (local_of g.around old c.args.scopes.now)) sees agrees
    (subst (λ l. IsMove s (gives s r (plain c.args.value) k (local_of g.around old c.args.scopes.now)) c.in_ok-went.went l) (sym (awake_local g.around w mid c.give.new.scopes awake)) (c.in_ok-went.ensures.moved s k agrees))))
    c.follow.ensures.moved
