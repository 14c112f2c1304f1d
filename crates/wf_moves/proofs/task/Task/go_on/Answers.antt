use Rattle.std.proofs.Common.{Some, refl, sym, ap, subst}
use Rattle.std.specs.Prelude.{◌≤◌, IfErr, Result}
use Rattle.wf_lemmas.proofs.Results.{with_ok}
use Rattle.wf_frames.specs.Frames.{result_of}
use Rattle.wf_frames.specs.Owned.{control_of, held_by, local_of}
use Rattle.wf_model.specs.Leave.{handed, raises}
use Rattle.wf_moves.proofs.Raised.{raised_so, turned_left, turned_move}
use Rattle.wf_moves.specs.Tasks.{MovesSo}
use Rattle.wf_moves.specs.declared.finish.Turned.TheVariants as turned
use Rattle.wf_model.specs.Move.{resumed}
use Rattle.wf_moves.specs.Waits.{GoesFrom, answer_view, result_in, task_local, waiting}
use Rattle.wf_moves.specs.declared.wait.Wait.{Wait}
use Rattle.wf_value.specs.Data.{Data, depth}
use Rattle.wf_value.specs.Plain.{plain}
use Rattle.wf_moves.proofs.task.Task.go_on.Goals as goal

pub gives-requires : goal.gives-requires
gives-requires g c =
    (c.requires.0, (c.requires.1.0, (c.requires.1.1.0, (subst (λ w. GoesFrom c.args.nodes.now w c.args.self.now.frames) c.in-Calling.is c.requires.1.1.1.0, refl))))

pub returns-in-Ok-clause-moved : goal.returns-in-Ok-clause-moved
returns-in-Ok-clause-moved g c =
    let old = c.args.self.now.frames in
    let k = control_of g.around old in
    let l = local_of g.around old c.args.scopes.now in
    with_ok _ _ c.gives.result
    (λ d h s sees agrees.
    subst (λ (w : Wait). MovesSo (resumed s (result_in g.around w) (answer_view c.args.with) (waiting g.around w l)) d (task_local g.around c.gives.new.self c.gives.new.scopes)) (sym c.in-Calling.is)
    (subst (λ (x : Result Data Data). MovesSo (handed s (result_of g.around.spots (Some c.in-Calling.node)) x k l) d (task_local g.around c.gives.new.self c.gives.new.scopes)) (sym (ap answer_view c.in-Ok.is)) (h s sees agrees)))
    c.gives.ensures.moved

pub returns-in_ok-went-in-Err-clause-moved : goal.returns-in_ok-went-in-Err-clause-moved
returns-in_ok-went-in-Err-clause-moved g c =
    let old = c.args.self.now.frames in
    let k = control_of g.around old in
    let l = local_of g.around old c.args.scopes.now in
    let h0 = held_by g.around old c.args.scopes.now in
    with_ok _ _ c.follow.result
    (λ d h s sees agrees.
    subst (λ (w : Wait). MovesSo (resumed s (result_in g.around w) (answer_view c.args.with) (waiting g.around w l)) d (task_local g.around c.follow.new.self c.follow.new.scopes)) (sym c.in-Calling.is)
    (subst (λ (x : Result Data Data). MovesSo (handed s (result_of g.around.spots (Some c.in-Calling.node)) x k l) d (task_local g.around c.follow.new.self c.follow.new.scopes)) (sym (ap answer_view c.in-Err.is))
    (h s (raises s k l (plain c.in-Err.error)) sees agrees (turned_move s (raises s k l (plain c.in-Err.error)) (turned.Raises c.in-Err.error) c.in_ok-went-in-Err.went l c.in_ok-went-in-Err.ensures (raised_so s k k h0 c.in-Err.error (raises s k l (plain c.in-Err.error)) refl)))))
    c.follow.ensures.moved

pub follow-requires : goal.follow-requires
follow-requires g c = (c.requires.0, (c.requires.1.0, (c.requires.1.1.0, (turned_left c.args.nodes.now c.args.self.now.frames (turned.Raises c.in-Err.error) c.in_ok-went-in-Err.went c.in_ok-went-in-Err.ensures (subst (λ r. IfErr r (λ e. depth (plain e) ≤ 100)) c.in-Err.is c.requires.1.1.1.1.1), refl))))
