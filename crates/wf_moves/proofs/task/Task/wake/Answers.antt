use Rattle.std.proofs.Common.{refl, sym, subst}
use Rattle.wf_lemmas.proofs.Results.{with_ok}
use Rattle.wf_frames.specs.Owned.{control_of, local_of}
use Rattle.wf_model.specs.Move.{due_by, retries}
use Rattle.wf_moves.specs.Tasks.{MovesSo}
use Rattle.wf_moves.specs.Waits.{GoesFrom, task_local, wait_view, waiting}
use Rattle.wf_moves.specs.declared.wait.Wait.{Wait}
use Rattle.wf_moves.proofs.task.Task.wake.Goals as goal

pub gives-requires : goal.gives-requires
gives-requires g c =
    (c.requires.0, (c.requires.1.0, (c.requires.1.1.0, (subst (λ w. GoesFrom c.args.nodes.now w c.args.self.now.frames) c.in-Sleep.is c.requires.1.1.1.0, refl))))

pub returns-in-Sleep-clause-moved : goal.returns-in-Sleep-clause-moved
returns-in-Sleep-clause-moved g c =
    let l = local_of g.around c.args.self.now.frames c.args.scopes.now in
    with_ok _ _ c.gives.result
    (λ d h s sees agrees.
    subst (λ (w : Wait). MovesSo (due_by s (wait_view g.around w) (waiting g.around w l)) d (task_local g.around c.gives.new.self c.gives.new.scopes)) (sym c.in-Sleep.is) (h s sees agrees))
    c.gives.ensures.moved

pub try_again-requires : goal.try_again-requires
try_again-requires g c = (c.requires.0, (c.requires.1.1.0, subst (λ w. GoesFrom c.args.nodes.now w c.args.self.now.frames) c.in-Delay.is c.requires.1.1.1.0))

pub follow-requires : goal.follow-requires
follow-requires g c = (c.requires.0, (c.requires.1.0, (c.in_ok-went-in-Delay.ensures.stands, (c.in_ok-went-in-Delay.ensures.left, refl))))

pub returns-in_ok-went-in-Delay-clause-moved : goal.returns-in_ok-went-in-Delay-clause-moved
returns-in_ok-went-in-Delay-clause-moved g c =
    let l = local_of g.around c.args.self.now.frames c.args.scopes.now in
    let k = control_of g.around c.args.self.now.frames in
    with_ok _ _ c.follow.result
    (λ d h s sees agrees.
    subst (λ (w : Wait). MovesSo (due_by s (wait_view g.around w) (waiting g.around w l)) d (task_local g.around c.follow.new.self c.follow.new.scopes)) (sym c.in-Delay.is)
    (h s (retries k l) sees agrees (c.in_ok-went-in-Delay.ensures.moved s k agrees)))
    c.follow.ensures.moved
