use Rattle.std.proofs.Common.{sym, subst}
use Rattle.wf_lemmas.proofs.Results.{with_ok}
use Rattle.wf_frames.specs.Frames.{inner}
use Rattle.wf_frames.specs.Owned.{control_of, local_of}
use Rattle.wf_moves.proofs.Going.{is_going}
use Rattle.wf_moves.proofs.Waiting.{awake_local, is_awake, went_left}
use Rattle.wf_moves.proofs.Led.{goes_leads}
use Rattle.wf_moves.specs.declared.finish.Went.TheVariants as went
use Rattle.wf_moves.specs.declared.task.Task.{Task}
use Rattle.wf_moves.specs.Moved.{IsMove, IsWent}
use Rattle.wf_moves.specs.Stepped.{stepped, stepped_at}
use Rattle.wf_moves.specs.Tasks.{IsAwaited, IsAwaitedLeft, IsDone, IsLeftSo, MovesSo}
use Rattle.wf_moves.specs.Waits.{GoesFrom, task_local, waiting}
use Rattle.wf_moves.proofs.task.Task.advance.Goals as goal

pub advance-requires : goal.advance-requires
advance-requires g c =
    let t = c.args.self.now in
    let goes = subst (λ w. GoesFrom c.args.nodes.now w t.frames) (is_awake t.wait c.requires.1.1.1.1) c.requires.1.1.1.0 in
    (c.requires.0, (c.requires.1.0, (c.requires.1.1.0, (is_going c.args.nodes.now (inner t.frames) goes.0, goes.1))))

pub returns-in-Goes-clause-moved : goal.returns-in-Goes-clause-moved
returns-in-Goes-clause-moved g c s sees reaches agrees =
    let w = c.args.self.now.wait in
    let old = c.args.self.now.frames in
    let mid = c.advance.new.frames in
    let awake = c.requires.1.1.1.1 in
    let m = stepped s (local_of g.around old c.args.scopes.now) in
    subst (λ l. IsWent (stepped s l) (waiting g.around w (local_of g.around mid c.advance.new.scopes))) (sym (awake_local g.around w old c.args.scopes.now awake))
    (subst (IsWent m) (sym (awake_local g.around w mid c.advance.new.scopes awake)) (goes_leads g.around s m (local_of g.around mid c.advance.new.scopes)
    (subst (λ x. IsDone g.around s (stepped_at s (control_of g.around old) (local_of g.around old c.args.scopes.now)) x (local_of g.around mid c.advance.new.scopes)) c.in-Goes.is (c.in_ok-done.ensures.moved s (control_of g.around old) sees reaches agrees))))

pub returns-in-Goes-clause-left : goal.returns-in-Goes-clause-left
returns-in-Goes-clause-left g c =
    let t : Task = record { alloc = c.args.self.now.alloc; frames = c.advance.new.frames; wait = c.args.self.now.wait } in
    went_left c.args.nodes.now t c.requires.1.1.1.1 (subst (λ x. IsLeftSo c.args.nodes.now x c.advance.new.frames) c.in-Goes.is c.in_ok-done.ensures.left)

pub follow-requires : goal.follow-requires
follow-requires g c = (
  c.requires.0,
  (
    c.requires.1.0,
    (c.in_ok-done.ensures.stands, (subst (λ x. IsLeftSo c.args.nodes.now x c.advance.new.frames) c.in-Ends.is c.in_ok-done.ensures.left, c.requires.1.1.1.1)),
  ),
)

pub returns-in-Ends-clause-moved : goal.returns-in-Ends-clause-moved
returns-in-Ends-clause-moved g c =
    let w = c.args.self.now.wait in
    let old = c.args.self.now.frames in
    let mid = c.advance.new.frames in
    let awake = c.requires.1.1.1.1 in
    with_ok _ _ c.follow.result
    (λ d h s sees reaches agrees.
    subst (λ l. MovesSo (stepped s l) d (task_local g.around c.follow.new.self c.follow.new.scopes)) (sym (awake_local g.around w old c.args.scopes.now awake))
    (h s (stepped s (local_of g.around old c.args.scopes.now)) sees agrees
    (subst (λ l. IsMove s (stepped s (local_of g.around old c.args.scopes.now)) went.Ends l) (sym (awake_local g.around w mid c.advance.new.scopes awake))
    (subst (λ x. IsDone g.around s (stepped_at s (control_of g.around old) (local_of g.around old c.args.scopes.now)) x (local_of g.around mid c.advance.new.scopes)) c.in-Ends.is (c.in_ok-done.ensures.moved s (control_of g.around old) sees reaches agrees)))))
    c.follow.ensures.moved

pub follow-requires-in-Turned : goal.follow-requires-in-Turned
follow-requires-in-Turned g c = (
  c.requires.0,
  (
    c.requires.1.0,
    (c.in_ok-done.ensures.stands, (subst (λ x. IsLeftSo c.args.nodes.now x c.advance.new.frames) c.in-Turned.is c.in_ok-done.ensures.left, c.requires.1.1.1.1)),
  ),
)

pub returns-in-Turned-clause-moved : goal.returns-in-Turned-clause-moved
returns-in-Turned-clause-moved g c =
    let w = c.args.self.now.wait in
    let old = c.args.self.now.frames in
    let mid = c.advance.new.frames in
    let awake = c.requires.1.1.1.1 in
    with_ok _ _ c.follow-in-Turned.result
    (λ d h s sees reaches agrees.
    subst (λ l. MovesSo (stepped s l) d (task_local g.around c.follow-in-Turned.new.self c.follow-in-Turned.new.scopes)) (sym (awake_local g.around w old c.args.scopes.now awake))
    (h s (stepped s (local_of g.around old c.args.scopes.now)) sees agrees
    (subst (λ l. IsMove s (stepped s (local_of g.around old c.args.scopes.now)) (went.Turned c.in-Turned.turned) l) (sym (awake_local g.around w mid c.advance.new.scopes awake))
    (subst (λ x. IsDone g.around s (stepped_at s (control_of g.around old) (local_of g.around old c.args.scopes.now)) x (local_of g.around mid c.advance.new.scopes)) c.in-Turned.is (c.in_ok-done.ensures.moved s (control_of g.around old) sees reaches agrees)))))
    c.follow-in-Turned.ensures.moved

pub told-requires : goal.told-requires
told-requires g c = (
  c.requires.0,
  (
    c.requires.1.0,
    (
      c.in_ok-done.ensures.stands,
      (subst (λ t. IsAwaitedLeft c.args.nodes.now t c.advance.new.frames) (sym c.into_inner-awaits.ensures) (subst (λ x. IsLeftSo c.args.nodes.now x c.advance.new.frames) c.in-Awaits.is c.in_ok-done.ensures.left), c.requires.1.1.1.1),
    ),
  ),
)

pub returns-in-Awaits-clause-moved : goal.returns-in-Awaits-clause-moved
returns-in-Awaits-clause-moved g c =
    let w = c.args.self.now.wait in
    let old = c.args.self.now.frames in
    let mid = c.advance.new.frames in
    let awake = c.requires.1.1.1.1 in
    with_ok _ _ c.told.result
    (λ d h s sees reaches agrees.
    subst (λ l. MovesSo (stepped s l) d (task_local g.around c.told.new.self c.told.new.scopes)) (sym (awake_local g.around w old c.args.scopes.now awake))
    (h s (stepped s (local_of g.around old c.args.scopes.now)) sees agrees
    (subst (λ t. IsAwaited g.around s (stepped s (local_of g.around old c.args.scopes.now)) t (local_of g.around mid c.advance.new.scopes)) (sym c.into_inner-awaits.ensures)
    (subst (λ x. IsDone g.around s (stepped_at s (control_of g.around old) (local_of g.around old c.args.scopes.now)) x (local_of g.around mid c.advance.new.scopes)) c.in-Awaits.is (c.in_ok-done.ensures.moved s (control_of g.around old) sees reaches agrees)))))
    c.told.ensures.moved
