use Rattle.std.proofs.Common.{refl, subst, sym}
use Rattle.wf_lemmas.proofs.Results.{with_ok}
use Rattle.wf_frames.specs.Owned.{local_of}
use Rattle.wf_moves.proofs.Waiting.{logged_local, logged_then}
use Rattle.wf_moves.specs.Tasks.{IsAwaited, IsAwaitedLeft, MovesTo, StaysTold}
use Rattle.wf_moves.specs.declared.task.Task.{Task}
use Rattle.wf_moves.specs.Waits.{task_local, waiting}
use Rattle.wf_moves.specs.declared.wait.Wait.TheVariants as wait
use Rattle.wf_moves.proofs.task.Task.told.Goals as goal

pub returns-in-Waits-clause-moved : goal.returns-in-Waits-clause-moved
returns-in-Waits-clause-moved g c s m sees agrees h = subst (λ x. IsAwaited g.around s m x (local_of g.around c.args.self.now.frames c.args.scopes.now)) c.in-Waits.is h

pub returns-in-Waits-clause-left : goal.returns-in-Waits-clause-left
returns-in-Waits-clause-left g c = subst (λ x. IsAwaitedLeft c.args.nodes.now x c.args.self.now.frames) c.in-Waits.is c.requires.1.1.1.0

pub returns-in-Sent-clause-moved : goal.returns-in-Sent-clause-moved
returns-in-Sent-clause-moved g c =
    let l = local_of g.around c.args.self.now.frames c.args.scopes.now in
    with_ok _ _ c.tell.result
    (λ d is s m sees agrees h. subst (λ o. MovesTo m o (waiting g.around c.in-Sent.wait l)) (sym is) (subst (λ x. IsAwaited g.around s m x l) c.in-Sent.is h))
    c.tell.ensures

pub returns-in-Sent-clause-left : goal.returns-in-Sent-clause-left
returns-in-Sent-clause-left g c =
    let t : Task = record { alloc = c.args.self.now.alloc; frames = c.args.self.now.frames; wait = c.in-Sent.wait } in
    with_ok _ _ c.tell.result
    (λ d is. subst (λ o. StaysTold c.args.nodes.now o t) (sym is) (subst (λ x. IsAwaitedLeft c.args.nodes.now x c.args.self.now.frames) c.in-Sent.is c.requires.1.1.1.0))
    c.tell.ensures

pub returns-in-Sent-clause-stands : goal.returns-in-Sent-clause-stands
returns-in-Sent-clause-stands g c = with_ok _ _ c.tell.result (λ d is. c.requires.1.1.0) c.tell.ensures

pub stand-requires : goal.stand-requires
stand-requires g c = (
  c.requires.0,
  (
    c.requires.1.0,
    (c.requires.1.1.0, (subst (λ x. IsAwaitedLeft c.args.nodes.now x c.args.self.now.frames) c.in-Logged.is c.requires.1.1.1.0, c.requires.1.1.1.1)),
  ),
)

pub returns-in_ok-behind-in-Logged-clause-moved : goal.returns-in_ok-behind-in-Logged-clause-moved
returns-in_ok-behind-in-Logged-clause-moved g c =
    let w = c.args.self.now.wait in
    let old = c.args.self.now.frames in
    let last = task_local g.around c.stand.new.self c.stand.new.scopes in
    let b = c.in_ok-behind-in-Logged.behind in
    with_ok _ _ c.tell-in-Logged.result
    (λ d is s m sees agrees h. subst (λ o. MovesTo m o last) (sym is)
    (logged_then s m c.in-Logged.entry.value c.in-Logged.went b (waiting g.around w (local_of g.around old c.args.scopes.now)) last
    (logged_local g.around s w old c.args.scopes.now m c.in-Logged.entry.value c.in-Logged.went c.requires.1.1.1.1
    (subst (λ x. IsAwaited g.around s m x (local_of g.around old c.args.scopes.now)) c.in-Logged.is h))
    (λ n q. c.in_ok-behind-in-Logged.ensures.moved s n sees agrees q)))
    c.tell-in-Logged.ensures

pub returns-in_ok-behind-in-Logged-clause-left : goal.returns-in_ok-behind-in-Logged-clause-left
returns-in_ok-behind-in-Logged-clause-left g c =
    with_ok _ _ c.tell-in-Logged.result
    (λ d is. subst (λ o. StaysTold c.args.nodes.now o c.stand.new.self) (sym is) c.in_ok-behind-in-Logged.ensures.left)
    c.tell-in-Logged.ensures

pub returns-in_ok-behind-in-Logged-clause-stands : goal.returns-in_ok-behind-in-Logged-clause-stands
returns-in_ok-behind-in-Logged-clause-stands g c = with_ok _ _ c.tell-in-Logged.result (λ d is. c.in_ok-behind-in-Logged.ensures.stands) c.tell-in-Logged.ensures

pub returns-in-Forks-clause-moved : goal.returns-in-Forks-clause-moved
returns-in-Forks-clause-moved g c =
    let l = local_of g.around c.args.self.now.frames c.args.scopes.now in
    with_ok _ _ c.tell-in-Forks.result
    (λ d is s m sees agrees h. subst (λ o. MovesTo m o (waiting g.around (wait.Joining c.in-Forks.joining) l)) (sym is) (subst (λ x. IsAwaited g.around s m x l) c.in-Forks.is h))
    c.tell-in-Forks.ensures

pub returns-in-Forks-clause-left : goal.returns-in-Forks-clause-left
returns-in-Forks-clause-left g c =
    let t : Task = record { alloc = c.args.self.now.alloc; frames = c.args.self.now.frames; wait = wait.Joining c.in-Forks.joining } in
    with_ok _ _ c.tell-in-Forks.result
    (λ d is. subst (λ o. StaysTold c.args.nodes.now o t) (sym is) (refl, subst (λ x. IsAwaitedLeft c.args.nodes.now x c.args.self.now.frames) c.in-Forks.is c.requires.1.1.1.0))
    c.tell-in-Forks.ensures

pub returns-in-Forks-clause-stands : goal.returns-in-Forks-clause-stands
returns-in-Forks-clause-stands g c = with_ok _ _ c.tell-in-Forks.result (λ d is. c.requires.1.1.0) c.tell-in-Forks.ensures
