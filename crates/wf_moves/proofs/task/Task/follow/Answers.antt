use Rattle.std.proofs.Common.{sym, ap, subst, ◌∙◌}
use Rattle.wf_lemmas.proofs.Results.{with_ok}
use Rattle.wf_moves.proofs.Led.{goes_leads}
use Rattle.wf_moves.proofs.Waiting.{behind_moves, behind_stays, behind_unsent, went_left}
use Rattle.wf_moves.specs.Moved.{IsLeft, IsMove}
use Rattle.wf_moves.specs.Tasks.{MovesTo, StaysTold, is_told_sent}
use Rattle.wf_moves.specs.Waits.{task_local}
use Rattle.wf_moves.proofs.task.Task.follow.Goals as goal

pub returns-in-Goes-clause-moved : goal.returns-in-Goes-clause-moved
returns-in-Goes-clause-moved g c s m sees agrees h =
    let l = task_local g.around c.args.self.now c.args.scopes.now in
    goes_leads g.around s m l (subst (λ w. IsMove s m w l) c.in-Goes.is h)

pub returns-in-Goes-clause-left : goal.returns-in-Goes-clause-left
returns-in-Goes-clause-left g c = went_left c.args.nodes.now c.args.self.now c.requires.1.1.1.1 (subst (λ w. IsLeft c.args.nodes.now w c.args.self.now.frames) c.in-Goes.is c.requires.1.1.1.0)

pub returns-in_ok-behind-in_default-clause-moved : goal.returns-in_ok-behind-in_default-clause-moved
returns-in_ok-behind-in_default-clause-moved g c =
    let l = task_local g.around c.stand.new.self c.stand.new.scopes in
    with_ok _ _ c.move_by.result
    (λ d is s m sees agrees h. subst (λ o. MovesTo m o l) (sym is) (behind_moves m c.in_ok-behind-in_default.behind l (c.in_ok-behind-in_default.ensures.moved s m sees agrees h)))
    c.move_by.ensures

pub returns-in_ok-behind-in_default-clause-left : goal.returns-in_ok-behind-in_default-clause-left
returns-in_ok-behind-in_default-clause-left g c =
    with_ok _ _ c.move_by.result
    (λ d is. subst (λ o. StaysTold c.args.nodes.now o c.stand.new.self) (sym is) (behind_stays c.args.nodes.now c.in_ok-behind-in_default.behind c.stand.new.self c.in_ok-behind-in_default.ensures.left))
    c.move_by.ensures

pub returns-in_ok-behind-in_default-clause-nothing_sent : goal.returns-in_ok-behind-in_default-clause-nothing_sent
returns-in_ok-behind-in_default-clause-nothing_sent g c =
    with_ok _ _ c.move_by.result (λ d is. ap is_told_sent is ∙ behind_unsent c.in_ok-behind-in_default.behind) c.move_by.ensures

pub returns-in_ok-behind-in_default-clause-stands : goal.returns-in_ok-behind-in_default-clause-stands
returns-in_ok-behind-in_default-clause-stands g c = with_ok _ _ c.move_by.result (λ d is. c.in_ok-behind-in_default.ensures.stands) c.move_by.ensures
