use Rattle.std.proofs.Common.{refl, sym, subst}
use Rattle.wf_lemmas.proofs.Results.{with_ok}
use Rattle.wf_frames.specs.Held.{standing}
use Rattle.wf_frames.specs.Owned.{beside, control_of, held_by, local_of}
use Rattle.wf_frames.specs.Steps.{AreFit}
use Rattle.wf_model.specs.Leave.{raises}
use Rattle.wf_moves.proofs.Raised.{raised_so, turned_left, turned_move}
use Rattle.wf_moves.specs.Moved.{IsMove}
use Rattle.wf_moves.specs.Stepped.{leads_to}
use Rattle.wf_moves.specs.Tasks.{IsDone}
use Rattle.wf_moves.specs.declared.finish.Turned.TheVariants as turned
use Rattle.wf_value.specs.Plain.{plain}
use Rattle.wf_moves.proofs.moves.finish_with.Goals as goal

pub returns-requires : goal.returns-requires
returns-requires g c = (c.requires.0, (c.requires.1.1.0, subst (AreFit c.args.nodes.now) c.in-Returns.is c.requires.1.1.1))

pub call-requires : goal.call-requires
call-requires g c =
    let fit = subst (AreFit c.args.nodes.now) c.in-Calls.is c.requires.1.1.1 in
    (c.requires.0, (c.requires.1.0, (c.requires.1.1.0, (fit.0, fit.1))))

pub returns-in_ok-turns-in-Raises-clause-moved : goal.returns-in_ok-turns-in-Raises-clause-moved
returns-in_ok-turns-in-Raises-clause-moved g c s d sees reaches agrees =
    let k = control_of g.around c.args.frames.now in
    let h = held_by g.around c.args.frames.now c.args.scopes.now in
    let e = c.in-Raises.error in
    let w = c.in_ok-turns-in-Raises.field-0 in
    c.done_of.ensures.moved g.around s (leads_to g.around.spots c.args.by s k (beside d g.around c.args.frames.now c.args.scopes.now)) (local_of g.around c.args.frames.now c.args.scopes.now)
    (subst (λ x. IsMove s (leads_to g.around.spots x s k (beside d g.around c.args.frames.now c.args.scopes.now)) w (local_of g.around c.args.frames.now c.args.scopes.now)) (sym c.in-Raises.is)
    (turned_move s (raises s k (standing d h) (plain e)) (turned.Raises e) w (local_of g.around c.args.frames.now c.args.scopes.now) c.in_ok-turns-in-Raises.ensures (raised_so s k d h e (raises s k (standing d h) (plain e)) refl)))

pub returns-in_ok-turns-in-Raises-clause-left : goal.returns-in_ok-turns-in-Raises-clause-left
returns-in_ok-turns-in-Raises-clause-left g c =
    c.done_of.ensures.left c.args.nodes.now c.args.frames.now
    (turned_left c.args.nodes.now c.args.frames.now (turned.Raises c.in-Raises.error) c.in_ok-turns-in-Raises.field-0 c.in_ok-turns-in-Raises.ensures (subst (AreFit c.args.nodes.now) c.in-Raises.is c.requires.1.1.1))

pub returns-in_ok-returns-in-Returns-clause-moved : goal.returns-in_ok-returns-in-Returns-clause-moved
returns-in_ok-returns-in-Returns-clause-moved g c s d sees reaches agrees =
    c.done_of-in-Returns.ensures.moved g.around s (leads_to g.around.spots c.args.by s (control_of g.around c.args.frames.now) (beside d g.around c.args.frames.now c.args.scopes.now)) (local_of g.around c.returns.new.frames c.returns.new.scopes)
    (subst (λ x. IsMove s (leads_to g.around.spots x s (control_of g.around c.args.frames.now) (beside d g.around c.args.frames.now c.args.scopes.now)) c.in_ok-returns-in-Returns.field-0 (local_of g.around c.returns.new.frames c.returns.new.scopes)) (sym c.in-Returns.is) (c.in_ok-returns-in-Returns.ensures.moved s d agrees))

pub returns-in-Calls-clause-moved : goal.returns-in-Calls-clause-moved
returns-in-Calls-clause-moved g c =
    with_ok _ _ c.call.result
    (λ w h s d sees reaches agrees.
    subst (λ x. IsDone g.around s (leads_to g.around.spots x s (control_of g.around c.args.frames.now) (beside d g.around c.args.frames.now c.args.scopes.now)) w (local_of g.around c.call.new.frames c.call.new.scopes)) (sym c.in-Calls.is) (h s d sees reaches agrees))
    c.call.ensures.moved

pub returns-in-Forks-clause-moved : goal.returns-in-Forks-clause-moved
returns-in-Forks-clause-moved g c =
    with_ok _ _ c.fork.result
    (λ w h s d sees reaches agrees.
    subst (λ x. IsDone g.around s (leads_to g.around.spots x s (control_of g.around c.args.frames.now) (beside d g.around c.args.frames.now c.args.scopes.now)) w (local_of g.around c.fork.new.frames c.fork.new.scopes)) (sym c.in-Forks.is) (h s d sees agrees))
    c.fork.ensures.moved

pub fork-requires : goal.fork-requires
fork-requires g c =
    let fit = subst (AreFit c.args.nodes.now) c.in-Forks.is c.requires.1.1.1 in
    (c.requires.0, (c.requires.1.1.0, fit))
