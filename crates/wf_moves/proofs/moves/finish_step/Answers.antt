use Rattle.std.proofs.Common.{sym, subst}
use Rattle.wf_lemmas.proofs.Results.{with_ok}
use Rattle.wf_frames.specs.Frames.{inner}
use Rattle.wf_frames.specs.Owned.{beside, control_of, local_of}
use Rattle.wf_frames.specs.Steps.{AreFit, IsReady}
use Rattle.wf_moves.specs.Moved.{IsMove}
use Rattle.wf_moves.specs.Stepped.{leads, leads_to}
use Rattle.wf_moves.specs.Tasks.{IsDone}
use Rattle.wf_moves.proofs.moves.finish_step.Goals as goal

pub jump-requires : goal.jump-requires
jump-requires g c = (c.requires.0, (c.requires.1.1.0, subst (λ st. IsReady g.around.spots c.args.nodes.now (inner c.args.frames.now) st) c.in-Jumps.is c.requires.1.1.1))

pub assign-requires : goal.assign-requires
assign-requires g c = (c.requires.0, (c.requires.1.1.0, subst (λ st. IsReady g.around.spots c.args.nodes.now (inner c.args.frames.now) st) c.in-Assigns.is c.requires.1.1.1))

pub finish_with-requires : goal.finish_with-requires
finish_with-requires g c = (
  c.requires.0,
  (
    c.requires.1.0,
    (
      c.requires.1.1.0,
      subst (AreFit c.args.nodes.now) (sym c.into_inner-by.ensures) (subst (λ st. IsReady g.around.spots c.args.nodes.now (inner c.args.frames.now) st) c.in-Leads.is c.requires.1.1.1),
    ),
  ),
)

pub returns-in-Goes-clause-moved : goal.returns-in-Goes-clause-moved
returns-in-Goes-clause-moved g c s d sees reaches agrees =
    c.done_of.ensures.moved g.around s (leads g.around.spots c.args.step s (control_of g.around c.args.frames.now) (beside d g.around c.args.frames.now c.args.scopes.now)) (local_of g.around c.goes.new.frames c.goes.new.scopes)
    (subst (λ st. IsMove s (leads g.around.spots st s (control_of g.around c.args.frames.now) (beside d g.around c.args.frames.now c.args.scopes.now)) c.goes.result (local_of g.around c.goes.new.frames c.goes.new.scopes)) (sym c.in-Goes.is) (c.goes.ensures.moved s d))

pub returns-in_ok-jump-in-Jumps-clause-moved : goal.returns-in_ok-jump-in-Jumps-clause-moved
returns-in_ok-jump-in-Jumps-clause-moved g c s d sees reaches agrees =
    c.done_of-in-Jumps.ensures.moved g.around s (leads g.around.spots c.args.step s (control_of g.around c.args.frames.now) (beside d g.around c.args.frames.now c.args.scopes.now)) (local_of g.around c.jump.new.frames c.jump.new.scopes)
    (subst (λ st. IsMove s (leads g.around.spots st s (control_of g.around c.args.frames.now) (beside d g.around c.args.frames.now c.args.scopes.now)) c.in_ok-jump-in-Jumps.field-0 (local_of g.around c.jump.new.frames c.jump.new.scopes)) (sym c.in-Jumps.is) (c.in_ok-jump-in-Jumps.ensures.moved s d agrees))

pub returns-in_ok-assign-in-Assigns-clause-moved : goal.returns-in_ok-assign-in-Assigns-clause-moved
returns-in_ok-assign-in-Assigns-clause-moved g c s d sees reaches agrees =
    c.done_of-in-Assigns.ensures.moved g.around s (leads g.around.spots c.args.step s (control_of g.around c.args.frames.now) (beside d g.around c.args.frames.now c.args.scopes.now)) (local_of g.around c.assign.new.frames c.assign.new.scopes)
    (subst (λ st. IsMove s (leads g.around.spots st s (control_of g.around c.args.frames.now) (beside d g.around c.args.frames.now c.args.scopes.now)) c.in_ok-assign-in-Assigns.field-0 (local_of g.around c.assign.new.frames c.assign.new.scopes)) (sym c.in-Assigns.is) (c.in_ok-assign-in-Assigns.ensures.moved s d sees agrees))

pub returns-in-Leads-clause-moved : goal.returns-in-Leads-clause-moved
returns-in-Leads-clause-moved g c =
    with_ok _ _ c.finish_with.result
    (λ w h s d sees reaches agrees.
    subst (λ st. IsDone g.around s (leads g.around.spots st s (control_of g.around c.args.frames.now) (beside d g.around c.args.frames.now c.args.scopes.now)) w (local_of g.around c.finish_with.new.frames c.finish_with.new.scopes)) (sym c.in-Leads.is)
    (subst (λ x. IsDone g.around s (leads_to g.around.spots x s (control_of g.around c.args.frames.now) (beside d g.around c.args.frames.now c.args.scopes.now)) w (local_of g.around c.finish_with.new.frames c.finish_with.new.scopes)) c.into_inner-by.ensures (h s d sees reaches agrees)))
    c.finish_with.ensures.moved
