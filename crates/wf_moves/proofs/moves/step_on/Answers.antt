use Rattle.std.proofs.Common.{subst}
use Rattle.wf_lemmas.proofs.Results.{with_ok}
use Rattle.wf_eval.specs.Sight.{seen}
use Rattle.wf_frames.specs.Frames.{inner}
use Rattle.wf_frames.specs.Held.{standing}
use Rattle.wf_frames.specs.Owned.{beside, control_of, held_of, local_of}
use Rattle.wf_frames.specs.Sights.{sight_of}
use Rattle.wf_moves.proofs.Stepping.{stepped_on}
use Rattle.wf_moves.specs.Stepped.{leads}
use Rattle.wf_moves.specs.Tasks.{IsDone}
use Rattle.wf_scope.specs.Store.{layers_of}
use Rattle.wf_moves.proofs.moves.step_on.Goals as goal

pub returns-clause-moved : goal.returns-clause-moved
returns-clause-moved g c =
    let h = c.in_ok-step.ensures in
    let st = c.in_ok-step.step in
    let v = seen (sight_of c.seen-look.result) c.args.facts.now.now in
    let mid = c.step_of.new.frames in
    with_ok _ _ c.finish_step.result
    (λ w m s d sees reaches agrees.
    stepped_on g.around (inner c.args.frames.now) (inner mid) st s (beside d g.around c.args.frames.now c.args.scopes.now) h.same v w (local_of g.around c.finish_step.new.frames c.finish_step.new.scopes) h.moves h.issues (c.seen-look.ensures s sees)
    (subst (λ os. IsDone g.around s (leads g.around.spots st s (control_of g.around mid) (standing d (held_of g.around.keys os (layers_of c.args.scopes.now)))) w (local_of g.around c.finish_step.new.frames c.finish_step.new.scopes)) h.own (m s d sees reaches agrees)))
    c.finish_step.ensures.moved
