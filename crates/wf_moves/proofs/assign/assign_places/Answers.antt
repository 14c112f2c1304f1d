use Rattle.std.proofs.Common.{Err, subst}
use Rattle.wf_lemmas.proofs.Results.{with_ok}
use Rattle.wf_moves.proofs.Assigning.{entry_failed, entry_given}
use Rattle.wf_eval.specs.Answers.{Answers}
use Rattle.wf_eval.specs.Sight.{seen}
use Rattle.wf_frames.specs.Owned.{beside, control_of, held_by, local_of}
use Rattle.wf_moves.proofs.Raised.{raised, raised_left}
use Rattle.wf_value.specs.Errors.{error_map}
use Rattle.wf_frames.specs.Sights.{sight_of}
use Rattle.wf_frames.proofs.Performed.{with_both}
use Rattle.wf_frames.specs.Assigned.{entry_values, values_of}
use Rattle.wf_model.specs.NodeKinds.{entry_by}
use Rattle.wf_moves.proofs.assign.assign_places.Goals as goal

pub returns-in-Ok-clause-moved : goal.returns-in-Ok-clause-moved
returns-in-Ok-clause-moved g c =
    let e = entry_by c.args.codes.now c.args.entry.now in
    let v = seen (sight_of c.seen-look.result) c.args.facts.now.now in
    let k = control_of g.around c.args.frames.now in
    with_ok _ _ c.store.result
    (λ w h s d sees agrees. entry_given s e k (beside d g.around c.args.frames.now c.args.scopes.now) v (c.seen-look.ensures s sees) c.in-Ok.assigned w (local_of g.around c.store.new.frames c.store.new.scopes) c.in-Ok.ensures (h s d agrees))
    c.store.ensures.moved

pub returns-in-Err-clause-moved : goal.returns-in-Err-clause-moved
returns-in-Err-clause-moved g c =
    let e = entry_by c.args.codes.now c.args.entry.now in
    let v = seen (sight_of c.seen-look.result) c.args.facts.now.now in
    let k = control_of g.around c.args.frames.now in
    with_both _ _ c.fails.result
    (λ w h t s d sees agrees. entry_failed s e k (beside d g.around c.args.frames.now c.args.scopes.now) v (c.seen-look.ensures s sees) t.0 w (local_of g.around c.args.frames.now c.args.scopes.now)
    (subst (λ r. Answers values_of (Err r) (entry_values e v)) t.1 c.in-Err.ensures) (raised s k d (held_by g.around c.args.frames.now c.args.scopes.now) (error_map t.0) w (h t.0 t.1)))
    c.fails.ensures.raised c.fails.ensures.error

pub returns-in-Err-clause-left : goal.returns-in-Err-clause-left
returns-in-Err-clause-left g c = with_both _ _ c.fails.result (λ w h t. raised_left c.args.nodes.now c.args.frames.now (error_map t.0) w (h t.0 t.1)) c.fails.ensures.raised c.fails.ensures.error
