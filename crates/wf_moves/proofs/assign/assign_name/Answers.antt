use Rattle.std.proofs.Common.{ℕ, Err, map, take, ap, subst}
use Rattle.wf_lemmas.proofs.Results.{with_ok}
use Rattle.wf_moves.proofs.Assigning.{name_failed, name_given}
use Rattle.wf_ast.specs.Eval.{fill}
use Rattle.wf_ast.specs.Tree.{exprs}
use Rattle.wf_eval.specs.Answers.{Gives}
use Rattle.wf_eval.specs.Sight.{seen}
use Rattle.wf_frames.specs.Owned.{beside, control_of, held_by, local_of}
use Rattle.wf_moves.proofs.Raised.{raised, raised_left}
use Rattle.wf_value.specs.Errors.{error_map}
use Rattle.wf_frames.specs.Sights.{sight_of}
use Rattle.wf_frames.proofs.Performed.{with_both}
use Rattle.wf_model.specs.NodeKinds.{entry_by}
use Rattle.wf_model.specs.Shapes.{decoded}
use Rattle.wf_moves.proofs.assign.assign_name.Goals as goal

pub returns-in-Ok-clause-moved : goal.returns-in-Ok-clause-moved
returns-in-Ok-clause-moved g c =
    let e = entry_by c.args.codes.now c.args.entry.now in
    let v = seen (sight_of c.seen-look.result) c.args.facts.now.now in
    let k = control_of g.around c.args.frames.now in
    let none = ap (λ (n : ℕ). exprs (map decoded (take n c.args.codes.now))) c.requires.1.1 in
    with_ok _ _ c.store_value.result
    (λ w h s d sees agrees. name_given s e k (beside d g.around c.args.frames.now c.args.scopes.now) v (c.seen-look.ensures s sees) none c.in-Ok.value w (local_of g.around c.store_value.new.frames c.store_value.new.scopes) c.in-Ok.ensures (h s d agrees))
    c.store_value.ensures.moved

pub returns-in-Err-clause-moved : goal.returns-in-Err-clause-moved
returns-in-Err-clause-moved g c =
    let e = entry_by c.args.codes.now c.args.entry.now in
    let v = seen (sight_of c.seen-look.result) c.args.facts.now.now in
    let k = control_of g.around c.args.frames.now in
    let none = ap (λ (n : ℕ). exprs (map decoded (take n c.args.codes.now))) c.requires.1.1 in
    with_both _ _ c.fails.result
    (λ w h t s d sees agrees. name_failed s e k (beside d g.around c.args.frames.now c.args.scopes.now) v (c.seen-look.ensures s sees) none t.0 w (local_of g.around c.args.frames.now c.args.scopes.now)
    (subst (λ r. Gives (Err r) (fill e.value v)) t.1 c.in-Err.ensures) (raised s k d (held_by g.around c.args.frames.now c.args.scopes.now) (error_map t.0) w (h t.0 t.1)))
    c.fails.ensures.raised c.fails.ensures.error

pub returns-in-Err-clause-left : goal.returns-in-Err-clause-left
returns-in-Err-clause-left g c = with_both _ _ c.fails.result (λ w h t. raised_left c.args.nodes.now c.args.frames.now (error_map t.0) w (h t.0 t.1)) c.fails.ensures.raised c.fails.ensures.error
