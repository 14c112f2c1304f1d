use Rattle.std.proofs.Common.{List, None, Some, refl, sym, subst}
use Rattle.std.specs.Prelude.{option_map}
use Rattle.wf_lemmas.proofs.Results.{with_ok}
use Rattle.wf_frames.specs.Owned.{beside, control_of, held_by, local_of}
use Rattle.wf_model.specs.Config.{Item}
use Rattle.wf_model.specs.Leave.{raises}
use Rattle.wf_model.specs.Local.{Scene, goes}
use Rattle.wf_moves.proofs.Raised.{raised_so, turned_move}
use Rattle.wf_moves.proofs.Waiting.{joining_local}
use Rattle.wf_moves.specs.Branches.{joins_with}
use Rattle.wf_moves.specs.Tasks.{MovesSo}
use Rattle.wf_moves.specs.Waits.{standing_at, task_local}
use Rattle.wf_moves.specs.declared.finish.Turned.TheVariants as turned
use Rattle.wf_value.specs.Plain.{plain}
use Rattle.wf_moves.proofs.task.Task.join.Goals as goal

pub returns-in-None-clause-moved : goal.returns-in-None-clause-moved
returns-in-None-clause-moved g c =
    let old = c.args.self.now.frames in
    let k = control_of g.around old in
    let last = task_local g.around c.follow.new.self c.follow.new.scopes in
    let was = λ (any : List Item). standing_at g.around c.args.self.now c.args.scopes.now any in
    let j = joining_local g.around c.args.self.now.wait old c.args.scopes.now c.requires.1.1.1.0 in
    with_ok _ _ c.follow.result
    (λ d h s any sees agrees.
    subst (λ o. MovesSo (joins_with s (option_map plain o) k (was any)) d last) (sym c.in-None.is)
    (subst (λ y. MovesSo (joins_with s None k y) d last) (sym (j any))
    (h s (goes k (beside any g.around old c.args.scopes.now)) sees agrees (c.goes-went.ensures.moved s any))))
    c.follow.ensures.moved

pub returns-in_ok-went-in-Some-clause-moved : goal.returns-in_ok-went-in-Some-clause-moved
returns-in_ok-went-in-Some-clause-moved g c =
    let old = c.args.self.now.frames in
    let k = control_of g.around old in
    let l = local_of g.around old c.args.scopes.now in
    let e = c.in-Some.error in
    let last = task_local g.around c.follow-in-Some.new.self c.follow-in-Some.new.scopes in
    let was = λ (any : List Item). standing_at g.around c.args.self.now c.args.scopes.now any in
    let j = joining_local g.around c.args.self.now.wait old c.args.scopes.now c.requires.1.1.1.0 in
    let m = λ (s : Scene) (any : List Item). raises s k (beside any g.around old c.args.scopes.now) (plain e) in
    with_ok _ _ c.follow-in-Some.result
    (λ d h s any sees agrees.
    subst (λ o. MovesSo (joins_with s (option_map plain o) k (was any)) d last) (sym c.in-Some.is)
    (subst (λ y. MovesSo (joins_with s (Some (plain e)) k y) d last) (sym (j any))
    (h s (m s any) sees agrees (turned_move s (m s any) (turned.Raises e) c.in_ok-went-in-Some.went l c.in_ok-went-in-Some.ensures (raised_so s k any (held_by g.around old c.args.scopes.now) e (m s any) refl)))))
    c.follow-in-Some.ensures.moved
