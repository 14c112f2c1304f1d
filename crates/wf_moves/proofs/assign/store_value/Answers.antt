use Rattle.std.proofs.Common.{[], subst}
use Rattle.wf_lemmas.proofs.Results.{with_ok}
use Rattle.wf_frames.specs.Owned.{control_of, held_by, local_of}
use Rattle.wf_frames.specs.Turns.{Writes}
use Rattle.wf_moves.proofs.Assigning.{refused, stored}
use Rattle.wf_moves.proofs.Raised.{raised, raised_left}
use Rattle.wf_value.specs.Errors.{error_map}
use Rattle.wf_moves.proofs.assign.store_value.Goals as goal
use Rattle.wf_value.specs.Plain.{plain}

pub returns-in-None-clause-moved : goal.returns-in-None-clause-moved
returns-in-None-clause-moved g c s d agrees =
    let fs = c.args.frames.now in
    let h = held_by g.around fs c.args.scopes.now in
    let m = held_by g.around fs c.assign_name.new.scopes in
    let v = plain c.args.value in
    stored s c.args.name.now [] v (control_of g.around fs) d h m c.goes.result (local_of g.around c.goes.new.frames c.goes.new.scopes)
    (subst (λ o. Writes s o h c.args.name.now [] v m) c.in-None.is (c.in_ok-assign_name.ensures.written s agrees)) (c.goes.ensures.moved s d)

pub returns-in-Some-clause-moved : goal.returns-in-Some-clause-moved
returns-in-Some-clause-moved g c =
    let fs = c.args.frames.now in
    let h = held_by g.around fs c.args.scopes.now in
    let m = held_by g.around fs c.assign_name.new.scopes in
    let v = plain c.args.value in
    with_ok _ _ c.raises_tag.result
    (λ w p s d agrees. refused s c.args.name.now [] v (control_of g.around fs) d h m w (local_of g.around fs c.assign_name.new.scopes) c.in-Some.tag
    (subst (λ o. Writes s o h c.args.name.now [] v m) c.in-Some.is (c.in_ok-assign_name.ensures.written s agrees))
    (raised s (control_of g.around fs) d m (error_map c.in-Some.tag) w p))
    c.raises_tag.ensures

pub returns-in-Some-clause-left : goal.returns-in-Some-clause-left
returns-in-Some-clause-left g c = with_ok _ _ c.raises_tag.result (λ w p. raised_left c.args.nodes.now c.args.frames.now (error_map c.in-Some.tag) w p) c.raises_tag.ensures
