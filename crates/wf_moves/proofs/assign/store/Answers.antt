use Rattle.std.proofs.Common.{None, Some, map, subst}
use Rattle.wf_lemmas.proofs.Results.{with_ok}
use Rattle.wf_frames.specs.Owned.{control_of, held_by, local_of}
use Rattle.wf_frames.specs.Turns.{Writes}
use Rattle.wf_moves.proofs.Assigning.{refused, stored}
use Rattle.wf_moves.proofs.Raised.{raised, raised_left}
use Rattle.wf_value.specs.Errors.{error_map}
use Rattle.wf_moves.proofs.assign.store.Goals as goal
use Rattle.wf_value.specs.Plain.{plain}

pub returns-in-None-clause-moved : goal.returns-in-None-clause-moved
returns-in-None-clause-moved g c s d agrees =
    let fs = c.args.frames.now in
    let h = held_by g.around fs c.args.scopes.now in
    let m = held_by g.around fs c.assign.new.scopes in
    let v = plain c.args.assigned.value in
    let wrote = subst (λ o. Writes s o h c.args.name.now (map plain c.as_slice.result.now) v m) c.in-None.is (c.in_ok-assign.ensures.written s agrees) in
    let here = subst (λ xs. Writes s None h c.args.name.now (map plain xs) v m) c.as_slice.ensures.value wrote in
    stored s c.args.name.now (map plain c.args.assigned.places.items) v (control_of g.around fs) d h m c.goes.result (local_of g.around c.goes.new.frames c.goes.new.scopes) here (c.goes.ensures.moved s d)

pub returns-clause-moved : goal.returns-clause-moved
returns-clause-moved g c =
    let fs = c.args.frames.now in
    let h = held_by g.around fs c.args.scopes.now in
    let m = held_by g.around fs c.assign.new.scopes in
    let v = plain c.args.assigned.value in
    with_ok _ _ c.raises_tag.result
    (λ w p s d agrees. refused s c.args.name.now (map plain c.args.assigned.places.items) v (control_of g.around fs) d h m w (local_of g.around fs c.assign.new.scopes) c.in-Some.tag
    (subst (λ xs. Writes s (Some c.in-Some.tag) h c.args.name.now (map plain xs) v m) c.as_slice.ensures.value (subst (λ o. Writes s o h c.args.name.now (map plain c.as_slice.result.now) v m) c.in-Some.is (c.in_ok-assign.ensures.written s agrees)))
    (raised s (control_of g.around fs) d m (error_map c.in-Some.tag) w p))
    c.raises_tag.ensures

pub returns-clause-left : goal.returns-clause-left
returns-clause-left g c = with_ok _ _ c.raises_tag.result (λ w p. raised_left c.args.nodes.now c.args.frames.now (error_map c.in-Some.tag) w p) c.raises_tag.ensures
