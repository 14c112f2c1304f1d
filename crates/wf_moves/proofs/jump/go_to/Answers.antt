use Rattle.std.proofs.Common.{sym, subst}
use Rattle.wf_frames.specs.Fits.{reach, views}
use Rattle.wf_frames.specs.Frames.{inner}
use Rattle.wf_frames.specs.Owned.{beside, local_of}
use Rattle.wf_model.specs.Leave.{jumps_to}
use Rattle.wf_moves.proofs.Jumps.{breaks_so}
use Rattle.wf_moves.specs.Moved.{IsMove}
use Rattle.wf_model.specs.Table.{Leads}
use Rattle.wf_moves.proofs.jump.go_to.Goals as goal

pub jump_to-requires : goal.jump_to-requires
jump_to-requires g c =
    let need = c.requires.1.1 in
    (c.requires.0, (c.requires.1.0, (need.0, subst (λ o. Leads g.around.spots (views c.args.nodes.now) need.0 o (reach (inner c.args.frames.now))) c.in-Some.is need.1)))

pub returns-in_ok-jump_to-in-Some-clause-moved : goal.returns-in_ok-jump_to-in-Some-clause-moved
returns-in_ok-jump_to-in-Some-clause-moved g c x w s d =
    let lead = subst (λ o. Leads g.around.spots (views c.args.nodes.now) x o (reach (inner c.args.frames.now))) c.in-Some.is w in
    subst (λ f. IsMove s (jumps_to s x f) c.goes.result (local_of g.around c.goes.new.frames c.goes.new.scopes)) (sym (c.in_ok-jump_to-in-Some.ensures.found x lead d)) (c.goes.ensures.moved s d)

pub returns-in-None-clause-moved : goal.returns-in-None-clause-moved
returns-in-None-clause-moved g c x w s d =
    let lead = subst (λ o. Leads g.around.spots (views c.args.nodes.now) x o (reach (inner c.args.frames.now))) c.in-None.is w in
    breaks_so g.around.spots c.args.nodes.now x s (inner c.args.frames.now) (beside d g.around c.args.frames.now c.args.scopes.now) (local_of g.around c.goes-in-None.new.frames c.goes-in-None.new.scopes) c.goes-in-None.result lead
