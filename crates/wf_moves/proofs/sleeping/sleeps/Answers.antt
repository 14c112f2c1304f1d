use Rattle.std.proofs.Common.{List, Err, sym, ap, subst}
use Rattle.wf_ast.specs.Tree.{Flow}
use Rattle.wf_eval.specs.Answers.{Answers}
use Rattle.wf_frames.specs.Owned.{control_of, held_by, local_of}
use Rattle.wf_moves.proofs.Raised.{raised, raised_left}
use Rattle.wf_moves.proofs.Sleeps.{nap_done, sleep_fails, sleeps_so}
use Rattle.wf_frames.specs.Held.{standing}
use Rattle.wf_model.specs.Calls.{sleeps}
use Rattle.wf_moves.specs.Tasks.{IsAwaited}
use Rattle.wf_moves.specs.Naps.{nap_due}
use Rattle.wf_moves.specs.declared.finish.Done.TheVariants as done
use Rattle.wf_model.specs.NodeKinds.{call_by}
use Rattle.wf_model.specs.Spots.{part_body}
use Rattle.wf_model.specs.declared.node.NodeKind.TheVariants as kind
use Rattle.wf_frames.proofs.Parts.{as_part}
use Rattle.wf_frames.specs.Built.{IsNap}
use Rattle.wf_value.specs.Data.{pairs_of}
use Rattle.wf_value.specs.Errors.{error_map}
use Rattle.wf_moves.proofs.sleeping.sleeps.Goals as goal

pub returns-in_ok-awaits-in-Ok-clause-moved : goal.returns-in_ok-awaits-in-Ok-clause-moved
returns-in_ok-awaits-in-Ok-clause-moved g c s d sees agrees =
    let f = c.requires.1.1 in
    let body = ap part_body (as_part g.around.spots c.args.nodes.now c.args.n f.1.node (kind.Call f.0) c.requires.0.resolves f.1.at f.1.is) in
    let k = control_of g.around c.args.frames.now in
    let h = held_by g.around c.args.frames.now c.args.scopes.now in
    let is = subst (λ (fs : List Flow). IsNap fs c.args.nap f.0.name) (sym agrees.2) f.2 in
    let call = call_by f.1.node.codes.items.items f.0 in
    nap_done g.around s c.args.nap (pairs_of c.args.args.now) c.args.n call c.args.facts.now.now k d h sees.now body is (done.Awaits c.in_ok-awaits-in-Ok.awaits) (local_of g.around c.args.frames.now c.args.scopes.now)
    (subst (λ x. IsAwaited g.around s (sleeps s call.result (nap_due c.args.nap c.args.facts.now.now (pairs_of c.args.args.now)) k (standing d h)) x (local_of g.around c.args.frames.now c.args.scopes.now)) (sym c.in_ok-awaits-in-Ok.ensures) (sleeps_so g.around s c.args.nap (pairs_of c.args.args.now) c.args.n call c.args.facts.now.now k d h sees.now body is c.in-Ok.due c.in-Ok.ensures))

pub returns-in_ok-fails-in-Err-clause-moved : goal.returns-in_ok-fails-in-Err-clause-moved
returns-in_ok-fails-in-Err-clause-moved g c s d sees agrees =
    let f = c.requires.1.1 in
    let body = ap part_body (as_part g.around.spots c.args.nodes.now c.args.n f.1.node (kind.Call f.0) c.requires.0.resolves f.1.at f.1.is) in
    let k = control_of g.around c.args.frames.now in
    let h = held_by g.around c.args.frames.now c.args.scopes.now in
    let is = subst (λ (fs : List Flow). IsNap fs c.args.nap f.0.name) (sym agrees.2) f.2 in
    let call = call_by f.1.node.codes.items.items f.0 in
    let e = c.in_ok-fails-in-Err.ensures in
    let t = e.error in
    let w = c.in_ok-fails-in-Err.field-0 in
    let l = local_of g.around c.args.frames.now c.args.scopes.now in
    nap_done g.around s c.args.nap (pairs_of c.args.args.now) c.args.n call c.args.facts.now.now k d h sees.now body is c.done_of.result l
    (c.done_of.ensures.moved g.around s (sleeps s call.result (nap_due c.args.nap c.args.facts.now.now (pairs_of c.args.args.now)) k (standing d h)) l (sleep_fails g.around s c.args.nap (pairs_of c.args.args.now) c.args.n call c.args.facts.now.now k d h sees.now body is t.0 w l
    (subst (λ r. Answers (λ m. m) (Err r) (nap_due c.args.nap c.args.facts.now.now (pairs_of c.args.args.now))) t.1 c.in-Err.ensures) (raised s k d h (error_map t.0) w (e.raised t.0 t.1))))

pub returns-in_ok-fails-in-Err-clause-left : goal.returns-in_ok-fails-in-Err-clause-left
returns-in_ok-fails-in-Err-clause-left g c =
    let e = c.in_ok-fails-in-Err.ensures in
    let t = e.error in
    c.done_of.ensures.left c.args.nodes.now c.args.frames.now (raised_left c.args.nodes.now c.args.frames.now (error_map t.0) c.in_ok-fails-in-Err.field-0 (e.raised t.0 t.1))
