use Rattle.std.proofs.Common.{◌≡◌, Ok, Err, arith, ap, sym, subst}
use Rattle.std.specs.Prelude.{suc}
use Rattle.wf_eval.specs.Answers.{Answers}
use Rattle.wf_frames.specs.Owned.{beside, control_of, held_by, local_of}
use Rattle.wf_moves.proofs.Raised.{raised, raised_left}
use Rattle.wf_moves.proofs.Requesting.{request_failed, request_sent}
use Rattle.wf_value.specs.Errors.{error_map}
use Rattle.wf_moves.specs.Requests.{request_by, sent_view}
use Rattle.wf_model.specs.NodeKinds.{call_by}
use Rattle.wf_model.specs.Spots.{part_at, part_body}
use Rattle.wf_frames.specs.Steps.{asks_with}
use Rattle.wf_moves.specs.Tasks.{IsAwaited}
use Rattle.wf_model.specs.declared.node.NodeKind.TheVariants as kind
use Rattle.wf_frames.proofs.Parts.{as_part}
use Rattle.wf_value.specs.Data.{pairs_of}
use Rattle.wf_moves.proofs.sending.sends.Goals as goal

pub returns-in_ok-awaits-in-Ok-clause-moved : goal.returns-in_ok-awaits-in-Ok-clause-moved
returns-in_ok-awaits-in-Ok-clause-moved g c s d sees reaches agrees =
    let f = c.requires.1.1.0 in
    let body = ap part_body (as_part g.around.spots c.args.nodes.now c.args.n f.1.node (kind.Call f.0) c.requires.0.resolves f.1.at f.1.is) in
    let count : c.in-Some.number ≡ suc c.args.sending.now.calls = omega (arith, c.in-Some.ensures) in
    subst (λ x. IsAwaited g.around s (asks_with s (part_body (part_at g.around.spots c.args.n)) (pairs_of c.args.args.now) (control_of g.around c.args.frames.now) (beside d g.around c.args.frames.now c.args.scopes.now)) x (local_of g.around c.args.frames.now c.args.scopes.now)) (sym c.in_ok-awaits-in-Ok.ensures)
    (request_sent g.around s d (control_of g.around c.args.frames.now) (held_by g.around c.args.frames.now c.args.scopes.now) c.args.n (call_by f.1.node.codes.items.items f.0) c.args.method (pairs_of c.args.args.now) c.args.facts.now c.args.sending.now c.in-Some.number
    body f.2.named sees reaches count c.in_ok-request-in-Ok.request.value
    (subst (λ x. Answers sent_view (Ok x) (request_by c.args.method (pairs_of c.args.args.now) c.args.facts.now c.args.sending.now.routes c.in-Some.number)) (sym c.in_ok-request-in-Ok.ensures) c.in-Ok.ensures))

pub returns-in_ok-fails-in-Err-clause-moved : goal.returns-in_ok-fails-in-Err-clause-moved
returns-in_ok-fails-in-Err-clause-moved g c s d sees reaches agrees =
    let f = c.requires.1.1.0 in
    let body = ap part_body (as_part g.around.spots c.args.nodes.now c.args.n f.1.node (kind.Call f.0) c.requires.0.resolves f.1.at f.1.is) in
    let count : c.in-Some.number ≡ suc c.args.sending.now.calls = omega (arith, c.in-Some.ensures) in
    let h = c.in_ok-fails-in-Err.ensures in
    let t = h.error in
    c.done_of.ensures.moved g.around s (asks_with s (part_body (part_at g.around.spots c.args.n)) (pairs_of c.args.args.now) (control_of g.around c.args.frames.now) (beside d g.around c.args.frames.now c.args.scopes.now)) (local_of g.around c.args.frames.now c.args.scopes.now)
    (request_failed g.around s d (control_of g.around c.args.frames.now) (held_by g.around c.args.frames.now c.args.scopes.now) c.args.n (call_by f.1.node.codes.items.items f.0) c.args.method (pairs_of c.args.args.now) c.args.facts.now c.args.sending.now c.in-Some.number
    body f.2.named sees reaches count t.0 c.in_ok-fails-in-Err.field-0 (local_of g.around c.args.frames.now c.args.scopes.now)
    (subst (λ r. Answers sent_view (Err r) (request_by c.args.method (pairs_of c.args.args.now) c.args.facts.now c.args.sending.now.routes c.in-Some.number)) t.1 c.in-Err.ensures)
    (raised s (control_of g.around c.args.frames.now) d (held_by g.around c.args.frames.now c.args.scopes.now) (error_map t.0) c.in_ok-fails-in-Err.field-0 (h.raised t.0 t.1)))

pub returns-in_ok-fails-in-Err-clause-left : goal.returns-in_ok-fails-in-Err-clause-left
returns-in_ok-fails-in-Err-clause-left g c =
    let h = c.in_ok-fails-in-Err.ensures in
    let t = h.error in
    c.done_of.ensures.left c.args.nodes.now c.args.frames.now (raised_left c.args.nodes.now c.args.frames.now (error_map t.0) c.in_ok-fails-in-Err.field-0 (h.raised t.0 t.1))
