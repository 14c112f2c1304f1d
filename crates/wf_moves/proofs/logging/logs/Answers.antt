use Rattle.std.proofs.Common.{Ok, Err, ap, subst, sym}
use Rattle.wf_eval.specs.Answers.{Answers}
use Rattle.wf_frames.specs.Owned.{beside, control_of, held_by, local_of}
use Rattle.wf_model.specs.Calls.{log_entry}
use Rattle.wf_moves.proofs.LogCalls.{entry_logged, log_failed}
use Rattle.wf_moves.proofs.Raised.{raised, raised_left}
use Rattle.wf_sys_ask.specs.Logs.{logged_view, within_log}
use Rattle.wf_model.specs.NodeKinds.{call_by}
use Rattle.wf_model.specs.Spots.{part_at, part_body}
use Rattle.wf_frames.specs.Steps.{calls_by}
use Rattle.wf_moves.specs.Tasks.{IsAwaited}
use Rattle.wf_model.specs.declared.node.NodeKind.TheVariants as kind
use Rattle.wf_frames.proofs.Parts.{as_part}
use Rattle.wf_frames.specs.Built.{IsLog}
use Rattle.wf_value.specs.Data.{pairs_of}
use Rattle.wf_value.specs.Errors.{◌>>=◌, error_map}
use Rattle.wf_moves.proofs.logging.logs.Goals as goal

pub give-requires : goal.give-requires
give-requires g c =
    let f = c.requires.1.1.0 in
    (c.requires.0, (c.requires.1.0, (f.0, f.1)))

pub returns-in_ok-awaits-in-Ok-clause-moved : goal.returns-in_ok-awaits-in-Ok-clause-moved
returns-in_ok-awaits-in-Ok-clause-moved g c s d reaches agrees =
    let f = c.requires.1.1.0 in
    let body = ap part_body (as_part g.around.spots c.args.nodes.now c.args.n f.1.node (kind.Call f.0) c.requires.0.resolves f.1.at f.1.is) in
    let l = local_of g.around c.give.new.frames c.give.new.scopes in
    subst (λ x. IsAwaited g.around s (calls_by s (part_body (part_at g.around.spots c.args.n)) (pairs_of c.args.args.now) (control_of g.around c.args.frames.now) (beside d g.around c.args.frames.now c.args.scopes.now)) x l) (sym c.in_ok-awaits-in-Ok.ensures)
    (entry_logged g.around s d (control_of g.around c.args.frames.now) (held_by g.around c.args.frames.now c.args.scopes.now) c.args.n (call_by f.1.node.codes.items.items f.0) (pairs_of c.args.args.now) c.args.sending.now
    body c.requires.1.1.1 (subst (λ fs. IsLog fs f.0.name) (sym agrees.2) f.2) reaches c.in_ok-entry-in-Ok.entry.value c.in_ok-went-in-Ok.went (local_of g.around c.give.new.frames c.give.new.scopes)
    (subst (λ x. Answers logged_view (Ok x) (log_entry (pairs_of c.args.args.now) >>= within_log c.args.sending.now.logged)) (sym c.in_ok-entry-in-Ok.ensures) c.in-Ok.ensures) (c.in_ok-went-in-Ok.ensures.moved s d agrees))

pub returns-in_ok-fails-in-Err-clause-moved : goal.returns-in_ok-fails-in-Err-clause-moved
returns-in_ok-fails-in-Err-clause-moved g c s d reaches agrees =
    let f = c.requires.1.1.0 in
    let body = ap part_body (as_part g.around.spots c.args.nodes.now c.args.n f.1.node (kind.Call f.0) c.requires.0.resolves f.1.at f.1.is) in
    let k = control_of g.around c.args.frames.now in
    let held = held_by g.around c.args.frames.now c.args.scopes.now in
    let h = c.in_ok-fails-in-Err.ensures in
    let t = h.error in
    c.done_of.ensures.moved g.around s (calls_by s (part_body (part_at g.around.spots c.args.n)) (pairs_of c.args.args.now) k (beside d g.around c.args.frames.now c.args.scopes.now)) (local_of g.around c.args.frames.now c.args.scopes.now)
    (log_failed g.around s d k held c.args.n (call_by f.1.node.codes.items.items f.0) (pairs_of c.args.args.now) c.args.sending.now
    body c.requires.1.1.1 (subst (λ fs. IsLog fs f.0.name) (sym agrees.2) f.2) reaches t.0 c.in_ok-fails-in-Err.field-0 (local_of g.around c.args.frames.now c.args.scopes.now)
    (subst (λ r. Answers logged_view (Err r) (log_entry (pairs_of c.args.args.now) >>= within_log c.args.sending.now.logged)) t.1 c.in-Err.ensures)
    (raised s k d held (error_map t.0) c.in_ok-fails-in-Err.field-0 (h.raised t.0 t.1)))

pub returns-in_ok-fails-in-Err-clause-left : goal.returns-in_ok-fails-in-Err-clause-left
returns-in_ok-fails-in-Err-clause-left g c =
    let h = c.in_ok-fails-in-Err.ensures in
    let t = h.error in
    c.done_of.ensures.left c.args.nodes.now c.args.frames.now (raised_left c.args.nodes.now c.args.frames.now (error_map t.0) c.in_ok-fails-in-Err.field-0 (h.raised t.0 t.1))
