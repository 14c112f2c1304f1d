use Rattle.std.proofs.Common.{ℕ, List, ◌<◌, arith, length, get_or, drop, sym, ap, ◌∙◌, subst, refl}
use Rattle.std.specs.Prelude.{IfOk}
use Rattle.wf_lemmas.proofs.Results.{with_ok}
use Rattle.wf_ast.specs.Tree.{Body}
use Rattle.wf_eval.specs.Sight.{seen}
use Rattle.wf_frames.specs.Fits.{reach}
use Rattle.wf_frames.specs.Frames.{control, inner}
use Rattle.wf_frames.proofs.Fitting.{block_fits, entries_fits, entry_ready}
use Rattle.wf_frames.proofs.Parts.{as_part, node_at}
use Rattle.wf_frames.proofs.Performed.{nothing_done, default_body, loop_body, none_left, one_left, block_put, none_assigned, first_assigned, performs_return, performs_raise}
use Rattle.wf_frames.proofs.Asking.{comes_so, ready_so}
use Rattle.wf_frames.specs.Steps.{Performs, ReturnsValue, RaisesValue, forks_by}
use Rattle.wf_frames.specs.declared.step.Leads.TheVariants as leads
use Rattle.wf_model.specs.Move.{performs}
use Rattle.wf_model.specs.NodeKinds.{kind_by}
use Rattle.wf_model.specs.Shapes.{shape_by}
use Rattle.wf_model.specs.Spots.{arms_by, entries_by, steps_by, owners_at, part_at, part_body}
use Rattle.wf_model.specs.Table.{ArmsStandIn, PartsStand}
use Rattle.wf_model.specs.declared.node.NodeKind.TheVariants as kind
use Rattle.wf_frames.proofs.step.perform_plain.Goals as goal

pub switch-requires : goal.switch-requires
switch-requires g c κs within =
    let there = node_at c.args.nodes.now c.args.n c.index-nodes-n.result c.requires.1.1.0 c.index-nodes-n.is in
    let x = c.index-nodes-n.result in
    let stand = subst (λ k. PartsStand g.ns (length c.args.nodes.now) (owners_at g.ns c.args.n) (kind_by x.codes.items.items k)) c.in-Switch.is (c.requires.1.0.resolves.each c.args.n x there).parts in
    let here = subst (λ (os : List ℕ). ArmsStandIn g.ns (length c.args.nodes.now) os c.in-Switch.arms.items) c.requires.1.1.1.1.1 stand in
    (within, (c.requires.1.0, (subst (ArmsStandIn g.ns (length c.args.nodes.now) (reach (inner c.args.frames.now))) (sym c.as_slice-in-Switch.ensures.value) here, (c.requires.1.1.1.1.0, refl))))

pub returns-in-empty-clause-performed : goal.returns-in-empty-clause-performed
returns-in-empty-clause-performed g c =
    let v = seen (g.K.Look.sight c.args.look.now) c.args.now in
    let x = c.index-nodes-n.result in
    let there = node_at c.args.nodes.now c.args.n x c.requires.1.1.0 c.index-nodes-n.is in
    let part = as_part g.ns c.args.nodes.now c.args.n x (kind.Assign c.in-Assign.entries) c.requires.1.0.resolves there c.in-Assign.is in
    let none = sym c.as_slice.ensures.value ∙ none_left c.as_slice.result.now c.in-empty.len_below in
    none_assigned g.ns v (inner c.args.frames.now) c.args.n (ap part_body part ∙ ap (λ xs. Body.Assign (entries_by g.ns xs)) none)

pub returns-in_ok-push-in-len1-up-clause-performed : goal.returns-in_ok-push-in-len1-up-clause-performed
returns-in_ok-push-in-len1-up-clause-performed g c =
    let v = seen (g.K.Look.sight c.args.look.now) c.args.now in
    let x = c.index-nodes-n.result in
    let there = node_at c.args.nodes.now c.args.n x c.requires.1.1.0 c.index-nodes-n.is in
    let part = as_part g.ns c.args.nodes.now c.args.n x (kind.Assign c.in-Assign.entries) c.requires.1.0.resolves there c.in-Assign.is in
    let one = sym c.as_slice.ensures.value ∙ one_left c.as_slice.result.now c.in-len1-up.len_at_least in
    first_assigned g.ns v (inner c.args.frames.now) (inner c.push.new.self) c.args.n (get_or c.as_slice.result.now 0 0) (drop 1 c.as_slice.result.now) (ap part_body part ∙ ap (λ xs. Body.Assign (entries_by g.ns xs)) one) c.in_ok-push-in-len1-up.ensures.pushed

pub returns-in-Switch-clause-performed : goal.returns-in-Switch-clause-performed
returns-in-Switch-clause-performed g c =
    let v = seen (g.K.Look.sight c.args.look.now) c.args.now in
    let x = c.index-nodes-n.result in
    let there = node_at c.args.nodes.now c.args.n x c.requires.1.1.0 c.index-nodes-n.is in
    let part = as_part g.ns c.args.nodes.now c.args.n x (kind.Switch c.in-Switch.arms) c.requires.1.0.resolves there c.in-Switch.is in
    let body = ap part_body part ∙ ap (λ xs. Body.Switch (arms_by g.ns xs)) (sym c.as_slice-in-Switch.ensures.value) in
    subst (λ b. IfOk c.switch.result (Performs g.ns b v (inner c.args.frames.now) (inner c.switch.new.frames))) (sym body) c.switch.ensures.performed

pub returns-in-For-clause-performed : goal.returns-in-For-clause-performed
returns-in-For-clause-performed g c =
    let x = c.index-nodes-n.result in
    let there = node_at c.args.nodes.now c.args.n x c.requires.1.1.0 c.index-nodes-n.is in
    let part = as_part g.ns c.args.nodes.now c.args.n x (kind.For c.in-For.body) c.requires.1.0.resolves there c.in-For.is in
    c.begin_loop.ensures.begun c.in-For.body.value c.in-For.body.index (steps_by g.ns c.in-For.body.block.steps.items) (ap part_body part ∙ ap (λ cs. loop_body g.ns cs c.in-For.body) (sym c.items-codes.ensures))

pub returns-in-For-clause-fits : goal.returns-in-For-clause-fits
returns-in-For-clause-fits g c =
    let x = c.index-nodes-n.result in
    let there = node_at c.args.nodes.now c.args.n x c.requires.1.1.0 c.index-nodes-n.is in
    c.begin_loop.ensures.fits c.args.nodes.now c.in-For.body (record { node = x; at = there; is = c.in-For.is }) c.requires.1.1.1.1.0

pub returns-in_ok-push-in-Block-clause-performed : goal.returns-in_ok-push-in-Block-clause-performed
returns-in_ok-push-in-Block-clause-performed g c =
    let v = seen (g.K.Look.sight c.args.look.now) c.args.now in
    let x = c.index-nodes-n.result in
    let there = node_at c.args.nodes.now c.args.n x c.requires.1.1.0 c.index-nodes-n.is in
    let part = as_part g.ns c.args.nodes.now c.args.n x (kind.Block c.in-Block.field-0) c.requires.1.0.resolves there c.in-Block.is in
    block_put g.ns v (inner c.args.frames.now) (inner c.push-in-Block.new.self) c.args.n x.name (steps_by g.ns c.in-Block.field-0.steps.items) x.next part c.in_ok-push-in-Block.ensures.pushed

pub returns-in_ok-push-in-Block-clause-fits : goal.returns-in_ok-push-in-Block-clause-fits
returns-in_ok-push-in-Block-clause-fits g c =
    let x = c.index-nodes-n.result in
    let there = node_at c.args.nodes.now c.args.n x c.requires.1.1.0 c.index-nodes-n.is in
    block_fits g.ns c.args.nodes.now c.args.n x (inner c.args.frames.now) (inner c.push-in-Block.new.self) there c.requires.1.1.1.1.0 c.in-Block.field-0 c.in-Block.is c.requires.1.1.1.1.1 c.in_ok-push-in-Block.ensures.pushed

pub returns-in_ok-push-in-len1-up-clause-fits : goal.returns-in_ok-push-in-len1-up-clause-fits
returns-in_ok-push-in-len1-up-clause-fits g c =
    let x = c.index-nodes-n.result in
    let there = node_at c.args.nodes.now c.args.n x c.requires.1.1.0 c.index-nodes-n.is in
    entries_fits g.ns c.args.nodes.now c.args.n x (inner c.args.frames.now) (inner c.push.new.self) there c.requires.1.1.1.1.0 c.in-Assign.entries c.in-Assign.is (omega (arith, ap (λ xs. length xs) c.as_slice.ensures.value, c.in-len1-up.len_at_least)) c.in_ok-push-in-len1-up.ensures.pushed

pub returns-in_ok-push-in-len1-up-clause-ready : goal.returns-in_ok-push-in-len1-up-clause-ready
returns-in_ok-push-in-len1-up-clause-ready g c =
    let x = c.index-nodes-n.result in
    let there = node_at c.args.nodes.now c.args.n x c.requires.1.1.0 c.index-nodes-n.is in
    subst (λ xs. get_or xs 0 0 < length c.args.nodes.now) (sym c.as_slice.ensures.value)
    (entry_ready g.ns c.args.nodes.now c.args.n x c.in-Assign.entries c.requires.1.0.resolves there c.in-Assign.is (omega (arith, ap (λ xs. length xs) c.as_slice.ensures.value, c.in-len1-up.len_at_least)))

pub returns-in-Raise-clause-performed : goal.returns-in-Raise-clause-performed
returns-in-Raise-clause-performed g c =
    let v = seen (g.K.Look.sight c.args.look.now) c.args.now in
    let x = c.index-nodes-n.result in
    let there = node_at c.args.nodes.now c.args.n x c.requires.1.1.0 c.index-nodes-n.is in
    let part = as_part g.ns c.args.nodes.now c.args.n x (kind.Raise c.in-Raise.shape) c.requires.1.0.resolves there c.in-Raise.is in
    with_ok (RaisesValue (shape_by c.items-codes.result.now c.in-Raise.shape) v) (Performs g.ns (part_body (part_at g.ns c.args.n)) v (inner c.args.frames.now) (inner c.args.frames.now)) c.raises.result
    (λ st h. performs_raise g.ns c.args.n (shape_by c.items-codes.result.now c.in-Raise.shape) v (inner c.args.frames.now) st (ap part_body part ∙ ap (λ cs. Body.Raise (shape_by cs c.in-Raise.shape)) (sym c.items-codes.ensures)) h) c.raises.ensures.value

pub returns-in-Return-clause-performed : goal.returns-in-Return-clause-performed
returns-in-Return-clause-performed g c =
    let v = seen (g.K.Look.sight c.args.look.now) c.args.now in
    let x = c.index-nodes-n.result in
    let there = node_at c.args.nodes.now c.args.n x c.requires.1.1.0 c.index-nodes-n.is in
    let part = as_part g.ns c.args.nodes.now c.args.n x (kind.Return c.in-Return.shape) c.requires.1.0.resolves there c.in-Return.is in
    with_ok (ReturnsValue (shape_by c.items-codes.result.now c.in-Return.shape) v) (Performs g.ns (part_body (part_at g.ns c.args.n)) v (inner c.args.frames.now) (inner c.args.frames.now)) c.returns.result
    (λ st h. performs_return g.ns c.args.n (shape_by c.items-codes.result.now c.in-Return.shape) v (inner c.args.frames.now) st (ap part_body part ∙ ap (λ cs. Body.Return (shape_by cs c.in-Return.shape)) (sym c.items-codes.ensures)) h) c.returns.ensures.value

pub returns-in_default-clause-performed : goal.returns-in_default-clause-performed
returns-in_default-clause-performed g c =
    let v = seen (g.K.Look.sight c.args.look.now) c.args.now in
    let x = c.index-nodes-n.result in
    let there = node_at c.args.nodes.now c.args.n x c.requires.1.1.0 c.index-nodes-n.is in
    let n = c.in_default in
    nothing_done g.ns v (inner c.args.frames.now) c.args.n (ap part_body (c.requires.1.0.resolves.each c.args.n x there).part ∙ default_body g.ns x.codes.items.items x.name x.next x.kind n.not-Assign n.not-Switch n.not-For n.not-Block n.not-Raise n.not-Return (λ f is. c.requires.1.1.1.0 f (record { node = x; at = there; is = is })) n.not-Parallel n.not-Try)

pub enter_try-requires : goal.enter_try-requires
enter_try-requires g c =
    let x = c.index-nodes-n.result in
    let there = node_at c.args.nodes.now c.args.n x c.requires.1.1.0 c.index-nodes-n.is in
    (c.requires.1.0, (record { node = x; at = there; is = c.in-Try.is }, (c.requires.1.1.1.1.0, c.requires.1.1.1.1.1)))

pub returns-in-Parallel-clause-performed : goal.returns-in-Parallel-clause-performed
returns-in-Parallel-clause-performed g c =
    let v = seen (g.K.Look.sight c.args.look.now) c.args.now in
    let x = c.index-nodes-n.result in
    let there = node_at c.args.nodes.now c.args.n x c.requires.1.1.0 c.index-nodes-n.is in
    let p = c.in-Parallel.field-0 in
    let body = ap part_body (as_part g.ns c.args.nodes.now c.args.n x (kind.Parallel p) c.requires.1.0.resolves there c.in-Parallel.is) in
    with_ok _ _ c.lead.result
    (λ st so s l same. ap (λ b. performs s b (control g.ns (inner c.args.frames.now)) l) body
    ∙ sym (comes_so g.ns s (control g.ns (inner c.args.frames.now)) l (leads.Forks c.args.n) st so ∙ ap (λ b. forks_by s b (control g.ns (inner c.args.frames.now)) l) body))
    c.lead.ensures

pub returns-in-Parallel-clause-ready : goal.returns-in-Parallel-clause-ready
returns-in-Parallel-clause-ready g c =
    let x = c.index-nodes-n.result in
    let there = node_at c.args.nodes.now c.args.n x c.requires.1.1.0 c.index-nodes-n.is in
    with_ok _ _ c.lead.result
    (λ st so. ready_so g.ns c.args.nodes.now (inner c.args.frames.now) (leads.Forks c.args.n) st so (c.in-Parallel.field-0, record { node = x; at = there; is = c.in-Parallel.is }))
    c.lead.ensures
