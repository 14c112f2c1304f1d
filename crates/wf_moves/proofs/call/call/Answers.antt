use Rattle.std.proofs.Common.{◌≡◌, Some, ap, sym, subst, ◌∙◌}
use Rattle.std.specs.Prelude.{Option, slice_get}
use Rattle.std.proofs.lemmas.Option.{slice_get-get_or}
use Rattle.wf_lemmas.proofs.Results.{with_ok}
use Rattle.wf_moves.proofs.Calling.{target_within}
use Rattle.wf_frames.specs.Owned.{beside, control_of, local_of}
use Rattle.wf_moves.proofs.Stepping.{flow_leads, function_leads, http_leads, log_leads, sleep_leads}
use Rattle.wf_moves.specs.Moved.{IsMove}
use Rattle.wf_moves.specs.Stepped.{leads_with}
use Rattle.wf_moves.specs.Tasks.{IsDone}
use Rattle.wf_model.specs.NodeKinds.{call_by}
use Rattle.wf_model.specs.Spots.{part_at, part_body}
use Rattle.wf_model.specs.declared.node.NodeKind.TheVariants as kind
use Rattle.wf_frames.proofs.Parts.{as_part}
use Rattle.wf_frames.specs.Built.{IsTarget}
use Rattle.wf_frames.specs.Steps.{asks_with, calls_by}
use Rattle.wf_value.specs.Data.{pairs_of}
use Rattle.wf_frames.specs.declared.target.Target.{Target}
use Rattle.wf_frames.specs.declared.target.Target.TheVariants as target
use Rattle.wf_moves.proofs.call.call.Goals as goal

pub bounds-targets-n : goal.bounds-targets-n
bounds-targets-n g c =
    let f = c.requires.1.1.1.0 in
    target_within g.around.flows g.around.spots c.args.targets.now c.args.n f.0.name (c.requires.1.0.calls c.args.n f.1.node f.0 f.1.at f.1.is)

pub call_flow-requires : goal.call_flow-requires
call_flow-requires g c =
    let f = c.requires.1.1.1.0 in
    let aim = c.requires.1.0.calls c.args.n f.1.node f.0 f.1.at f.1.is in
    let lt = target_within g.around.flows g.around.spots c.args.targets.now c.args.n f.0.name aim in
    let found : slice_get c.args.targets.now c.args.n ≡ Some (target.Flow c.in-Flow.flow) =
    slice_get-get_or c.args.targets.now c.args.n (target.Flow 0) lt ∙ ap (λ (t : Target). Some t) c.in-Flow.is in
    (c.requires.0, (c.requires.1.1.0, (f.0, f.1, subst (λ (o : Option Target). IsTarget g.around.flows g.around.spots o f.0.name) found aim)))

pub evaluates-requires : goal.evaluates-requires
evaluates-requires g c =
    let f = c.requires.1.1.1.0 in
    let aim = c.requires.1.0.calls c.args.n f.1.node f.0 f.1.at f.1.is in
    let lt = target_within g.around.flows g.around.spots c.args.targets.now c.args.n f.0.name aim in
    let found : slice_get c.args.targets.now c.args.n ≡ Some (target.Function c.in-Function.function) =
    slice_get-get_or c.args.targets.now c.args.n (target.Flow 0) lt ∙ ap (λ (t : Target). Some t) c.in-Function.is in
    (c.requires.0, (c.requires.1.1.0, (f.0, f.1, subst (λ (o : Option Target). IsTarget g.around.flows g.around.spots o f.0.name) found aim)))

pub sends-requires : goal.sends-requires
sends-requires g c =
    let f = c.requires.1.1.1.0 in
    let aim = c.requires.1.0.calls c.args.n f.1.node f.0 f.1.at f.1.is in
    let lt = target_within g.around.flows g.around.spots c.args.targets.now c.args.n f.0.name aim in
    let found : slice_get c.args.targets.now c.args.n ≡ Some (target.Http c.in-Http.method) =
    slice_get-get_or c.args.targets.now c.args.n (target.Flow 0) lt ∙ ap (λ (t : Target). Some t) c.in-Http.is in
    (c.requires.0, (c.requires.1.1.0, ((f.0, f.1, subst (λ (o : Option Target). IsTarget g.around.flows g.around.spots o f.0.name) found aim), c.requires.1.1.1.1)))

pub returns-in_ok-call_flow-in-Flow-clause-moved : goal.returns-in_ok-call_flow-in-Flow-clause-moved
returns-in_ok-call_flow-in-Flow-clause-moved g c s d sees reaches agrees =
    let f = c.requires.1.1.1.0 in
    let aim = c.requires.1.0.calls c.args.n f.1.node f.0 f.1.at f.1.is in
    let lt = target_within g.around.flows g.around.spots c.args.targets.now c.args.n f.0.name aim in
    let found : slice_get c.args.targets.now c.args.n ≡ Some (target.Flow c.in-Flow.flow) =
    slice_get-get_or c.args.targets.now c.args.n (target.Flow 0) lt ∙ ap (λ (t : Target). Some t) c.in-Flow.is in
    let so = subst (λ (o : Option Target). IsTarget g.around.flows g.around.spots o f.0.name) found aim in
    let body = ap part_body (as_part g.around.spots c.args.nodes.now c.args.n f.1.node (kind.Call f.0) c.requires.0.resolves f.1.at f.1.is) in
    let args = pairs_of c.args.args.now in
    let k = control_of g.around c.args.frames.now in
    let l = beside d g.around c.args.frames.now c.args.scopes.now in
    let m = local_of g.around c.call_flow.new.frames c.call_flow.new.scopes in
    let w = c.in_ok-call_flow-in-Flow.field-0 in
    c.done_of.ensures.moved g.around s (leads_with s (part_body (part_at g.around.spots c.args.n)) args k l) m
    (subst (λ y. IsMove s y w m) (sym (ap (λ b. leads_with s b args k l) body ∙ flow_leads s g.around.flows (call_by f.1.node.codes.items.items f.0) args k l agrees.2 g.around.spots c.in-Flow.flow so ∙ sym (ap (λ b. calls_by s b args k l) body)))
    (c.in_ok-call_flow-in-Flow.ensures.moved s d agrees))

pub returns-in_ok-evaluates-in-Function-clause-moved : goal.returns-in_ok-evaluates-in-Function-clause-moved
returns-in_ok-evaluates-in-Function-clause-moved g c s d sees reaches agrees =
    let f = c.requires.1.1.1.0 in
    let aim = c.requires.1.0.calls c.args.n f.1.node f.0 f.1.at f.1.is in
    let lt = target_within g.around.flows g.around.spots c.args.targets.now c.args.n f.0.name aim in
    let found : slice_get c.args.targets.now c.args.n ≡ Some (target.Function c.in-Function.function) =
    slice_get-get_or c.args.targets.now c.args.n (target.Flow 0) lt ∙ ap (λ (t : Target). Some t) c.in-Function.is in
    let so = subst (λ (o : Option Target). IsTarget g.around.flows g.around.spots o f.0.name) found aim in
    let body = ap part_body (as_part g.around.spots c.args.nodes.now c.args.n f.1.node (kind.Call f.0) c.requires.0.resolves f.1.at f.1.is) in
    let args = pairs_of c.args.args.now in
    let k = control_of g.around c.args.frames.now in
    let l = beside d g.around c.args.frames.now c.args.scopes.now in
    let m = local_of g.around c.evaluates.new.frames c.evaluates.new.scopes in
    let w = c.in_ok-evaluates-in-Function.field-0 in
    c.done_of-in-Function.ensures.moved g.around s (leads_with s (part_body (part_at g.around.spots c.args.n)) args k l) m
    (subst (λ y. IsMove s y w m) (sym (ap (λ b. leads_with s b args k l) body ∙ function_leads s g.around.flows (call_by f.1.node.codes.items.items f.0) args k l agrees.2 c.in-Function.function so ∙ sym (ap (λ b. calls_by s b args k l) body)))
    (c.in_ok-evaluates-in-Function.ensures.moved s d sees agrees))

pub returns-in-Http-clause-moved : goal.returns-in-Http-clause-moved
returns-in-Http-clause-moved g c =
    let f = c.requires.1.1.1.0 in
    let aim = c.requires.1.0.calls c.args.n f.1.node f.0 f.1.at f.1.is in
    let lt = target_within g.around.flows g.around.spots c.args.targets.now c.args.n f.0.name aim in
    let found : slice_get c.args.targets.now c.args.n ≡ Some (target.Http c.in-Http.method) =
    slice_get-get_or c.args.targets.now c.args.n (target.Flow 0) lt ∙ ap (λ (t : Target). Some t) c.in-Http.is in
    let so = subst (λ (o : Option Target). IsTarget g.around.flows g.around.spots o f.0.name) found aim in
    let body = ap part_body (as_part g.around.spots c.args.nodes.now c.args.n f.1.node (kind.Call f.0) c.requires.0.resolves f.1.at f.1.is) in
    let args = pairs_of c.args.args.now in
    let k = control_of g.around c.args.frames.now in
    with_ok _ _ c.sends.result
    (λ w h s d sees reaches agrees.
    let l = beside d g.around c.args.frames.now c.args.scopes.now in
    subst (λ y. IsDone g.around s y w (local_of g.around c.sends.new.frames c.sends.new.scopes))
    (sym (ap (λ b. leads_with s b args k l) body ∙ http_leads s g.around.flows (call_by f.1.node.codes.items.items f.0) args k l agrees.2 c.in-Http.method so ∙ sym (ap (λ b. asks_with s b args k l) body)))
    (h s d sees reaches agrees))
    c.sends.ensures.moved

pub sleeps-requires : goal.sleeps-requires
sleeps-requires g c =
    let f = c.requires.1.1.1.0 in
    let aim = c.requires.1.0.calls c.args.n f.1.node f.0 f.1.at f.1.is in
    let lt = target_within g.around.flows g.around.spots c.args.targets.now c.args.n f.0.name aim in
    let found : slice_get c.args.targets.now c.args.n ≡ Some (target.Sleeps c.in-Sleeps.nap) =
    slice_get-get_or c.args.targets.now c.args.n (target.Flow 0) lt ∙ ap (λ (t : Target). Some t) c.in-Sleeps.is in
    (c.requires.0, (c.requires.1.1.0, (f.0, f.1, subst (λ (o : Option Target). IsTarget g.around.flows g.around.spots o f.0.name) found aim)))

pub returns-in-Sleeps-clause-moved : goal.returns-in-Sleeps-clause-moved
returns-in-Sleeps-clause-moved g c =
    let f = c.requires.1.1.1.0 in
    let aim = c.requires.1.0.calls c.args.n f.1.node f.0 f.1.at f.1.is in
    let lt = target_within g.around.flows g.around.spots c.args.targets.now c.args.n f.0.name aim in
    let found : slice_get c.args.targets.now c.args.n ≡ Some (target.Sleeps c.in-Sleeps.nap) =
    slice_get-get_or c.args.targets.now c.args.n (target.Flow 0) lt ∙ ap (λ (t : Target). Some t) c.in-Sleeps.is in
    let so = subst (λ (o : Option Target). IsTarget g.around.flows g.around.spots o f.0.name) found aim in
    let body = ap part_body (as_part g.around.spots c.args.nodes.now c.args.n f.1.node (kind.Call f.0) c.requires.0.resolves f.1.at f.1.is) in
    let args = pairs_of c.args.args.now in
    let k = control_of g.around c.args.frames.now in
    with_ok _ _ c.sleeps.result
    (λ w h s d sees reaches agrees.
    let l = beside d g.around c.args.frames.now c.args.scopes.now in
    subst (λ y. IsDone g.around s y w (local_of g.around c.sleeps.new.frames c.sleeps.new.scopes))
    (sym (ap (λ b. leads_with s b args k l) body ∙ sleep_leads s g.around.flows (call_by f.1.node.codes.items.items f.0) args k l agrees.2 c.in-Sleeps.nap so ∙ sym (ap (λ b. calls_by s b args k l) body)))
    (h s d sees agrees))
    c.sleeps.ensures.moved

pub logs-requires : goal.logs-requires
logs-requires g c =
    let f = c.requires.1.1.1.0 in
    let aim = c.requires.1.0.calls c.args.n f.1.node f.0 f.1.at f.1.is in
    let lt = target_within g.around.flows g.around.spots c.args.targets.now c.args.n f.0.name aim in
    let found : slice_get c.args.targets.now c.args.n ≡ Some target.Log =
    slice_get-get_or c.args.targets.now c.args.n (target.Flow 0) lt ∙ ap (λ (t : Target). Some t) c.in-Log.is in
    (c.requires.0, (c.requires.1.1.0, ((f.0, f.1, subst (λ (o : Option Target). IsTarget g.around.flows g.around.spots o f.0.name) found aim), c.requires.1.1.1.1)))

pub returns-in-Log-clause-moved : goal.returns-in-Log-clause-moved
returns-in-Log-clause-moved g c =
    let f = c.requires.1.1.1.0 in
    let aim = c.requires.1.0.calls c.args.n f.1.node f.0 f.1.at f.1.is in
    let lt = target_within g.around.flows g.around.spots c.args.targets.now c.args.n f.0.name aim in
    let found : slice_get c.args.targets.now c.args.n ≡ Some target.Log =
    slice_get-get_or c.args.targets.now c.args.n (target.Flow 0) lt ∙ ap (λ (t : Target). Some t) c.in-Log.is in
    let so = subst (λ (o : Option Target). IsTarget g.around.flows g.around.spots o f.0.name) found aim in
    let body = ap part_body (as_part g.around.spots c.args.nodes.now c.args.n f.1.node (kind.Call f.0) c.requires.0.resolves f.1.at f.1.is) in
    let args = pairs_of c.args.args.now in
    let k = control_of g.around c.args.frames.now in
    with_ok _ _ c.logs.result
    (λ w h s d sees reaches agrees.
    let l = beside d g.around c.args.frames.now c.args.scopes.now in
    subst (λ y. IsDone g.around s y w (local_of g.around c.logs.new.frames c.logs.new.scopes))
    (sym (ap (λ b. leads_with s b args k l) body ∙ log_leads s g.around.flows (call_by f.1.node.codes.items.items f.0) args k l agrees.2 so ∙ sym (ap (λ b. calls_by s b args k l) body)))
    (h s d reaches agrees))
    c.logs.ensures.moved
