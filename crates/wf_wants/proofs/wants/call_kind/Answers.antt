use Rattle.std.proofs.Common.{◌≡◌, Some, length, refl, sym, ap, subst, ◌∙◌}
use Rattle.std.specs.Prelude.{◌||◌, Option, slice_get}
use Rattle.std.proofs.lemmas.Bool.{ltb-true}
use Rattle.std.proofs.lemmas.Option.{slice_get_read}
use Rattle.wf_model.specs.Kinds.{by_clock, is_now}
use Rattle.wf_frames.proofs.Clocked.{function_clock, http_asks, log_clock, nap_reads}
use Rattle.wf_wants.proofs.Nodes.{either_false, either_true}
use Rattle.wf_frames.specs.Built.{IsTarget}
use Rattle.wf_frames.specs.declared.target.Target.{Target}
use Rattle.wf_frames.specs.declared.target.Target.TheVariants as target
use Rattle.wf_wants.proofs.wants.call_kind.Goals as goal
use Rattle.wf_wants.proofs.wants.call_kind.Goals.{then-is_now, else-is_now}

pub returns-after-is_now : goal.returns-after-is_now
returns-after-is_now c fs ns x h =
    let g = c.in-Function.function in
    let found : slice_get c.args.targets.now c.args.n ≡ Some (target.Function g) =
    slice_get_read c.args.targets.now (length c.args.targets.now) c.args.n c.in-Some.target.now refl (ltb-true c.args.n (length c.args.targets.now) (sym c.in-Some.ensures.lookup.0)) c.in-Some.ensures.lookup.1 ∙ ap (λ (t : Target). Some t) c.in-Function.is in
    let value : c.if-is_now.by_clock ≡ (is_now g.func || c.args.clock) = elim c.if-is_now.branch [
      | then-is_now w ↦ either_true (is_now g.func) c.args.clock c.if-is_now.by_clock (sym c.is_now.ensures ∙ w.if-is_now.true) (w.by_clock-is ∙ w.if-is_now.true)
      | else-is_now w ↦ either_false (is_now g.func) c.args.clock c.if-is_now.by_clock (sym c.is_now.ensures ∙ w.if-is_now.false) w.by_clock-is
    ] in
    c.by_clock-in-Function.ensures ∙ ap by_clock value
    ∙ sym (function_clock fs g x c.args.clock (subst (λ (o : Option Target). IsTarget fs ns o x) found h))

pub returns-in-Http : goal.returns-in-Http
returns-in-Http c fs ns x h =
    let found : slice_get c.args.targets.now c.args.n ≡ Some (target.Http c.in-Http.field-0) =
    slice_get_read c.args.targets.now (length c.args.targets.now) c.args.n c.in-Some.target.now refl (ltb-true c.args.n (length c.args.targets.now) (sym c.in-Some.ensures.lookup.0)) c.in-Some.ensures.lookup.1 ∙ ap (λ (t : Target). Some t) c.in-Http.is in
    sym (http_asks fs c.in-Http.field-0 x c.args.clock (subst (λ (o : Option Target). IsTarget fs ns o x) found h))

pub returns-in-Sleeps : goal.returns-in-Sleeps
returns-in-Sleeps c fs ns x h =
    let found : slice_get c.args.targets.now c.args.n ≡ Some (target.Sleeps c.in-Sleeps.field-0) =
    slice_get_read c.args.targets.now (length c.args.targets.now) c.args.n c.in-Some.target.now refl (ltb-true c.args.n (length c.args.targets.now) (sym c.in-Some.ensures.lookup.0)) c.in-Some.ensures.lookup.1 ∙ ap (λ (t : Target). Some t) c.in-Sleeps.is in
    sym (nap_reads fs c.in-Sleeps.field-0 x c.args.clock (subst (λ (o : Option Target). IsTarget fs ns o x) found h))

pub returns-in-Log : goal.returns-in-Log
returns-in-Log c fs ns x h =
    let found : slice_get c.args.targets.now c.args.n ≡ Some target.Log =
    slice_get_read c.args.targets.now (length c.args.targets.now) c.args.n c.in-Some.target.now refl (ltb-true c.args.n (length c.args.targets.now) (sym c.in-Some.ensures.lookup.0)) c.in-Some.ensures.lookup.1 ∙ ap (λ (t : Target). Some t) c.in-Log.is in
    c.by_clock-in-Log.ensures ∙ sym (log_clock fs x c.args.clock (subst (λ (o : Option Target). IsTarget fs ns o x) found h))
