use Rattle.std.proofs.Common.{Some, sym, ap, ◌∙◌}
use Rattle.wf_frames.proofs.Given.{value_default, value_given, value_lacks}
use Rattle.wf_value.specs.Plain.{plain}
use Rattle.wf_value.specs.declared.Value.{Value}
use Rattle.wf_frames.proofs.bindings.value_for.Goals as goal

pub returns-in-Some : goal.returns-in-Some
returns-in-Some c =
    ap (λ (v : Value). Some (plain v)) c.in_ok-copy.ensures ∙ value_given c.args.param.now c.args.args.now c.as_str.result.now c.as_str.ensures (plain c.in-Some.value.now) (sym c.in-Some.ensures.value)

pub returns-in_ok-copy-in-Some-default : goal.returns-in_ok-copy-in-Some-default
returns-in_ok-copy-in-Some-default c =
    ap (λ (v : Value). Some (plain v)) c.in_ok-copy-in-Some-default.ensures ∙ value_default c.args.param.now c.args.args.now c.as_str.result.now c.as_str.ensures c.in-Some-default.value (sym c.in_default.ensures.value) c.in-Some-default.is

pub returns-in-None : goal.returns-in-None
returns-in-None c = value_lacks c.args.param.now c.args.args.now c.as_str.result.now c.as_str.ensures (sym c.in_default.ensures.value) c.in-None.is
