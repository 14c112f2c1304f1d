use Rattle.std.proofs.Common.{Some, refl, sym, ◌∙◌}
use Rattle.wf_syntax.proofs.Workflows.{default_fails, param_given}
use Rattle.wf_syntax.proofs.flows.param.Goals as goal
use Rattle.wf_value.specs.Plain.{plain}

pub returns-in_ok-owned-in-Ok : goal.returns-in_ok-owned-in-Ok
returns-in_ok-owned-in-Ok c =
    param_given _ _ _ (record { name = c.in_ok-owned-in-Ok.field-0; default = Some (plain c.in-Ok.default) }) (plain c.in-Ok.default) c.in-Some.ensures (sym c.is_name.ensures ∙ c.if-not-is_name.false) c.in-Ok.ensures c.in_ok-owned-in-Ok.ensures refl

pub returns-in-Err : goal.returns-in-Err
returns-in-Err c = default_fails _ _ _ c.in-Err.stop c.at_key.result c.in-Some.ensures (sym c.is_name.ensures ∙ c.if-not-is_name.false) c.in-Err.ensures c.at_key.ensures
