use Rattle.std.proofs.Common.{None, refl, sym, ◌∙◌}
use Rattle.wf_syntax.proofs.Workflows.{bare_given}
use Rattle.wf_syntax.proofs.flows.bare_param.Goals as goal

pub returns-in_ok-owned : goal.returns-in_ok-owned
returns-in_ok-owned c = bare_given c.args.name.now (record { name = c.in_ok-owned.field-0; default = None }) (sym c.is_name.ensures ∙ c.if-is_name.true) c.in_ok-owned.ensures refl
