use Rattle.std.proofs.Common.{arith}
use Rattle.std.proofs.lemmas.Grind.{common_steps}
use Rattle.wf_yaml_write.proofs.Escapes.{own_escape}
use Rattle.wf_yaml_write.proofs.texts.push_escaped.Goals as goal

pub returns-in_default : goal.returns-in_default
returns-in_default c =
    let own = own_escape c.args.c (record { quote = λ e. omega arith; backslash = λ e. omega arith; control = omega arith; delete = λ e. omega arith }) in
    grind (arith, common_steps)
