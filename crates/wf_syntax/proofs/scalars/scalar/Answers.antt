use Rattle.std.proofs.Common.{rules, w64, FitsSigned}
use Rattle.std.proofs.lemmas.Int.{to_z-of_z}
use Rattle.wf_syntax.proofs.Valued.{null_gives, bool_gives, int_gives}
use Rattle.wf_syntax.proofs.scalars.scalar.Goals as goal

pub returns-in-Null : goal.returns-in-Null
returns-in-Null c = null_gives c.args.tree.now c.in-Null.is

pub returns-in-Bool : goal.returns-in-Bool
returns-in-Bool c = bool_gives c.args.tree.now c.in-Bool.b c.in-Bool.is

pub returns-in-Int : goal.returns-in-Int
returns-in-Int c =
    let fits : FitsSigned w64 c.in-Int.n = search rules in
    int_gives c.args.tree.now c.in-Int.n _ c.in-Int.is (to_z-of_z w64 c.in-Int.n fits)
