use Rattle.std.proofs.Common.{None, Some, sym, arith, take_all}
use Rattle.std.proofs.lemmas.Str.Pattern.{split_once_first}
use Rattle.wf_value.proofs.media_type.before_semicolon.Goals as goal

pub returns-in-Some : goal.returns-in-Some
returns-in-Some c = (split_once_first 59 c.args.value.now (Some c.in-Some.parts) c.in-Some.ensures.cases (omega arith)).1

pub returns-in-None : goal.returns-in-None
returns-in-None c =
    let end = split_once_first 59 c.args.value.now None c.in-None.ensures.cases (omega arith) in
    sym (take_all _ c.args.value.now (omega (arith, end)))
