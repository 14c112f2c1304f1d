use Rattle.std.proofs.Common.{None, Some, ap, sym, ◌∙◌, arith}
use Rattle.std.proofs.lemmas.Str.Pattern.{strip_suffix_char}
use Rattle.wf_span.proofs.Ends.{return_kept, return_cut}
use Rattle.wf_span.specs.Lines.{without_return}
use Rattle.wf_span.proofs.walk.without_return.Goals as goal

pub returns-in-None-clause-value : goal.returns-in-None-clause-value
returns-in-None-clause-value c = return_kept c.args.text.now (strip_suffix_char 13 c.args.text.now None c.in-None.ensures.cases (omega arith))

pub returns-in-Some-clause-value : goal.returns-in-Some-clause-value
returns-in-Some-clause-value c = sym (return_cut c.in-Some.front.now) ∙ ap without_return (sym (strip_suffix_char 13 c.args.text.now (Some c.in-Some.front) c.in-Some.ensures.cases (omega arith)))
