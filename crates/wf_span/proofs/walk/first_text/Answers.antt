use Rattle.std.proofs.Common.{◌+◌, length, List, ℕ, None, Some, sym, arith, subst}
use Rattle.std.proofs.lemmas.Str.Pattern.{split_once_first}
use Rattle.wf_span.proofs.Parts.{first_of_more, first_of_one}
use Rattle.wf_span.specs.Lines.{IsFirstText}
use Rattle.wf_span.proofs.walk.first_text.Goals as goal

pub returns-in-Some-clause-lines : goal.returns-in-Some-clause-lines
returns-in-Some-clause-lines c =
    let h = split_once_first 10 c.args.source.now (Some (c.in-Some.text, c.in-Some.rest)) c.in-Some.ensures.cases (omega arith) in
    subst (λ (x : List ℕ). IsFirstText c.args.source.now x c.in-Some.rest.now (length c.in-Some.text.now + 1)) (sym c.without_return.ensures.value) (first_of_more c.args.source.now c.in-Some.text.now c.in-Some.rest.now h.0 h.1 h.2)

pub returns-in-None-clause-lines : goal.returns-in-None-clause-lines
returns-in-None-clause-lines c = first_of_one c.args.source.now c.requires (split_once_first 10 c.args.source.now None c.in-None.ensures.cases (omega arith))
