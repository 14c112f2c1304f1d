use Rattle.std.proofs.Common.{◌∙◌}
use Rattle.wf_syntax_words.proofs.Pairs.{empty_is}
use Rattle.wf_syntax_words.proofs.fields.is_empty.Goals as goal

pub returns : goal.returns
returns c = c.is_empty.ensures ∙ empty_is c.pairs.result.now c.args.fields.now c.pairs.ensures.pairs
