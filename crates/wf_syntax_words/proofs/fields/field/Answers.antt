use Rattle.std.proofs.Common.{◌∙◌}
use Rattle.wf_syntax_words.proofs.Pairs.{value_at_is}
use Rattle.wf_syntax_words.proofs.fields.field.Goals as goal

pub returns : goal.returns
returns c = c.get.ensures.value ∙ value_at_is c.args.key.now c.args.fields.now
