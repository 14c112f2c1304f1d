use Rattle.std.proofs.Common.{◌∙◌}
use Rattle.wf_syntax_words.proofs.Digits.{parsed_is}
use Rattle.wf_syntax_words.proofs.numbers.parsed.Goals as goal

pub returns : goal.returns
returns c = c.ok.ensures.value ∙ parsed_is c.args.digits.now c.parse.result c.requires c.parse.ensures.value.0
