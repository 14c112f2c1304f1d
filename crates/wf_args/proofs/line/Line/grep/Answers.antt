use Rattle.std.proofs.Common.{◌∙◌}
use Rattle.wf_args.specs.declared.option.OptionName.TheVariants.{Grep}
use Rattle.wf_args.specs.Lines.{words_view}
use Rattle.wf_args.proofs.Names.{found}
use Rattle.wf_args.proofs.line.Line.grep.Goals as goal

pub returns : goal.returns
returns c = c.find_in.ensures ∙ found Grep (words_view c.args.self.now.options.now)
