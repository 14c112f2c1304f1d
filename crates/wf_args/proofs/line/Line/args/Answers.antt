use Rattle.std.proofs.Common.{◌∙◌}
use Rattle.wf_args.specs.declared.option.OptionName.TheVariants.{Args}
use Rattle.wf_args.specs.Lines.{words_view}
use Rattle.wf_args.proofs.Names.{found}
use Rattle.wf_args.proofs.line.Line.args.Goals as goal

pub returns : goal.returns
returns c = c.find_in.ensures ∙ found Args (words_view c.args.self.now.options.now)
