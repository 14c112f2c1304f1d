use Rattle.std.proofs.Common.{◌∙◌}
use Rattle.wf_args.specs.declared.option.OptionName.TheVariants.{Journal}
use Rattle.wf_args.specs.Lines.{words_view}
use Rattle.wf_args.proofs.Lookups.{found_in_lines}
use Rattle.wf_args.proofs.lookup.journal_of.Goals as goal

pub returns-clause-line : goal.returns-clause-line
returns-clause-line c l is = c.find_behind.ensures ∙ found_in_lines (words_view c.args.words.now) l Journal is
