use Rattle.std.proofs.Common.{[], ◌∙◌}
use Rattle.wf_args.specs.declared.option.OptionName.TheVariants.{Id}
use Rattle.wf_args.specs.Lines.{words_view, word_after, name_word}
use Rattle.wf_args.proofs.Names.{found}
use Rattle.wf_args.proofs.Reading.{words_fit, copied_fits}
use Rattle.wf_args.proofs.line.Line.id.Goals as goal

pub returns-clause-word : goal.returns-clause-word
returns-clause-word c = c.find_in.ensures ∙ found Id (words_view c.args.self.now.options.now)

pub returns-clause-proper : goal.returns-clause-proper
returns-clause-proper c =
    copied_fits c.find_in.result (word_after (name_word Id) (words_view c.args.self.now.options.now)) Id c.find_in.ensures
    (words_fit c.args.self.now.command 1 [] (words_view c.args.self.now.options.now) Id c.args.self.now.reads)
