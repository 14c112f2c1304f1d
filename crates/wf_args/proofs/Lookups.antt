-- What is looked up in words is what their line has.
use Rattle.std.proofs.Common.{◌≡◌, ◌∙◌, ℕ, List, [], ◌∷◌, Option, Some, None, Ok, Err, ap, sym, arith}
use Rattle.std.specs.Option.{option_map_or}
use Rattle.wf_args.specs.declared.command.Command.{Command}
use Rattle.wf_args.specs.declared.option.OptionName.{OptionName}
use Rattle.wf_args.specs.Lines.{PlainLine, line_of, command_of, options_at, name_word, word_after, word_of}
use Rattle.wf_args.specs.Laws.{OptionsAreFound}
use Rattle.wf_args.proofs.Names.{found}
use Rattle.wf_args.proofs.Reading.{read_options}

found_by : (words : List (List ℕ)) (l : PlainLine) (n : OptionName) (o : Option Command) → option_map_or (λ c. options_at c 1 [] words) o (Err 0) ≡ Ok l → word_after (name_word n) words ≡ word_of n l
found_by words l n None is = absurd (grind (arith, is))
found_by words l n (Some c) is = found n words ∙ ap (word_of n) (sym (read_options c 1 [] words l is))

pub found_in_lines : OptionsAreFound
unfolding line_of
found_in_lines [] l n is = absurd (grind (arith, is))
found_in_lines (word ∷ words) l n is = found_by words l n (command_of word) is
