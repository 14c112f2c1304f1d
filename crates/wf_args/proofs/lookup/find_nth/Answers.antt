use Rattle.std.proofs.Common.{sym, ◌∙◌}
use Rattle.wf_args.specs.Lines.{name_word}
use Rattle.wf_args.proofs.Routes.{no_words_after}
use Rattle.wf_args.proofs.lookup.find_nth.Goals as goal

pub returns : goal.returns
returns c = no_words_after (name_word c.args.name) c.loop-rest.rest.now c.loop-rest.before c.in_default.len_below ∙ sym c.loop-rest.invariant
