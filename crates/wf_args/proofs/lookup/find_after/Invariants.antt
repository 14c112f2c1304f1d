use Rattle.std.proofs.Common.{◌≡◌, length}
use Rattle.wf_args.specs.Lines.{words_view, word_after}
use Rattle.wf_args.proofs.lookup.find_after.Given as goal

abbrev pub invariant-loop-rest : goal.invariant-loop-rest
invariant-loop-rest l = word_after l.name (words_view l.options) ≡ word_after l.name (words_view l.rest)

abbrev pub decreases-loop-rest : goal.decreases-loop-rest
decreases-loop-rest l = length l.rest
