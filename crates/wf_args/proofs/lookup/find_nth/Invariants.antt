use Rattle.std.proofs.Common.{◌≡◌, length}
use Rattle.std.specs.Prelude.{slice_get}
use Rattle.wf_args.specs.Lines.{name_word, words_view, words_after}
use Rattle.wf_args.proofs.lookup.find_nth.Given as goal

abbrev pub invariant-loop-rest : goal.invariant-loop-rest
invariant-loop-rest l =
    slice_get (words_after (name_word l.name) (words_view l.options)) l.index ≡ slice_get (words_after (name_word l.name) (words_view l.rest)) l.before

abbrev pub decreases-loop-rest : goal.decreases-loop-rest
decreases-loop-rest l = length l.rest
