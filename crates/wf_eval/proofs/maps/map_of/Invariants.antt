use Rattle.std.proofs.Common.{◌≡◌, length}
use Rattle.wf_value.specs.Data.{no_pairs, pairs_of}
use Rattle.wf_eval.specs.Answers.{put_all}
use Rattle.wf_eval.proofs.maps.map_of.Given as goal

-- what is left is put into what is made
abbrev pub invariant-loop-key : goal.invariant-loop-key
invariant-loop-key l = put_all l.pairs.items (pairs_of l.made) ≡ put_all l.fn.pairs.items no_pairs

abbrev pub decreases-loop-key : goal.decreases-loop-key
decreases-loop-key l = length l.pairs.items
