use Rattle.std.proofs.Common.{◌-◌, length}
use Rattle.wf_http_ask.specs.Asking.{text_in}
use Rattle.wf_http_ask.proofs.Texts.{SoFar}
use Rattle.wf_http_ask.proofs.pairs.texts_of.Given as goal

-- the pairs so far stand before those of what is left
abbrev pub invariant-loop-key : goal.invariant-loop-key
invariant-loop-key l = SoFar (text_in l.place) l.map l.pairs

abbrev pub decreases-loop-key : goal.decreases-loop-key
decreases-loop-key l = length l.map - length l.pairs
