use Rattle.std.proofs.Common.{◌≡◌, drop}
use Rattle.wf_tree.specs.Trees.{pairs_of}
use Rattle.wf_syntax_words.proofs.Pairs.{has_those}
use Rattle.wf_syntax_words.proofs.fields.has_all.Given as goal

-- the keys so far are there
abbrev pub invariant-loop-key : goal.invariant-loop-key
invariant-loop-key l = has_those (pairs_of l.fields) l.keys ≡ has_those (pairs_of l.fields) (drop l.key-index l.keys)
