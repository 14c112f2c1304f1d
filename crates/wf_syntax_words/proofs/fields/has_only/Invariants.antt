use Rattle.std.proofs.Common.{◌≡◌, ◌++◌, drop, map}
use Rattle.wf_syntax_words.proofs.Pairs.{only_those}
use Rattle.wf_syntax_words.proofs.fields.has_only.Given as goal

-- the keys so far are of the lists
abbrev pub invariant-loop-pair : goal.invariant-loop-pair
invariant-loop-pair l =
    only_those (map (λ k. k.now) l.some ++ map (λ k. k.now) l.others) l.pair-items ≡ only_those (map (λ k. k.now) l.some ++ map (λ k. k.now) l.others) (drop l.pair-index l.pair-items)
