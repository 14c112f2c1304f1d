use Rattle.std.proofs.Common.{◌≡◌, map, drop}
use Rattle.wf_value.specs.HttpRequest.{is_among as among}
use Rattle.wf_syntax_words.proofs.names.is_among.Given as goal

-- what is left has the text, if any word is
abbrev pub invariant-loop-word : goal.invariant-loop-word
invariant-loop-word l = among l.text (map (λ w. w.now) l.words) ≡ among l.text (map (λ w. w.now) (drop l.word-index l.words))
