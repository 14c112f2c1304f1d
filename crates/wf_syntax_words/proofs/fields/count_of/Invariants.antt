use Rattle.std.proofs.Common.{◌≡◌, ◌≤◌, ◌+◌, drop}
use Rattle.wf_tree.specs.Trees.{pairs_of}
use Rattle.wf_syntax_words.proofs.Pairs.{count_those}
use Rattle.wf_syntax_words.proofs.fields.count_of.Given as goal

-- what is left is counted behind the count so far
abbrev pub invariant-loop-key : goal.invariant-loop-key
invariant-loop-key l = record {
  counted : count_those (pairs_of l.fields) l.keys ≡ l.count + count_those (pairs_of l.fields) (drop l.key-index l.keys);
  few : l.count ≤ l.key-index;
}
