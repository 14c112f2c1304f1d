use Rattle.std.proofs.Common.{◌≡◌, ◌≤◌, ◌+◌, suc, min, max, drop}
use Rattle.wf_value.specs.Plain.{plain_pairs}
use Rattle.wf_value.specs.Data.{pairs_size, pairs_depth, pairs_of}
use Rattle.wf_value.proofs.measure.Measure.of_pairs.Given as goal

abbrev pub invariant-loop-pair : goal.invariant-loop-pair
invariant-loop-pair l = record {
  sizes : min (l.measure.size + pairs_size (pairs_of (plain_pairs (drop l.pair-index l.pairs)))) 18446744073709551615 ≡ min (2 + pairs_size (pairs_of (plain_pairs l.pairs))) 18446744073709551615;
  size_fits : l.measure.size ≤ 18446744073709551615;
  depths : min (max l.measure.depth (suc (pairs_depth (pairs_of (plain_pairs (drop l.pair-index l.pairs)))))) 4294967295 ≡ min (suc (pairs_depth (pairs_of (plain_pairs l.pairs)))) 4294967295;
  depth_low : 1 ≤ l.measure.depth;
  depth_fits : l.measure.depth ≤ 4294967295;
}
