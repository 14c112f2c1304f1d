use Rattle.std.proofs.Common.{arith}
use Rattle.std.proofs.lemmas.List.{drop_all}
use Rattle.wf_value.proofs.measure.Measure.of_pairs.Goals as goal

pub returns : goal.returns
returns c =
    let all = drop_all c.loop-pair.pair-index c.args.pairs.now c.loop-pair-test.false in
    let sizes = rw all at c.loop-pair.invariant.sizes in
    let depths = rw all at c.loop-pair.invariant.depths in
    record {
      size_kept = omega (arith, sizes, c.loop-pair.invariant.size_fits);
      depth_kept = omega (arith, depths, c.loop-pair.invariant.depth_low, c.loop-pair.invariant.depth_fits);
    }
