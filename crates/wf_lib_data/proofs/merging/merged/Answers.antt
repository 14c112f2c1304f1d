use Rattle.std.proofs.Common.{arith, sym}
use Rattle.std.proofs.lemmas.Option.{slice_get_within}
use Rattle.wf_lib_data.proofs.Merges.{both_end, left_alone, left_lower, right_alone, right_lower, same_keys}
use Rattle.wf_lib_data.proofs.merging.merged.Goals as goal

pub returns-in-None-None : goal.returns-in-None-None
returns-in-None-None c = both_end c.args.first.now c.args.second.now c.pairs.whole c.pairs.whole c.pairs.i c.pairs.j 0 c.pairs.invariant c.in-None-None.ensures c.in-None-None.ensures'

pub pairs-smaller-in-None-Some : goal.pairs-smaller-in-None-Some
pairs-smaller-in-None-Some c =
    omega (arith, slice_get_within c.args.second.now c.pairs.j _ (sym c.in-None-Some.ensures'), c.in_ok-j-in-None-Some.ensures)

pub pairs-preserved-in-None-Some : goal.pairs-preserved-in-None-Some
pairs-preserved-in-None-Some c =
    right_alone c.args.first.now c.args.second.now c.pairs.whole c.put.new.whole c.pairs.i c.pairs.j c.in_ok-j-in-None-Some.j c.pairs.invariant _ _ c.in-None-Some.ensures c.in-None-Some.ensures' c.in_ok-put-in-None-Some.ensures c.in_ok-j-in-None-Some.ensures

pub pairs-smaller-in-Some-None : goal.pairs-smaller-in-Some-None
pairs-smaller-in-Some-None c =
    omega (arith, slice_get_within c.args.first.now c.pairs.i _ (sym c.in-Some-None.ensures), c.in_ok-i-in-Some-None.ensures)

pub pairs-preserved-in-Some-None : goal.pairs-preserved-in-Some-None
pairs-preserved-in-Some-None c =
    left_alone c.args.first.now c.args.second.now c.pairs.whole c.put-in-Some-None.new.whole c.pairs.i c.pairs.j c.in_ok-i-in-Some-None.i c.pairs.invariant _ _ c.in-Some-None.ensures c.in-Some-None.ensures' c.in_ok-put-in-Some-None.ensures c.in_ok-i-in-Some-None.ensures

pub pairs-smaller-in-Less : goal.pairs-smaller-in-Less
pairs-smaller-in-Less c =
    omega (arith, slice_get_within c.args.first.now c.pairs.i _ (sym c.in-Some-Some.ensures), c.in_ok-i-in-Less.ensures)

pub pairs-preserved-in-Less : goal.pairs-preserved-in-Less
pairs-preserved-in-Less c =
    left_lower c.args.first.now c.args.second.now c.pairs.whole c.put-in-Less.new.whole c.pairs.i c.pairs.j c.in_ok-i-in-Less.i c.pairs.invariant _ _ _ _ c.in-Some-Some.ensures c.in-Some-Some.ensures' c.in-Less.ensures c.in_ok-put-in-Less.ensures c.in_ok-i-in-Less.ensures

pub pairs-smaller-in-Equal : goal.pairs-smaller-in-Equal
pairs-smaller-in-Equal c =
    omega (arith, slice_get_within c.args.first.now c.pairs.i _ (sym c.in-Some-Some.ensures), c.in_ok-i-in-Equal.ensures, c.in_ok-j-in-Equal.ensures)

pub pairs-preserved-in-Equal : goal.pairs-preserved-in-Equal
pairs-preserved-in-Equal c =
    same_keys c.args.first.now c.args.second.now c.pairs.whole c.put-in-Equal.new.whole c.pairs.i c.pairs.j c.in_ok-i-in-Equal.i c.pairs.invariant c.in_ok-j-in-Equal.j _ _ _ _ c.in-Some-Some.ensures c.in-Some-Some.ensures' c.in-Equal.ensures c.in_ok-put-in-Equal.ensures c.in_ok-i-in-Equal.ensures c.in_ok-j-in-Equal.ensures

pub pairs-smaller : goal.pairs-smaller
pairs-smaller c =
    omega (arith, slice_get_within c.args.second.now c.pairs.j _ (sym c.in-Some-Some.ensures'), c.in_ok-j-in-Greater.ensures)

pub pairs-preserved : goal.pairs-preserved
pairs-preserved c =
    right_lower c.args.first.now c.args.second.now c.pairs.whole c.put-in-Greater.new.whole c.pairs.i c.pairs.j c.in_ok-j-in-Greater.j c.pairs.invariant _ _ _ _ c.in-Some-Some.ensures c.in-Some-Some.ensures' c.in-Greater.ensures c.in_ok-put-in-Greater.ensures c.in_ok-j-in-Greater.ensures
