use Rattle.std.proofs.Common.{◌+◌, ◌*◌}
use Rattle.wf_cases.proofs.values.+told.Given as goal

abbrev pub decreases-told : goal.decreases-told
decreases-told l = 2 * l.depth

abbrev pub decreases-told_all : goal.decreases-told_all
decreases-told_all l = 2 * l.depth + 1

abbrev pub decreases-told_pairs : goal.decreases-told_pairs
decreases-told_pairs l = 2 * l.depth + 1
