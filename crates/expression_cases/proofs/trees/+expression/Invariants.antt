use Rattle.std.proofs.Common.{◌+◌, ◌*◌}
use Rattle.expression_cases.proofs.trees.+expression.Given as goal

abbrev pub decreases-expression : goal.decreases-expression
decreases-expression l = 2 * l.depth

abbrev pub decreases-keyed : goal.decreases-keyed
decreases-keyed l = 2 * l.depth + 1

abbrev pub decreases-called : goal.decreases-called
decreases-called l = 2 * l.depth + 1

abbrev pub decreases-operated : goal.decreases-operated
decreases-operated l = 2 * l.depth + 1
