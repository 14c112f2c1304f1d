use Rattle.std.proofs.Common.{◌+◌, ◌*◌}
use Rattle.expression_cases.proofs.trees.+template.Given as goal

abbrev pub decreases-template : goal.decreases-template
decreases-template l = 2 * l.depth

abbrev pub decreases-list_of : goal.decreases-list_of
decreases-list_of l = 2 * l.depth + 1

abbrev pub decreases-map_of : goal.decreases-map_of
decreases-map_of l = 2 * l.depth + 1
