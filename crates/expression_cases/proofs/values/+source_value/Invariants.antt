use Rattle.std.proofs.Common.{◌+◌, ◌*◌}
use Rattle.expression_cases.proofs.values.+source_value.Given as goal

abbrev pub decreases-source_value : goal.decreases-source_value
decreases-source_value l = 2 * l.depth

abbrev pub decreases-source_list : goal.decreases-source_list
decreases-source_list l = 2 * l.depth + 1

abbrev pub decreases-source_map : goal.decreases-source_map
decreases-source_map l = 2 * l.depth + 1
