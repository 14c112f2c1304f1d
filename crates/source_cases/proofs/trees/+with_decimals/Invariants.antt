use Rattle.source_cases.proofs.trees.+with_decimals.Given as goal

abbrev pub decreases-with_decimals : goal.decreases-with_decimals
decreases-with_decimals l = l.levels
