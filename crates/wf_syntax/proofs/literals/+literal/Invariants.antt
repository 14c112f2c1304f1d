use Rattle.std.proofs.Common.{◌+◌, ◌*◌, take}
use Rattle.wf_syntax_rules.specs.Faults.{AreSound}
use Rattle.wf_syntax_rules.specs.Meaning.{AreLiterals, AreNamedLiterals}
use Rattle.wf_syntax_rules.specs.Rules.{Literal, each, every}
use Rattle.wf_tree.specs.Trees.{depth, items_of, items_depth, pairs_of, pairs_depth}
use Rattle.wf_tree.specs.Plain.{plain_tree, plain_items, plain_pairs}
use Rattle.wf_value.specs.Data as values
use Rattle.wf_syntax.proofs.literals.+literal.Given as goal

abbrev pub invariant-literals-each : goal.invariant-literals-each
invariant-literals-each l = AreSound (each Literal 0 (items_of (take l.index (plain_items l.items)))) × AreLiterals (values.items_of l.made) (items_of (take l.index (plain_items l.items)))

abbrev pub invariant-named_literals-each : goal.invariant-named_literals-each
invariant-named_literals-each l = AreSound (every (λ x. Literal) (pairs_of (take l.pair-index (plain_pairs l.pairs)))) × AreNamedLiterals (values.pairs_of l.made) (pairs_of (take l.pair-index (plain_pairs l.pairs)))

abbrev pub decreases-literal : goal.decreases-literal
decreases-literal l = 2 * depth (plain_tree l.tree.now)

abbrev pub decreases-literals : goal.decreases-literals
decreases-literals l = 2 * items_depth (items_of (plain_items l.items.now)) + 1

abbrev pub decreases-named_literals : goal.decreases-named_literals
decreases-named_literals l = 2 * pairs_depth (pairs_of (plain_pairs l.pairs.now)) + 1
