use Rattle.std.proofs.Common.{◌+◌, ◌*◌, take}
use Rattle.wf_ast.specs.Tree.{fields, templates}
use Rattle.wf_ast.specs.View.{fields_view, templates_view}
use Rattle.wf_syntax_rules.specs.Faults.{AreSound}
use Rattle.wf_syntax_rules.specs.Meaning.{AreNamed, AreValues}
use Rattle.wf_syntax_rules.specs.Rules.{Value, each, every}
use Rattle.wf_tree.specs.Trees.{depth, items_of, items_depth, pairs_of, pairs_depth}
use Rattle.wf_tree.specs.Plain.{plain_tree, plain_items, plain_pairs}
use Rattle.wf_syntax.proofs.values.+value.Given as goal

abbrev pub invariant-values-each : goal.invariant-values-each
invariant-values-each l = AreSound (each Value 0 (items_of (take l.index (plain_items l.items)))) × AreValues (templates (templates_view l.made)) (items_of (take l.index (plain_items l.items)))

abbrev pub invariant-named_values-each : goal.invariant-named_values-each
invariant-named_values-each l = AreSound (every (λ x. Value) (pairs_of (take l.pair-index (plain_pairs l.pairs)))) × AreNamed (fields (fields_view l.made)) (pairs_of (take l.pair-index (plain_pairs l.pairs)))

abbrev pub decreases-value : goal.decreases-value
decreases-value l = 2 * depth (plain_tree l.tree.now)

abbrev pub decreases-values : goal.decreases-values
decreases-values l = 2 * items_depth (items_of (plain_items l.items.now)) + 1

abbrev pub decreases-named_values : goal.decreases-named_values
decreases-named_values l = 2 * pairs_depth (pairs_of (plain_pairs l.pairs.now)) + 1
