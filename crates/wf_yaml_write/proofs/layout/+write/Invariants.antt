use Rattle.std.proofs.Common.{◌≡◌, ◌+◌, ◌*◌, ◌++◌, drop, string_bytes}
use Rattle.wf_tree.specs.Trees.{depth, items_of, items_depth, pairs_of, pairs_depth}
use Rattle.wf_tree.specs.Plain.{plain_tree, plain_items, plain_pairs}
use Rattle.wf_yaml_write.specs.Laid.{indented}
use Rattle.wf_yaml_write.specs.Layout.{items_layout, pairs_layout}
use Rattle.wf_yaml_write.specs.Whole.{AreInMemory, ArePairsInMemory}
use Rattle.wf_yaml_write.proofs.layout.+write.Given as goal

abbrev pub invariant-push_more_items-loop-item : goal.invariant-push_more_items-loop-item
invariant-push_more_items-loop-item l = (string_bytes l.out ++ indented l.indent (items_layout (items_of (plain_items (drop l.item-index l.items)))) ≡ string_bytes l.fn.out ++ indented l.indent (items_layout (items_of (plain_items l.items)))) × (AreInMemory (items_of (plain_items (drop l.item-index l.items))) → AreInMemory (items_of (plain_items l.items)))

abbrev pub invariant-push_more_pairs-loop-pair : goal.invariant-push_more_pairs-loop-pair
invariant-push_more_pairs-loop-pair l = (string_bytes l.out ++ indented l.indent (pairs_layout (pairs_of (plain_pairs (drop l.pair-index l.pairs)))) ≡ string_bytes l.fn.out ++ indented l.indent (pairs_layout (pairs_of (plain_pairs l.pairs)))) × (ArePairsInMemory (pairs_of (plain_pairs (drop l.pair-index l.pairs))) → ArePairsInMemory (pairs_of (plain_pairs l.pairs)))

-- A function comes before those that it calls with what is as deep.
abbrev pub decreases-push_tree : goal.decreases-push_tree
decreases-push_tree l = 4 * depth (plain_tree l.tree.now)

abbrev pub decreases-push_item : goal.decreases-push_item
decreases-push_item l = 4 * depth (plain_tree l.item.now) + 1

abbrev pub decreases-push_pair : goal.decreases-push_pair
decreases-push_pair l = 4 * depth (plain_tree l.item.now) + 1

abbrev pub decreases-push_more_items : goal.decreases-push_more_items
decreases-push_more_items l = 4 * items_depth (items_of (plain_items l.items.now)) + 2

abbrev pub decreases-push_more_pairs : goal.decreases-push_more_pairs
decreases-push_more_pairs l = 4 * pairs_depth (pairs_of (plain_pairs l.pairs.now)) + 2

abbrev pub decreases-push_items : goal.decreases-push_items
decreases-push_items l = 4 * items_depth (items_of (plain_items l.items.now)) + 3

abbrev pub decreases-push_pairs : goal.decreases-push_pairs
decreases-push_pairs l = 4 * pairs_depth (pairs_of (plain_pairs l.pairs.now)) + 3
