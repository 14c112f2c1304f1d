use Rattle.std.proofs.Common.{◌≡◌, ◌-◌, ◌+◌, ◌*◌, [], Ok, true, false, length}
use Rattle.wf_yaml_line.specs.Views.{so_far, keys_of}
use Rattle.wf_yaml.specs.Cuts.{entries_of, heads}
use Rattle.wf_yaml.specs.Blocks as blocks
use Rattle.wf_yaml.specs.Views.{see_all, see_head}
use Rattle.wf_yaml.proofs.blocks.+node.Given as goal

abbrev pub decreases-node : goal.decreases-node
decreases-node l = 6 * (102 - l.depth) + 5

abbrev pub decreases-block_list : goal.decreases-block_list
decreases-block_list l = 6 * (102 - l.depth) + 4

abbrev pub decreases-list_entries : goal.decreases-list_entries
decreases-list_entries l = 6 * (102 - l.depth) + 3

abbrev pub decreases-list_entry : goal.decreases-list_entry
decreases-list_entry l = 6 * (102 - l.depth) + 2

abbrev pub decreases-block : goal.decreases-block
decreases-block l = 6 * (102 - l.depth)

abbrev pub invariant-list_entries-items : goal.invariant-list_entries-items
invariant-list_entries-items l =
    blocks.list_entries (blocks.inside (101 - l.depth)) l.first.column l.depth (so_far l.items l.found) (entries_of (heads false l.first.column) (see_head l.head) (see_all l.rest))
    ≡ blocks.list_entries (blocks.inside (101 - l.depth)) l.first.column l.depth (Ok []) (entries_of (heads false l.first.column) (see_head l.first) (see_all l.behind))

abbrev pub decreases-list_entries-items : goal.decreases-list_entries-items
decreases-list_entries-items l = length l.rest

abbrev pub decreases-block_map : goal.decreases-block_map
decreases-block_map l = 6 * (102 - l.depth) + 4

abbrev pub decreases-map_entries : goal.decreases-map_entries
decreases-map_entries l = 6 * (102 - l.depth) + 3

abbrev pub decreases-map_entry : goal.decreases-map_entry
decreases-map_entry l = 6 * (102 - l.depth) + 2

abbrev pub decreases-pair_value : goal.decreases-pair_value
decreases-pair_value l = 6 * (102 - l.depth) + 1

abbrev pub invariant-map_entries-pairs : goal.invariant-map_entries-pairs
invariant-map_entries-pairs l =
    blocks.map_entries (blocks.inside (101 - l.depth)) l.first.column l.depth (so_far l.pairs l.found) (keys_of l.keys) (entries_of (heads true l.first.column) (see_head l.head) (see_all l.rest))
    ≡ blocks.map_entries (blocks.inside (101 - l.depth)) l.first.column l.depth (Ok []) [] (entries_of (heads true l.first.column) (see_head l.first) (see_all l.behind))

abbrev pub decreases-map_entries-pairs : goal.decreases-map_entries-pairs
decreases-map_entries-pairs l = length l.rest
