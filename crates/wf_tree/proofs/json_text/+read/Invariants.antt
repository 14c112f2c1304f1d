use Rattle.std.proofs.Common.{◌≡◌, ◌++◌, drop, map, string_bytes}
use Rattle.std.specs.Map.{keys_of}
use Rattle.serde_json.specs.View.{items_view, members_view}
use Rattle.wf_tree.specs.Json.{items_tree, members_tree, first_in_items, first_in_members}
use Rattle.wf_tree.specs.Plain.{plain_pairs}
use Rattle.wf_value.proofs.Reading.{after}
use Rattle.wf_tree.proofs.json_text.+read.Given as goal

abbrev pub invariant-list_of-loop-i : goal.invariant-list_of-loop-i
invariant-list_of-loop-i l = record {
  trees : items_tree (items_view l.items.items) ≡ after l.list (items_tree (items_view (drop l.i l.items.items)));
  first : first_in_items 0 (items_view l.items.items) ≡ first_in_items l.i (items_view (drop l.i l.items.items));
}

abbrev pub invariant-map_of-loop-key : goal.invariant-map_of-loop-key
invariant-map_of-loop-key l = record {
  trees : members_tree (members_view l.members.entries) ≡ after (plain_pairs l.pairs.items) (members_tree (members_view l.key-iterator));
  first : first_in_members (members_view l.members.entries) ≡ first_in_members (members_view l.key-iterator);
  keys : map string_bytes (keys_of l.members.entries) ≡ keys_of l.pairs.items ++ map string_bytes (keys_of l.key-iterator);
}
