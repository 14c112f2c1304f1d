use Rattle.std.proofs.Common.{◌≡◌, ◌≤◌, min, max, drop}
use Rattle.serde_json.specs.Data.{items_depth, members_depth}
use Rattle.serde_json.specs.View.{items_view, members_view}
use Rattle.wf_tree.proofs.json_depth.+depth.Given as goal

abbrev pub invariant-depth_of_items-loop-json : goal.invariant-depth_of_items-loop-json
invariant-depth_of_items-loop-json l = record {
  same : min (max l.deepest (items_depth (items_view (drop l.json-index l.items.items)))) 4294967295 ≡ min (items_depth (items_view l.items.items)) 4294967295;
  fits : l.deepest ≤ 4294967295;
}

abbrev pub invariant-depth_of_members-loop-json : goal.invariant-depth_of_members-loop-json
invariant-depth_of_members-loop-json l = record {
  same : min (max l.deepest (members_depth (members_view l.json-iterator))) 4294967295 ≡ min (members_depth (members_view l.members.entries)) 4294967295;
  fits : l.deepest ≤ 4294967295;
}
