use Rattle.std.proofs.Common.{arith}
use Rattle.serde_json.specs.View.{view}
use Rattle.wf_tree.specs.Plain.{plain_tree}
use Rattle.wf_tree.proofs.Depths.{same_depth, shallow}
use Rattle.wf_tree.proofs.json_text.read_json.Goals as goal

pub returns-then-is_too_deep-clause-fault : goal.returns-then-is_too_deep-clause-fault
returns-then-is_too_deep-clause-fault c =
    let j = view c.in_ok-json.json in
    let t = plain_tree c.in_ok-tree.tree in
    let tree = c.in_ok-tree.ensures.tree in
    (j, t, c.in_ok-json.ensures.json, tree, omega (arith, same_depth j t tree, c.is_too_deep.ensures.0 c.if-is_too_deep.true))

pub returns-clause-tree : goal.returns-clause-tree
returns-clause-tree c =
    let j = view c.in_ok-json.json in
    let t = plain_tree c.in_ok-tree.tree in
    let tree = c.in_ok-tree.ensures.tree in
    (j, c.in_ok-json.ensures.json, tree, shallow j t c.is_too_deep.result tree c.is_too_deep.ensures c.if-is_too_deep.false)
