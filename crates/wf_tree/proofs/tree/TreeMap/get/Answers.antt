use Rattle.std.proofs.Common.{subst}
use Rattle.wf_value.specs.Maps.{IsInOrder}
use Rattle.wf_tree.proofs.PairTrees.{in_order_plain, plain_found}
use Rattle.wf_tree.proofs.tree.TreeMap.get.Goals as goal

pub returns-clause-value : goal.returns-clause-value
returns-clause-value c =
    plain_found c.find.result c.args.key.now c.self.inside.pairs.items c.as_slice.result.now c.args.self.now c.find.ensures c.as_slice.ensures.value c.self.view_is

pub returns-clause-order : goal.returns-clause-order
returns-clause-order c = subst IsInOrder c.self.view_is (in_order_plain c.self.inside.pairs.items c.self.invariant)
