use Rattle.std.proofs.Common.{map}
use Rattle.wf_table.proofs.Naming.{name_end, name_start, name_turn}
use Rattle.wf_table.proofs.names.names_of.Goals as goal
use Rattle.wf_model.specs.NodeKinds.{node_view}

pub loop-number-init : goal.loop-number-init
loop-number-init c = λ x. name_start (map node_view c.args.nodes.now) c.args.numbers.now c.new-names.result x (c.new-names.ensures x)

pub loop-number-preserved : goal.loop-number-preserved
loop-number-preserved c = λ x.
    name_turn (map node_view c.args.nodes.now) c.args.numbers.now c.loop-number.number-index 0 c.loop-number.names c.add_node.new.self x c.loop-number-test.true (c.loop-number.invariant x) (c.in_ok-add_node.ensures x)

pub returns : goal.returns
returns c = λ x. name_end (map node_view c.args.nodes.now) c.args.numbers.now c.loop-number.number-index c.loop-number.names x c.loop-number-test.false (c.loop-number.invariant x)
