use Rattle.std.proofs.Common.{◌≡◌, drop, map}
use Rattle.wf_value.specs.HttpUrl.{first_of_two}
use Rattle.wf_table.proofs.names.names_of.Given as goal
use Rattle.wf_model.specs.NodeKinds.{node_view}
use Rattle.wf_table.specs.Named.{first_named, number_of}
use Rattle.wf_value.specs.Pairs.{Text}

abbrev pub invariant-loop-number : goal.invariant-loop-number
invariant-loop-number l = (x : Text) → first_of_two (number_of l.names x) (first_named (map node_view l.nodes) x (drop l.number-index l.numbers)) ≡ first_named (map node_view l.nodes) x l.numbers
