-- What a table has.
use Rattle.std.specs.Prelude.{ℕ, suc, ◌+◌, List, [], ◌∷◌, Option, None}
use Rattle.wf_ast.specs.Tree.{Flow}
use Rattle.wf_value.specs.HttpUrl.{first_of_two}
use Rattle.wf_table.specs.Named.{number_of, when_named}
use Rattle.wf_model.specs.Spots.{steps_size}
use Rattle.wf_model.specs.declared.node.Node.{Node}
use Rattle.wf_table.specs.declared.table.Table.{Table}
use Rattle.wf_value.specs.Pairs.{Text}

-- the nodes, in the order of their numbers
abbrev pub node_list : Table → List Node
node_list t = t.nodes.items

-- the number of the workflow of a name
abbrev pub flow_of : Table → Text → Option ℕ
flow_of t x = number_of t.flows x

-- the number of the first workflow of a name, when the first of all has the number n
abbrev pub flow_number : Text → List Flow → ℕ → Option ℕ
flow_number x [] n = None
flow_number x (f ∷ fs) n = first_of_two (when_named x f.name n) (flow_number x fs (n + suc (steps_size f.steps)))
