-- What a checked program is seen as.
use Rattle.std.specs.Prelude.{List}
use Rattle.wf_ast.specs.Tree as tree
use Rattle.wf_ast.specs.View.{program_view}
use Rattle.wf_ast.specs.declared.program.Program.{Program}
use Rattle.wf_check.specs.declared.checked.Checked.{Checked}
use Rattle.wf_model.specs.declared.node.Node.{Node}
use Rattle.wf_table.specs.Built.{node_list}

-- the program that was checked, as the code holds it
abbrev pub held_by : Checked → Program
held_by c = c.program

-- and what it stands for
abbrev pub program_of : Checked → tree.Program
program_of c = program_view c.program

-- the nodes of its table, in the order of their numbers
abbrev pub nodes_of : Checked → List Node
nodes_of c = node_list c.table
