-- What the code returns, without where it lies in memory.
use Rattle.std.specs.Prelude.{Result, Ok, Err}
use Rattle.wf_tree.specs.Trees as trees
use Rattle.wf_tree.specs.Plain.{plain_tree}
use Rattle.wf_tree.specs.declared.tree.Tree.{Tree}
use Rattle.wf_yaml_line.specs.declared.fault.Fault.{Fault}
use Rattle.wf_yaml_flow.specs.Flow as flows
use Rattle.wf_yaml_flow.specs.declared.walk.Seen.{Seen}
use Rattle.wf_yaml_flow.specs.declared.walk.Seen.TheVariants as seen

-- a tree, or its refusal
abbrev pub seen_tree : Result Tree Fault → Result trees.Tree Fault
seen_tree (Ok t) = Ok (plain_tree t)
seen_tree (Err f) = Err f

-- what was read of the front of a text
abbrev pub seen_view : Seen → flows.Seen trees.Tree
seen_view (seen.Goes r rest) = flows.goes (seen_tree r) rest.now
seen_view (seen.Stops f) = flows.stops f
