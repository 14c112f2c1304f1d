-- What the code holds, without where it lies in memory.
use Rattle.std.specs.Prelude.{ℕ, List, map}
use Rattle.wf_tree.specs.Trees as trees
use Rattle.wf_tree.specs.Plain.{plain_tree}
use Rattle.wf_tree.specs.declared.tree.Tree.{Tree}
use Rattle.wf_yaml.specs.Rows as lines
use Rattle.wf_yaml.specs.declared.rows.Row.{Row}
use Rattle.wf_yaml.specs.declared.rows.Head.{Head}

abbrev pub see : Row → lines.Row
see r = record { number = r.number; indent = r.indent; text = r.text.items }

abbrev pub see_all : List Row → List lines.Row
see_all rs = map see rs

abbrev pub see_head : Head → lines.Row
see_head h = record { number = h.number; indent = h.column; text = h.text.now }

abbrev pub see_pair : List ℕ × Tree → List ℕ × trees.Tree
see_pair p = (p.0, plain_tree p.1)
