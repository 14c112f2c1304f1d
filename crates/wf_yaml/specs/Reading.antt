-- The tree of a source, or its first fault.
use Rattle.std.specs.Prelude.{ℕ, List, Bool, false, Result}
use Rattle.wf_tree.specs.Trees.{Tree}
use Rattle.wf_yaml_line.specs.declared.fault.Fault.{Fault}
use Rattle.wf_yaml_line.specs.Fault.{both, kept}
use Rattle.wf_yaml_flow.specs.Flow.{max_depth}
use Rattle.wf_yaml.specs.Rows.{Row, rows, counting, behind_start, before_mark, no_mark, no_lone_return}
use Rattle.wf_yaml.specs.Blocks.{node}

-- the whole source is no value of a key
abbrev pub no_delay : Bool
no_delay = false

-- the one node before the first mark, where no mark may stand
abbrev pub document : List Row → Result Tree Fault
document rs = both kept (node max_depth 0 1 no_delay (counting (before_mark rs))) (no_mark rs)

abbrev pub reading_of : List Row → Result Tree Fault
reading_of rs = both kept (document (behind_start (counting rs))) (no_lone_return rs)

unfoldable pub reading : List ℕ → Result Tree Fault
reading source = reading_of (rows source)
