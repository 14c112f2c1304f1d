use Rattle.std.proofs.Common.{Result, false, subst, sym, ap, ◌∙◌}
use Rattle.wf_tree.specs.Trees.{Tree}
use Rattle.wf_tree.specs.Plain.{plain_tree}
use Rattle.wf_yaml_line.specs.declared.fault.Fault.{Fault}
use Rattle.wf_yaml_line.specs.Views.{ReadsAs}
use Rattle.wf_yaml.specs.Rows as lines
use Rattle.wf_yaml.specs.Blocks as blocks
use Rattle.wf_yaml.specs.Views.{see_all, see_head}
use Rattle.wf_yaml.proofs.Steps.{node_is, first_line}
use Rattle.wf_yaml.proofs.source.content.Goals as goal

pub returns-in-len1-up : goal.returns-in-len1-up
returns-in-len1-up c =
    let first = first_line c.counting.result.now c.row-item.result (see_head c.head_of.result) c.in-len1-up.len_at_least c.row-item.is c.head_of.ensures in
    subst (λ (read : Result Tree Fault). ReadsAs plain_tree c.node.result read)
    (ap (blocks.node_at (blocks.inside 100) 0 1 false) (sym first ∙ c.counting.ensures)
    ∙ sym (node_is 100 0 1 false (lines.counting (see_all c.args.rows.now))))
    c.node.ensures
