-- What a node is, as the code holds it.
use Rattle.std.specs.Prelude.{List, map, reverse}
use Rattle.wf_ast.specs.Nodes as nodes
use Rattle.wf_ast.specs.View.{body_view, branch_view, entry_view, flow_view, template_view}
use Rattle.wf_ast.specs.declared.body.Branch.{Branch}
use Rattle.wf_diagnostics.specs.declared.parts.Part.{Part}
use Rattle.wf_diagnostics.specs.declared.parts.Part.TheVariants as part
use Rattle.wf_value.specs.Pairs.{Text}

-- the names of branches, the last first
abbrev pub names_before : List Branch → List Text
names_before bs = reverse (map (λ b. (branch_view b).0) bs)

abbrev pub part_view : Part → nodes.NodePart
part_view (part.Flow f) = nodes.FlowPart (flow_view f.now)
part_view (part.Step s) = nodes.StepPart s.now.name (body_view s.now.body) s.now.next
part_view (part.Arm a) = nodes.ArmPart (template_view a.now.condition) a.now.next
part_view (part.Body b) = nodes.BodyPart (body_view b.now)
part_view (part.Entry e) = nodes.EntryPart (entry_view e.now)
part_view (part.Branch before b) = nodes.BranchPart (names_before before.now) (branch_view b.now).0 (branch_view b.now).1
