use Rattle.std.proofs.Common.{◌∙◌}
use Rattle.wf_ast.specs.View.{template_view}
use Rattle.wf_table.proofs.Adding.{ok_then, one}
use Rattle.wf_model.proofs.Compiling.{in_all}
use Rattle.wf_table.proofs.growing.arm.Goals as goal
use Rattle.wf_model.specs.Compiles.{code_list}
use Rattle.wf_model.specs.NodeKinds as kind
use Rattle.wf_table.specs.Made.{leaf_view}
use Rattle.wf_model.specs.Shapes.{shape_by}
use Rattle.wf_model.specs.Spots.{ArmAt, spot}

pub returns-clause-adds : goal.returns-clause-adds
returns-clause-adds c =
    ok_then _ _ c.push.result c.push.ensures.grown (λ n h os st. one _ _ _ (spot (ArmAt (template_view c.args.condition.now)) os) h
    (c.leaf.ensures c.in_ok-name.ensures ∙ (λ i. leaf_view (st.owner i) (kind.Arm (in_all _ (code_list c.shape_of.new.codes) (λ cs. shape_by cs c.in_ok-condition.condition) (template_view c.args.condition.now) c.in_ok-condition.ensures i)))))
