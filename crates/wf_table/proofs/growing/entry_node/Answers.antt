use Rattle.std.proofs.Common.{◌∙◌}
use Rattle.wf_ast.specs.View.{entry_view}
use Rattle.wf_table.proofs.Adding.{ok_then, one}
use Rattle.wf_model.proofs.Compiling.{in_all}
use Rattle.wf_table.proofs.growing.entry_node.Goals as goal
use Rattle.wf_model.specs.Compiles.{code_list}
use Rattle.wf_model.specs.NodeKinds as kind
use Rattle.wf_model.specs.NodeKinds.{entry_by}
use Rattle.wf_table.specs.Made.{leaf_view}
use Rattle.wf_model.specs.Spots.{EntryAt, spot}

pub returns-clause-adds : goal.returns-clause-adds
returns-clause-adds c =
    ok_then _ _ c.push.result c.push.ensures.grown (λ n h os st. one _ _ _ (spot (EntryAt (entry_view c.args.entry.now)) os) h
    (c.leaf.ensures c.in_ok-name.ensures ∙ (λ i. leaf_view (st.owner i) (kind.Entry (in_all _ (code_list c.entry_form.new.codes) (λ cs. entry_by cs c.in_ok-form.form) (entry_view c.args.entry.now) (c.in_ok-form.ensures c.new-codes.ensures) i)))))
