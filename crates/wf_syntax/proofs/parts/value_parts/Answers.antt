use Rattle.wf_syntax.proofs.Rows.{row_fails, row_sound, told}
use Rattle.wf_syntax.proofs.parts.value_parts.Goals as goal
use Rattle.wf_syntax.specs.Forms.{value_part_keys}
use Rattle.wf_tree.specs.Trees.{pairs_of}

pub returns-in_err-value_at : goal.returns-in_err-value_at
returns-in_err-value_at c = told _ _ c.from_residual.result c.in_err-value_at.field-0.0 c.from_residual.ensures (row_fails (pairs_of c.args.fields.now) value_part_keys 0 c.in_err-value_at.field-0.0 c.in_err-value_at.ensures)

pub returns-in_err-name_at : goal.returns-in_err-name_at
returns-in_err-name_at c = told _ _ c.from_residual-in_err-name_at.result c.in_err-name_at.field-0.0 c.from_residual-in_err-name_at.ensures (row_fails (pairs_of c.args.fields.now) value_part_keys 1 c.in_err-name_at.field-0.0 (c.in_ok-value_at.ensures.0, c.in_err-name_at.ensures))

pub returns-in_err-policy_at : goal.returns-in_err-policy_at
returns-in_err-policy_at c = told _ _ c.from_residual-in_err-policy_at.result c.in_err-policy_at.field-0.0 c.from_residual-in_err-policy_at.ensures (row_fails (pairs_of c.args.fields.now) value_part_keys 2 c.in_err-policy_at.field-0.0 (c.in_ok-value_at.ensures.0, (c.in_ok-name_at.ensures.0, c.in_err-policy_at.ensures)))

pub returns-in_err-value_at-2 : goal.returns-in_err-value_at-2
returns-in_err-value_at-2 c = told _ _ c.from_residual-in_err-value_at-2.result c.in_err-value_at-2.field-0.0 c.from_residual-in_err-value_at-2.ensures (row_fails (pairs_of c.args.fields.now) value_part_keys 3 c.in_err-value_at-2.field-0.0 (c.in_ok-value_at.ensures.0, (c.in_ok-name_at.ensures.0, (c.in_ok-policy_at.ensures.0, c.in_err-value_at-2.ensures))))

pub returns : goal.returns
returns c = (
  row_sound (pairs_of c.args.fields.now) value_part_keys (c.in_ok-value_at.ensures.0, (c.in_ok-name_at.ensures.0, (c.in_ok-policy_at.ensures.0, (c.in_ok-value_at-2.ensures.0, tt)))),
  record { raised = c.in_ok-value_at.ensures.1; result = c.in_ok-name_at.ensures.1; retry = c.in_ok-policy_at.ensures.1; returned = c.in_ok-value_at-2.ensures.1 },
)
