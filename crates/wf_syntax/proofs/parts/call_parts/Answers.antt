use Rattle.wf_syntax.proofs.Rows.{row_fails, row_sound, told}
use Rattle.wf_syntax.proofs.parts.call_parts.Goals as goal
use Rattle.wf_syntax.specs.Forms.{call_part_keys}
use Rattle.wf_tree.specs.Trees.{pairs_of}

pub returns-in_err-arguments_at : goal.returns-in_err-arguments_at
returns-in_err-arguments_at c = told _ _ c.from_residual.result c.in_err-arguments_at.field-0.0 c.from_residual.ensures (row_fails (pairs_of c.args.fields.now) call_part_keys 0 c.in_err-arguments_at.field-0.0 c.in_err-arguments_at.ensures)

pub returns-in_err-entries_at : goal.returns-in_err-entries_at
returns-in_err-entries_at c = told _ _ c.from_residual-in_err-entries_at.result c.in_err-entries_at.field-0.0 c.from_residual-in_err-entries_at.ensures (row_fails (pairs_of c.args.fields.now) call_part_keys 1 c.in_err-entries_at.field-0.0 (c.in_ok-arguments_at.ensures.0, c.in_err-entries_at.ensures))

pub returns-in_err-text_at : goal.returns-in_err-text_at
returns-in_err-text_at c = told _ _ c.from_residual-in_err-text_at.result c.in_err-text_at.field-0.0 c.from_residual-in_err-text_at.ensures (row_fails (pairs_of c.args.fields.now) call_part_keys 2 c.in_err-text_at.field-0.0 (c.in_ok-arguments_at.ensures.0, (c.in_ok-entries_at.ensures.0, c.in_err-text_at.ensures)))

pub returns-in_err-value_at : goal.returns-in_err-value_at
returns-in_err-value_at c = told _ _ c.from_residual-in_err-value_at.result c.in_err-value_at.field-0.0 c.from_residual-in_err-value_at.ensures (row_fails (pairs_of c.args.fields.now) call_part_keys 3 c.in_err-value_at.field-0.0 (c.in_ok-arguments_at.ensures.0, (c.in_ok-entries_at.ensures.0, (c.in_ok-text_at.ensures.0, c.in_err-value_at.ensures))))

pub returns : goal.returns
returns c = (
  row_sound (pairs_of c.args.fields.now) call_part_keys (c.in_ok-arguments_at.ensures.0, (c.in_ok-entries_at.ensures.0, (c.in_ok-text_at.ensures.0, (c.in_ok-value_at.ensures.0, tt)))),
  record { args = c.in_ok-arguments_at.ensures.1; assign = c.in_ok-entries_at.ensures.1; call = c.in_ok-text_at.ensures.1; condition = c.in_ok-value_at.ensures.1 },
)
