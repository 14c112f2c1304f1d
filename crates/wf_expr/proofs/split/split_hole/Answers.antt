use Rattle.std.proofs.Common.{ap, ◌∙◌}
use Rattle.std.proofs.lemmas.Str.{IsUtf8-drop}
use Rattle.wf_expr.proofs.Cuts.{behind_boundary, brace_boundary, hole_cut, open_hole}
use Rattle.wf_expr.specs.Splits.{length_in}
use Rattle.wf_expr.specs.declared.quoting.Quoting.TheVariants.{Bare}
use Rattle.wf_expr.proofs.split.split_hole.Goals as goal

pub returns-in_err-length : goal.returns-in_err-length
returns-in_err-length c = rw c.from_residual.ensures (open_hole _ (c.in_err-length.ensures ∙ ap (length_in Bare) c.as_bytes.ensures.value))

pub split_at-requires : goal.split_at-requires
split_at-requires c = brace_boundary _ _ (c.in_ok-length.ensures ∙ ap (length_in Bare) c.as_bytes.ensures.value)

pub split_at-requires-2 : goal.split_at-requires-2
split_at-requires-2 c =
    let n = c.in_ok-length.ensures ∙ ap (length_in Bare) c.as_bytes.ensures.value in
    let u = IsUtf8-drop _ _ c.utf8.text (brace_boundary _ _ n) in
    behind_boundary _ _ _ n c.split_at.ensures.back (rw c.split_at.ensures.back u)

pub returns : goal.returns
returns c =
    hole_cut _ _ c.split_at.result.1.now _ _ (c.in_ok-length.ensures ∙ ap (length_in Bare) c.as_bytes.ensures.value) c.split_at.ensures.front c.split_at.ensures.back c.split_at-2.ensures.back
