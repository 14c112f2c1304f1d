use Rattle.std.proofs.Common.{◌≡◌, is_some, subst, sym, ap, ◌∙◌, false}
use Rattle.wf_lemmas.proofs.Options.{some_mapped}
use Rattle.wf_tree.specs.Plain.{plain_tree}
use Rattle.wf_yaml_line.specs.Marks.{trimmed, before_comment, around_colon}
use Rattle.wf_yaml_line.specs.Fault.{both, kept, refuse_if}
use Rattle.wf_yaml_line.specs.Scalars as scalars
use Rattle.wf_yaml_line.specs.declared.fault.Kind.TheVariants as kinds
use Rattle.wf_yaml_line.specs.Views.{ReadsAs}
use Rattle.wf_yaml_flow.proofs.line.plain_line.Goals as goal

pub returns : goal.returns
returns c =
    let content : c.trimmed-content.result.now ≡ trimmed (before_comment false c.args.s.now) = c.trimmed-content.ensures ∙ ap trimmed c.before_comment.ensures.before in
    let colon : c.is_some-has_colon.result ≡ is_some (around_colon false (trimmed (before_comment false c.args.s.now)))
    = c.is_some-has_colon.ensures ∙ sym (some_mapped _ c.around_colon.result) ∙ ap is_some c.around_colon.ensures ∙ ap (λ s. is_some (around_colon false s)) content in
    subst (ReadsAs plain_tree c.noting_after.result)
    (λ i. both kept (scalars.plain_tree c.args.delay c.args.line (content i)) ((c.refuse_if.ensures ∙ ap (λ b. refuse_if b c.args.line kinds.Unsupported) colon) i))
    (c.noting_after.ensures _ c.plain_scalar-value.ensures)
