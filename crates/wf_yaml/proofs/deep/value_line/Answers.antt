use Rattle.std.proofs.Common.{Result, subst, sym, ap, ◌∙◌}
use Rattle.wf_lemmas.proofs.Bools.{cond_false}
use Rattle.wf_tree.specs.Plain.{plain_tree}
use Rattle.wf_tree.specs.Trees.{Tree}
use Rattle.wf_yaml_line.specs.declared.fault.Fault.{Fault}
use Rattle.wf_yaml_line.specs.Scalars.{is_delay_key}
use Rattle.wf_yaml_line.specs.Views.{ReadsAs}
use Rattle.wf_yaml.specs.Blocks.{line_alone}
use Rattle.wf_yaml.proofs.deep.value_line.Goals as goal

pub returns : goal.returns
returns c =
    let key = c.args.key.now in
    let delay = c.is_delay_key-delay.ensures ∙ ap is_delay_key c.as_str.ensures in
    subst (λ (read : Result Tree Fault). ReadsAs plain_tree c.line_alone.result read)
    ((λ i. line_alone (delay i) c.args.number c.args.depth (c.skip_blanks.ensures.rest i)) ∙ sym (cond_false _ _ _ (sym c.ends_line.ensures ∙ c.if-ends_line.false)))
    c.line_alone.ensures
