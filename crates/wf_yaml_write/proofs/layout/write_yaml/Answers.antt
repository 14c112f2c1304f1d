use Rattle.std.proofs.Common.{ap, ◌∙◌, ◌++◌}
use Rattle.std.proofs.lemmas.Result.{IfOk-weaker}
use Rattle.wf_tree.specs.Plain.{plain_tree}
use Rattle.wf_yaml.specs.Reading.{reading}
use Rattle.wf_yaml_write.specs.Laid.{laid}
use Rattle.wf_yaml_write.specs.Layout.{layout}
use Rattle.wf_yaml_write.proofs.Lines.{laid_whole}
use Rattle.wf_yaml_write.proofs.TreeBack.{trees_back}
use Rattle.wf_yaml_write.proofs.layout.write_yaml.Goals as goal

pub returns : goal.returns
returns c =
    let ls = layout (plain_tree c.args.tree.now) in
    let text = IfOk-weaker c.new.result _ _ (λ t e. e ∙ c.as_str.ensures.value ∙ c.in_ok-push_tree.ensures.text ∙ ap (λ s. s ++ laid 0 ls) c.new-out.ensures.bytes ∙ laid_whole ls) c.new.ensures in
    record {
      text = text;
      read_back = λ fits. IfOk-weaker c.new.result _ _ (λ t e. ap reading e ∙ trees_back (plain_tree c.args.tree.now) c.in_ok-push_tree.ensures.memory fits c.requires) text;
    }
