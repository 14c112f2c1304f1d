use Rattle.std.proofs.Common.{ap, ◌∙◌, ◌||◌}
use Rattle.wf_yaml_line.specs.Marks.{is_same, is_one_of}
use Rattle.wf_yaml_line.specs.Views.{keys_of}
use Rattle.wf_yaml_line.proofs.Sets.{with_key}
use Rattle.wf_yaml_line.proofs.key_set.KeySet.add.Goals as goal

pub returns-clause-added : goal.returns-clause-added
returns-clause-added c = λ k.
    with_key k c.in_ok-copy.copy c.args.self.now.keys c.insert.new.self c.in_ok-insert.ensures.updates
    ∙ ap (λ l. is_same l k || is_one_of (keys_of c.args.self.now) k) (c.in_ok-copy.ensures.ok ∙ c.as_str.ensures)
