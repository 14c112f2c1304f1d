use Rattle.std.proofs.Common.{ap, ◌∙◌, option_map}
use Rattle.wf_value.specs.Maps.{value_at, with_value}
use Rattle.wf_tree.specs.Plain.{plain_tree, plain_pairs}
use Rattle.wf_tree.proofs.PairTrees.{plain_value_at, plain_with_value}
use Rattle.wf_tree.proofs.pairs_so_far.PairsSoFar.insert.Goals as goal

pub returns-clause-after : goal.returns-clause-after
returns-clause-after c =
    ap plain_pairs c.in_ok-insert.ensures.entries
    ∙ plain_with_value c.args.key c.args.item c.self.inside.pairs.entries
    ∙ ap (λ ds. with_value c.args.key (plain_tree c.args.item) ds) c.self.view_is

pub returns-clause-old : goal.returns-clause-old
returns-clause-old c =
    ap (option_map plain_tree) c.in_ok-insert.ensures.old
    ∙ plain_value_at c.args.key c.self.inside.pairs.entries
    ∙ ap (value_at c.args.key) c.self.view_is
