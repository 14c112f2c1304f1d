use Rattle.std.proofs.Common.{rules}
use Rattle.wf_ast.specs.View.{program_view}
use Rattle.wf_syntax_rules.proofs.SmallBackoffs.{small_backoffs}
use Rattle.wf_syntax_rules.specs.Meaning.{Builds}
use Rattle.wf_syntax.proofs.source.build.Goals as goal
use Rattle.wf_tree.specs.Plain.{plain_tree}

-- the program is the tree's, so the law speaks of it
pub returns-in-Ok-clause-small : goal.returns-in-Ok-clause-small
returns-in-Ok-clause-small c =
    let built : Builds (plain_tree c.args.tree.now) (program_view c.in-Ok.program) = search rules in
    small_backoffs (plain_tree c.args.tree.now) (program_view c.in-Ok.program) built
