use Rattle.std.proofs.Common.{ap, ◌∙◌}
use Rattle.wf_ast.specs.View.{policy_view}
use Rattle.wf_syntax_words.specs.Names.{unmarked}
use Rattle.wf_syntax.proofs.Retries.{policy_given}
use Rattle.wf_syntax.proofs.policies.policy.Goals as goal
use Rattle.wf_tree.specs.Plain.{plain_tree}

pub returns-in-Some : goal.returns-in-Some
returns-in-Some c =
    policy_given _ c.in-Text.text c.unmarked.result.now (policy_view c.in-Some.policy) (ap plain_tree c.in-Text.is) (c.unmarked.ensures ∙ ap unmarked c.as_str.ensures) c.in-Some.ensures.0 c.in-Some.ensures.1
