use Rattle.std.proofs.Common.{ap, sym, ◌∙◌, bytes_eq, codes}
use Rattle.wf_syntax.proofs.Texts.{policy_given}
use Rattle.wf_syntax.proofs.words.policy_word.Goals as goal
use Rattle.wf_tree.specs.Plain.{plain_tree}

pub returns-then-eq : goal.returns-then-eq
returns-then-eq c = policy_given _ c.in-Text.text (ap plain_tree c.in-Text.is) (ap (λ s. bytes_eq s (codes "continueAll")) (sym c.as_str.ensures) ∙ sym c.eq.ensures ∙ c.if-eq.true)
