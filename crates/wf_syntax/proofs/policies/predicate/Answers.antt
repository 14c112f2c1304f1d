use Rattle.std.proofs.Common.{sym, ap, ◌∙◌}
use Rattle.wf_ast.specs.Tree.{Always, FlowNamed, Never, Predefined}
use Rattle.wf_syntax_rules.specs.Meaning.{predicate_of}
use Rattle.wf_syntax_words.specs.Names.{unmarked}
use Rattle.wf_syntax.proofs.Retries.{flow_named, is_predicate, named_is, predicate_given}
use Rattle.wf_syntax.proofs.policies.predicate.Goals as goal
use Rattle.wf_tree.specs.Plain.{plain_tree}
use Rattle.wf_value.specs.declared.DefaultKind.TheVariants.{Idempotent, NonIdempotent}

pub returns-in-text : goal.returns-in-text
returns-in-text c =
    predicate_given _ c.in-Text.text c.unmarked.result.now (Predefined Idempotent) (ap plain_tree c.in-Text.is) (c.unmarked.ensures ∙ ap unmarked c.as_str.ensures) (ap is_predicate c.in-text.is) (sym (ap predicate_of c.in-text.is))

pub returns-in-text-2 : goal.returns-in-text-2
returns-in-text-2 c =
    predicate_given _ c.in-Text.text c.unmarked.result.now (Predefined NonIdempotent) (ap plain_tree c.in-Text.is) (c.unmarked.ensures ∙ ap unmarked c.as_str.ensures) (ap is_predicate c.in-text-2.is) (sym (ap predicate_of c.in-text-2.is))

pub returns-in-text-3 : goal.returns-in-text-3
returns-in-text-3 c =
    predicate_given _ c.in-Text.text c.unmarked.result.now Always (ap plain_tree c.in-Text.is) (c.unmarked.ensures ∙ ap unmarked c.as_str.ensures) (ap is_predicate c.in-text-3.is) (sym (ap predicate_of c.in-text-3.is))

pub returns-in-text-4 : goal.returns-in-text-4
returns-in-text-4 c =
    predicate_given _ c.in-Text.text c.unmarked.result.now Never (ap plain_tree c.in-Text.is) (c.unmarked.ensures ∙ ap unmarked c.as_str.ensures) (ap is_predicate c.in-text-4.is) (sym (ap predicate_of c.in-text-4.is))

pub returns-in_ok-owned-in_default-unmarked : goal.returns-in_ok-owned-in_default-unmarked
returns-in_ok-owned-in_default-unmarked c =
    let other = c.in_default-unmarked in
    predicate_given _ c.in-Text.text c.unmarked.result.now (FlowNamed c.in_ok-owned-in_default-unmarked.field-0) (ap plain_tree c.in-Text.is) (c.unmarked.ensures ∙ ap unmarked c.as_str.ensures)
    (named_is c.unmarked.result.now (sym c.is_name.ensures ∙ c.if-is_name.true))
    (ap FlowNamed c.in_ok-owned-in_default-unmarked.ensures ∙ sym (flow_named c.unmarked.result.now other.not-text other.not-text-2 other.not-text-3 other.not-text-4))
