use Rattle.std.proofs.Common.{Result, subst, sym, ap, ◌∙◌}
use Rattle.wf_tree.specs.Trees.{Tree}
use Rattle.wf_tree.specs.Plain.{plain_tree}
use Rattle.wf_yaml_line.specs.declared.fault.Fault.{Fault}
use Rattle.wf_yaml_line.specs.Marks.{ends_line}
use Rattle.wf_yaml_line.specs.Views.{ReadsAs}
use Rattle.wf_yaml.proofs.Steps.{deep_other, deep_end, deep_tab, deep_inner}
use Rattle.wf_yaml.proofs.deep.deep.Goals as goal

pub returns-then-not-is_item : goal.returns-then-not-is_item
returns-then-not-is_item c =
    subst (λ (read : Result Tree Fault). ReadsAs plain_tree c.other_line.result read)
    (sym (deep_other c.items.left c.args.number c.args.depth c.items.content.now c.if-left-eq0.false (sym c.is_item.ensures.value ∙ c.if-not-is_item.true)) ∙ c.items.invariant)
    c.other_line.ensures

pub returns-then-ends_line : goal.returns-then-ends_line
returns-then-ends_line c =
    sym c.items.invariant
    ∙ deep_end c.items.left c.args.number c.args.depth c.items.content.now c.if-left-eq0.false (sym c.is_item.ensures.value ∙ c.if-not-is_item.false) (ap ends_line (sym c.behind_first-rest.ensures.rest) ∙ sym c.ends_line.ensures ∙ c.if-ends_line.true)

pub returns-then-is_refused : goal.returns-then-is_refused
returns-then-is_refused c =
    sym c.items.invariant
    ∙ deep_tab c.items.left c.args.number c.args.depth c.items.content.now c.behind_first-rest.result.now c.skip_blanks-inner.result.now c.if-left-eq0.false (sym c.is_item.ensures.value ∙ c.if-not-is_item.false)
    c.behind_first-rest.ensures.rest (sym c.ends_line.ensures ∙ c.if-ends_line.false) c.skip_blanks-inner.ensures.rest (sym c.in_ok-is_refused.ensures ∙ c.if-is_refused.true)

pub items-preserved : goal.items-preserved
items-preserved c =
    deep_inner c.items.left c.args.number c.args.depth c.items.content.now c.behind_first-rest.result.now c.skip_blanks-inner.result.now c.if-left-eq0.false (sym c.is_item.ensures.value ∙ c.if-not-is_item.false)
    c.behind_first-rest.ensures.rest (sym c.ends_line.ensures ∙ c.if-ends_line.false) c.skip_blanks-inner.ensures.rest (sym c.in_ok-is_refused.ensures ∙ c.if-is_refused.false)
    ∙ c.items.invariant
