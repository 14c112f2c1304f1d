use Rattle.std.proofs.Common.{sym, ap, ◌∙◌}
use Rattle.wf_syntax_words.specs.Names.{is_name}
use Rattle.wf_syntax.proofs.Texts.{name_given}
use Rattle.wf_syntax.proofs.words.variable_name.Goals as goal
use Rattle.wf_tree.specs.Plain.{plain_tree}
use Rattle.wf_tree.specs.Trees.{text}

pub returns-then-is_name : goal.returns-then-is_name
returns-then-is_name c =
    name_given _ _ c.owned.result c.owned.ensures (ap plain_tree c.in-Text.is ∙ ap text (sym c.as_str-then-is_name.ensures))
    (ap is_name (c.as_str-then-is_name.ensures ∙ sym c.as_str.ensures) ∙ sym c.is_name.ensures ∙ c.if-is_name.true)
