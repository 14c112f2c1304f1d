use Rattle.std.proofs.Common.{ap, sym, ◌∙◌}
use Rattle.wf_tree.specs.Plain.{plain_tree}
use Rattle.wf_tree.specs.Trees.{text}
use Rattle.wf_syntax.proofs.Texts.{any_text_given}
use Rattle.wf_syntax.proofs.words.any_text.Goals as goal

pub returns-in-Text : goal.returns-in-Text
returns-in-Text c = any_text_given _ _ c.owned.result c.owned.ensures (ap plain_tree c.in-Text.is ∙ ap text (sym c.as_str.ensures))
