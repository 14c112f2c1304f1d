use Rattle.std.proofs.Common.{take}
use Rattle.wf_ast.specs.View.{texts_view}
use Rattle.wf_syntax_rules.specs.Faults.{AreSound}
use Rattle.wf_syntax_rules.specs.Meaning.{Each, IsText}
use Rattle.wf_syntax_rules.specs.Rules.{VariableName, each}
use Rattle.wf_syntax.proofs.words.names.Given as goal
use Rattle.wf_tree.specs.Plain.{plain_items}
use Rattle.wf_tree.specs.Trees.{items_of}

abbrev pub invariant-each : goal.invariant-each
invariant-each l = record {
  sound : AreSound (each VariableName 0 (items_of (take l.index (plain_items l.items))));
  texts : Each IsText (texts_view l.made) (items_of (take l.index (plain_items l.items)));
}
