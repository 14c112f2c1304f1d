use Rattle.std.proofs.Common.{take}
use Rattle.wf_ast.specs.View.{entries_view}
use Rattle.wf_syntax_rules.specs.Faults.{AreSound}
use Rattle.wf_syntax_rules.specs.Meaning.{Each, IsEntry}
use Rattle.wf_syntax_rules.specs.Rules.{Entry, each}
use Rattle.wf_syntax.proofs.entries.entries.Given as goal
use Rattle.wf_tree.specs.Plain.{plain_items}
use Rattle.wf_tree.specs.Trees.{items_of}

abbrev pub invariant-each : goal.invariant-each
invariant-each l = record {
  sound : AreSound (each Entry 0 (items_of (take l.index (plain_items l.items))));
  entries : Each IsEntry (entries_view l.made) (items_of (take l.index (plain_items l.items)));
}
