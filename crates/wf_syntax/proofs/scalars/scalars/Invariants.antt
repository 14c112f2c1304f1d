use Rattle.std.proofs.Common.{map, take}
use Rattle.wf_ast.specs.Tree.{Scalar, templates}
use Rattle.wf_syntax_rules.specs.Faults.{AreSound}
use Rattle.wf_syntax_rules.specs.Meaning.{AreValues}
use Rattle.wf_syntax_rules.specs.Rules.{Value, each}
use Rattle.wf_tree.specs.Plain.{plain_items}
use Rattle.wf_tree.specs.Trees.{items_of}
use Rattle.wf_syntax.proofs.scalars.scalars.Given as goal

abbrev pub invariant-each : goal.invariant-each
invariant-each l = AreSound (each Value 0 (items_of (take l.index (plain_items l.items)))) × AreValues (templates (map Scalar l.made)) (items_of (take l.index (plain_items l.items)))
