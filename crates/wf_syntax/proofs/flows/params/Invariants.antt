use Rattle.std.proofs.Common.{take}
use Rattle.wf_ast.specs.View.{params_view}
use Rattle.wf_syntax_rules.specs.Faults.{AreSound}
use Rattle.wf_syntax_rules.specs.Meaning.{Each, IsParam}
use Rattle.wf_syntax_rules.specs.Rules.{Parameter, each}
use Rattle.wf_syntax.proofs.flows.params.Given as goal
use Rattle.wf_tree.specs.Plain.{plain_items}
use Rattle.wf_tree.specs.Trees.{items_of}

abbrev pub invariant-each : goal.invariant-each
invariant-each l = record {
  sound : AreSound (each Parameter 0 (items_of (take l.index (plain_items l.items))));
  params : Each IsParam (params_view l.made) (items_of (take l.index (plain_items l.items)));
}
