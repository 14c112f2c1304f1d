use Rattle.std.proofs.Common.{map, take}
use Rattle.std.specs.Prelude.{option_map}
use Rattle.wf_ast.specs.View.{flow_view}
use Rattle.wf_syntax.proofs.Mains.{SoFar}
use Rattle.wf_syntax.proofs.flows.program.Given as goal
use Rattle.wf_tree.specs.Plain.{plain_pairs}

-- what the pairs so far give
abbrev pub invariant-each : goal.invariant-each
invariant-each l = SoFar (option_map flow_view l.main) (map flow_view l.others.items) (take l.pair-index (plain_pairs l.pair-items))
