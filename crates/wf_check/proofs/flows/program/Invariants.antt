use Rattle.std.proofs.Common.{◌≡◌, [], drop, map, ◌+◌, length}
use Rattle.wf_ast.specs.Nodes.{nodes}
use Rattle.wf_ast.specs.View.{flow_view}
use Rattle.wf_check.proofs.flows.program.Given as goal
use Rattle.wf_check.specs.Said.{said_among}

-- what is left tells, and counts to the same number
abbrev pub invariant-each : goal.invariant-each
invariant-each l = record {
  told : said_among (map flow_view l.flows) 0 [] (nodes (map flow_view l.flows)) ≡ said_among (map flow_view l.flows) l.number [] (nodes (map flow_view (drop l.item-index l.flows)));
  counted : l.number + length (nodes (map flow_view (drop l.item-index l.flows))) ≡ length (nodes (map flow_view l.flows));
}
