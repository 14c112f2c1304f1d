use Rattle.std.proofs.Common.{◌≡◌, ◌+◌, [], ◌++◌, map, drop, length, length-append, arith, sym, ap, ◌∙◌}
use Rattle.wf_lemmas.proofs.Lists.{item_at, drop_end}
use Rattle.wf_ast.specs.Nodes.{flow_nodes, nodes}
use Rattle.wf_ast.specs.View.{flow_view}
use Rattle.wf_check.proofs.Counted.{all_told, counted_on, counts_first}
use Rattle.wf_check.proofs.flows.program.Goals as goal
use Rattle.wf_check.specs.Said.{said_among}

pub returns-in-Err : goal.returns-in-Err
unfolding nodes
returns-in-Err c =
    let fs = map flow_view c.args.flows.now in
    let i = c.each.item-index in
    let x = c.item-item.result in
    counts_first fs c.each.number c.in-Err.stop (nodes fs) (flow_nodes (flow_view x)) (nodes (map flow_view (drop (i + 1) c.args.flows.now)))
    (c.each.invariant.told ∙ ap (λ l. said_among fs c.each.number [] (nodes (map flow_view l))) (item_at c.args.flows.now i x c.each-test.true c.item-item.is)) c.in-Err.ensures

pub each-preserved : goal.each-preserved
unfolding nodes
each-preserved c =
    let fs = map flow_view c.args.flows.now in
    let i = c.each.item-index in
    let x = c.item-item.result in
    let rest = map flow_view (drop (i + 1) c.args.flows.now) in
    let here = item_at c.args.flows.now i x c.each-test.true c.item-item.is in
    let same : c.each.number + length (flow_nodes (flow_view x) ++ nodes rest) ≡ length (nodes fs) = ap (λ l. c.each.number + length (nodes (map flow_view l))) (sym here) ∙ c.each.invariant.counted in
    let both : length (flow_nodes (flow_view x) ++ nodes rest) ≡ length (flow_nodes (flow_view x)) + length (nodes rest) = length-append (flow_nodes (flow_view x)) (nodes rest) in
    let next : c.in-Ok.next ≡ c.each.number + length (flow_nodes (flow_view x)) = c.in-Ok.ensures.1 in
    record {
      told = c.each.invariant.told ∙ ap (λ l. said_among fs c.each.number [] (nodes (map flow_view l))) here ∙ counted_on fs c.each.number c.in-Ok.next (flow_nodes (flow_view x)) rest c.in-Ok.ensures.0 c.in-Ok.ensures.1;
      counted = omega arith;
    }

pub returns : goal.returns
returns c =
    let none = ap (λ l. map flow_view l) (drop_end c.args.flows.now c.each.item-index c.each-test.false) in
    all_told (map flow_view c.args.flows.now) c.each.number (map flow_view (drop c.each.item-index c.args.flows.now)) none c.each.invariant.told c.each.invariant.counted
