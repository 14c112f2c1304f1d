use Rattle.std.proofs.Common.{◌≡◌, List, ◌++◌, length, map, ap, ◌∙◌}
use Rattle.wf_ast.specs.View.{flow_view, program_view}
use Rattle.wf_table.proofs.Tabled.{flows_named, resolves}
use Rattle.wf_table.proofs.table.table_of.Goals as goal
use Rattle.wf_model.specs.NodeKinds.{node_view}
use Rattle.wf_table.specs.Made.{flow_numbers, views_for}
use Rattle.wf_table.specs.Named.{first_named}
use Rattle.wf_model.specs.Spots.{flows_spots, spots}
use Rattle.wf_model.specs.declared.node.Node.{Node}

pub returns-clause-resolves : goal.returns-clause-resolves
returns-clause-resolves c =
    let fs = (program_view c.args.program.now).flows in
    let nodes = c.flows.new.nodes.items in
    let items = map flow_view c.items.result.now in
    let made : map node_view nodes ≡ views_for 0 (spots fs) =
    c.in_ok-numbers.ensures.adds.views
    ∙ ap (λ (o : List Node). map node_view o ++ views_for (length o) (flows_spots items (length o))) c.new-nodes.ensures.items
    ∙ ap (λ l. views_for 0 (flows_spots l 0)) c.items.ensures.view in
    resolves fs c.set_jumps.new.nodes.items (c.in_ok-set_jumps.ensures.views ∙ made) (c.in_ok-set_jumps.ensures.jumps fs made)

pub returns-clause-flows : goal.returns-clause-flows
returns-clause-flows c = λ x.
    let fs = (program_view c.args.program.now).flows in
    let nodes = c.flows.new.nodes.items in
    let last = c.set_jumps.new.nodes.items in
    let items = map flow_view c.items.result.now in
    let made : map node_view nodes ≡ views_for 0 (spots fs) =
    c.in_ok-numbers.ensures.adds.views
    ∙ ap (λ (o : List Node). map node_view o ++ views_for (length o) (flows_spots items (length o))) c.new-nodes.ensures.items
    ∙ ap (λ l. views_for 0 (flows_spots l 0)) c.items.ensures.view in
    c.in_ok-flows.ensures x
    ∙ (λ i. first_named (map node_view (c.as_slice.ensures.value i)) x (c.as_slice-2.ensures.value i))
    ∙ ap (first_named (map node_view last) x)
    (c.in_ok-numbers.ensures.numbers ∙ ap (λ (o : List Node). flow_numbers items (length o)) c.new-nodes.ensures.items ∙ ap (λ l. flow_numbers l 0) c.items.ensures.view)
    ∙ flows_named (map node_view last) x fs (c.in_ok-set_jumps.ensures.views ∙ made)
