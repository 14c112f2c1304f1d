use Rattle.std.proofs.Common.{ap, ◌∙◌, map}
use Rattle.wf_table.proofs.Adding.{ok_then}
use Rattle.wf_table.proofs.jumps.list_names.Goals as goal
use Rattle.wf_model.specs.Compiles.{code_list}
use Rattle.wf_model.specs.NodeKinds.{node_view}
use Rattle.wf_table.specs.Named.{first_named, numbers_of}

pub returns-in-None : goal.returns-in-None
returns-in-None c = λ x. c.new.ensures x ∙ ap (λ l. first_named (map node_view c.args.nodes.now) x (numbers_of l)) (c.in-None.ensures (code_list c.args.node.now.codes))

pub returns-in-Some : goal.returns-in-Some
returns-in-Some c =
    ok_then _ _ c.names_of.result c.names_of.ensures (λ names h x. h x ∙ ap (first_named (map node_view c.args.nodes.now) x) c.as_slice.ensures.value ∙ ap (λ l. first_named (map node_view c.args.nodes.now) x (numbers_of l)) (c.in-Some.ensures (code_list c.args.node.now.codes)))
