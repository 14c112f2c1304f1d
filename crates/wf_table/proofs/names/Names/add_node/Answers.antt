use Rattle.std.proofs.Common.{refl, ap, ◌∙◌}
use Rattle.std.proofs.lemmas.Option.{slice_get_past, slice_get_read}
use Rattle.wf_value.specs.HttpUrl.{first_of_two}
use Rattle.wf_table.proofs.Naming.{named_node, on_ok, unnamed}
use Rattle.wf_table.proofs.names.Names.add_node.Goals as goal
use Rattle.wf_table.specs.Named.{number_of, when_named}

pub returns-in-None : goal.returns-in-None
returns-in-None c = λ x. unnamed c.args.nodes.now c.args.number x (number_of c.args.self.now x) (slice_get_past c.args.nodes.now c.args.number c.in-None.ensures.lookup.3)

pub returns-in-Some : goal.returns-in-Some
returns-in-Some c =
    let nodes = c.args.nodes.now in
    let n = c.args.number in
    let node = c.in-Some.node.now in
    on_ok _ _ c.add.result c.add.ensures (λ h x.
    h x
    ∙ ap (λ y. first_of_two (number_of c.args.self.now x) (when_named x y n)) c.as_str.ensures
    ∙ ap (first_of_two (number_of c.args.self.now x)) (named_node nodes n x node (slice_get_read nodes _ n node refl c.in-Some.ensures.lookup.3.0 c.in-Some.ensures.lookup.1)))
