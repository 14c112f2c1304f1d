use Rattle.std.proofs.Common.{ℕ, Option, map, refl, sym, ◌∙◌, subst}
use Rattle.std.proofs.lemmas.Option.{slice_get_read}
use Rattle.wf_table.proofs.Jumping.{Outward, goes_out, has_node, inner, leads_in, starts}
use Rattle.wf_table.proofs.jumps.jump_to.Goals as goal
use Rattle.wf_model.specs.NodeKinds.{node_view}
use Rattle.wf_model.specs.Spots.{owners_at, spots}

pub loop-next-init : goal.loop-next-init
loop-next-init c = λ fs i made long finds is. starts fs c.args.nodes.now c.args.name.now i c.args.node.now made is

pub returns-in_default-get : goal.returns-in_default-get
returns-in_default-get c = λ fs i made long finds is.
    absurd (has_node fs c.args.nodes.now c.args.name.now (owners_at (spots fs) i) c.loop-next.next c.in-Some.owner made c.in-Some.is (c.loop-next.invariant fs i made long finds is) c.in_default-get.ensures.lookup.3)

pub returns-in-Some-find : goal.returns-in-Some-find
returns-in-Some-find c = λ fs i made long finds is.
    let nodes = c.args.nodes.now in
    let lists = c.args.lists.now in
    let x = c.args.name.now in
    let all = owners_at (spots fs) i in
    let o = c.in-Some.owner in
    let node = c.in-Some-get.around.now in
    let names = c.in-Some-get-2.names.now in
    let here = slice_get_read nodes _ o node refl c.in-Some-get.ensures.lookup.3.0 c.in-Some-get.ensures.lookup.1 in
    let listed = slice_get_read lists _ o names refl c.in-Some-get-2.ensures.lookup.3.0 c.in-Some-get-2.ensures.lookup.1 in
    leads_in fs nodes x all o node (record { keep = c.depth-keep.result; to = c.in-Some-find.to }) made here (sym (finds o names listed x) ∙ sym c.find.ensures ∙ c.in-Some-find.is) c.depth-keep.ensures
    (inner fs (map node_view nodes) x all c.loop-next.next o c.in-Some.is (c.loop-next.invariant fs i made long finds is))

pub loop-next-preserved : goal.loop-next-preserved
loop-next-preserved c = λ fs i made long finds is.
    let nodes = c.args.nodes.now in
    let lists = c.args.lists.now in
    let x = c.args.name.now in
    let all = owners_at (spots fs) i in
    let o = c.in-Some.owner in
    let node = c.in-Some-get.around.now in
    let names = c.in-Some-get-2.names.now in
    let here = slice_get_read nodes _ o node refl c.in-Some-get.ensures.lookup.3.0 c.in-Some-get.ensures.lookup.1 in
    let listed = slice_get_read lists _ o names refl c.in-Some-get-2.ensures.lookup.3.0 c.in-Some-get-2.ensures.lookup.1 in
    subst (λ (n : Option ℕ). Outward fs (map node_view nodes) x all n) (sym c.outside-next.ensures)
    (goes_out fs nodes x all o node made here (sym (finds o names listed x) ∙ sym c.find.ensures ∙ c.in_default-find.is)
    (inner fs (map node_view nodes) x all c.loop-next.next o c.in-Some.is (c.loop-next.invariant fs i made long finds is)))
