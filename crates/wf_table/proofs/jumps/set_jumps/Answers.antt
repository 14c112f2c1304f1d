use Rattle.std.proofs.Common.{◌≡◌, ◌<◌, List, Some, length, map, refl, sym, ap, ◌∙◌, subst, arith}
use Rattle.std.proofs.lemmas.List.{length-map}
use Rattle.std.proofs.lemmas.Option.{slice_get_read}
use Rattle.wf_table.proofs.Tabled.{JumpsTo, each_leads, jumps_turn, same_views}
use Rattle.wf_table.proofs.jumps.set_jumps.Goals as goal
use Rattle.wf_model.specs.NodeKinds.{View, node_view}
use Rattle.wf_table.specs.Named.{Finds}
use Rattle.wf_table.specs.declared.names.Names.{Names}
use Rattle.wf_model.specs.declared.node.Node.{Node}

pub loop-index-preserved : goal.loop-index-preserved
loop-index-preserved c =
    let first = c.args.nodes.now.items in
    let now = c.loop-index.nodes.items in
    let n = c.loop-index.index in
    let lists = c.in_ok-lists.lists.items in
    let w = c.index_mut.result.now in
    let x = c.index.result.now in
    let j = c.jump_of-jump.result in
    let y : Node = record { kind = w.kind; codes = w.codes; name = w.name; next = w.next; jump = j; owner = w.owner } in
    let h = c.loop-index.invariant in
    let bound : n < length now = omega (arith, c.loop-index-test.true, c.len-index-end.ensures, h.long) in
    let here = slice_get_read now _ n x refl bound c.index.ensures in
    let there = slice_get_read now _ n w refl bound c.index_mut.ensures.value in
    let both : Some w ≡ Some x = sym there ∙ here in
    let one : w ≡ x = cc in
    let views = same_views now n w y there refl ∙ h.views in
    let long : length lists ≡ length now = c.in_ok-lists.ensures.long ∙ ap length c.as_slice.ensures.value ∙ sym h.long in
    let finds : Finds (map node_view now) lists = subst (λ (v : List View). Finds v lists) (ap (map node_view) c.as_slice.ensures.value ∙ sym h.views) c.in_ok-lists.ensures.finds in
    let jumps : JumpsTo now lists x j =
    subst (λ (l : List Names). JumpsTo now l x j) c.as_slice-in-loop-index-2.ensures.value
    (subst (λ (l : List Node). JumpsTo l c.as_slice-in-loop-index-2.result.now x j) c.as_slice-in-loop-index.ensures.value c.jump_of-jump.ensures) in
    record {
      long = sym (length-map _ node_view) ∙ ap length views ∙ length-map first node_view;
      views = views;
      jumps = λ fs made. jumps_turn fs first now _ n x y here refl (ap (λ (v : Node). v.next) one) h.views (jumps fs n (h.views ∙ made) long finds here) (h.jumps fs made);
    }

pub returns-clause-jumps : goal.returns-clause-jumps
returns-clause-jumps c = λ fs made.
    each_leads fs c.args.nodes.now.items c.loop-index.nodes.items c.loop-index.index (omega (arith, c.loop-index-test.false, c.len-index-end.ensures, c.loop-index.invariant.long)) c.loop-index.invariant.views
    (c.loop-index.invariant.jumps fs made)
