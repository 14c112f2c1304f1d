use Rattle.std.proofs.Common.{add-one, arith, map, refl, sym, ◌∙◌}
use Rattle.wf_assigned.proofs.Counting.{count_ends, count_next}
use Rattle.wf_assigned.proofs.Laying.{on_starts}
use Rattle.wf_assigned.proofs.Stepping.{entry_goes, none_goes}
use Rattle.wf_assigned.proofs.edges.Walk.entries.Goals as goal
use Rattle.wf_assigned.specs.Edges.{entries_edges}
use Rattle.wf_assigned.specs.Laid.{site_of}
use Rattle.wf_ast.specs.View.{entry_view}
use Rattle.wf_model.specs.Spots.{entries_size}

pub loop-index-init : goal.loop-index-init
loop-index-init c = record { number = refl; adds = λ around. on_starts _ _ }

pub loop-index-preserved : goal.loop-index-preserved
loop-index-preserved c =
    let items = c.args.entries.now in
    let i = c.loop-index.index in
    let x = c.index-entries-index.result in
    let k = c.loop-index.invariant in
    record {
      number = count_next (λ l. entries_size (map entry_view l)) (λ y. 1) items i x c.loop-index.number c.in_ok-behind.behind _ c.loop-index-test.true c.index-entries-index.is (λ y ys. omega arith) k.number (c.in_ok-behind.ensures ∙ sym (add-one c.loop-index.number));
      adds = λ around. entry_goes (site_of c.args.here around) items i x _ c.loop-index.self c.writing.new.self c.leading.new.self c.loop-index.number c.in_ok-behind.behind c.args.assign c.next_entry-to.result c.in_ok-writes.writes _ c.loop-index-test.true c.index-entries-index.is
          c.in_ok-behind.ensures c.next_entry-to.ensures c.in_ok-writes.ensures (k.adds around) (c.in_ok-writing.ensures around) c.in_ok-leading.ensures;
    }

pub returns : goal.returns
returns c = record {
  number = count_ends (λ l. entries_size (map entry_view l)) c.args.entries.now c.loop-index.index c.loop-index.number _ c.loop-index-test.false refl c.loop-index.invariant.number;
  adds = λ around. none_goes (λ l. entries_edges (map entry_view l) c.loop-index.number c.args.assign (site_of c.args.here around)) c.args.entries.now c.loop-index.index _ c.loop-index.self _ c.loop-index-test.false refl (c.loop-index.invariant.adds around);
}
