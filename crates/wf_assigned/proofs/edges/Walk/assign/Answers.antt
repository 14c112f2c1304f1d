use Rattle.std.proofs.Common.{◌∷◌, map, ap, ◌∙◌}
use Rattle.wf_assigned.proofs.Laying.{adds_then, of_these}
use Rattle.wf_assigned.proofs.edges.Walk.assign.Goals as goal
use Rattle.wf_assigned.specs.Edges.{At, entries_edges, next_entry, passing}
use Rattle.wf_assigned.specs.Laid.{site_of}
use Rattle.wf_ast.specs.View.{entry_view}
use Rattle.wf_lemmas.proofs.Results.{with_ok}

pub returns-clause-adds : goal.returns-clause-adds
returns-clause-adds c = with_ok _ _ c.entries.result (λ n h around.
    let a = site_of c.args.here around in
    let es = map entry_view c.args.entries.now in
    let at = c.in_ok-first.ensures in
    let leads = c.next_entry-to.ensures ∙ ap (λ z. next_entry es z c.args.number) at in
    of_these c.args.self.now c.entries.new.self _ _ (λ i. passing a (At c.args.number) (leads i) ∷ entries_edges es (at i) c.args.number a) (adds_then c.args.self.now c.passing.new.self c.entries.new.self _ _ (c.in_ok-passing.ensures around) (h around))) c.entries.ensures.adds
