use Rattle.std.proofs.Common.{List, ◌++◌, sym, ap, subst}
use Rattle.wf_assigned.proofs.Laying.{adds_then, finds_still, of_these}
use Rattle.wf_assigned.proofs.edges.Walk.ending.Goals as goal
use Rattle.wf_assigned.specs.Edges.{EndOf, failing, to_some}
use Rattle.wf_assigned.specs.Laid.{Finds, site_of}
use Rattle.wf_assigned.specs.declared.blocks.Block.{Block}
use Rattle.wf_lemmas.proofs.Results.{on_ok}

pub returns : goal.returns
returns c = on_ok c.leading-2.result (λ h around f.
    let first = failing (site_of c.args.here around) (EndOf c.args.number) in
    let there = subst (λ (z : List Block). Finds z around) (sym c.as_slice.ensures.value) (finds_still c.args.self.now c.leading.new.self first around c.in_ok-leading.ensures f) in
    of_these c.args.self.now c.leading-2.new.self _ _ (ap (λ z. first ++ to_some (EndOf c.args.number) z) (c.follow-follow.ensures around there)) (adds_then c.args.self.now c.leading.new.self c.leading-2.new.self first _ c.in_ok-leading.ensures h)) c.leading-2.ensures
