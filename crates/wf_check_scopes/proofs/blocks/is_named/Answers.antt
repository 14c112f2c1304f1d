use Rattle.std.proofs.Common.{true, false, map, sym, ap, ◌∙◌}
use Rattle.wf_lemmas.proofs.Lists.{drop_end}
use Rattle.wf_ast.specs.View.{branch_view}
use Rattle.wf_check_scopes.proofs.Vacant.{among_reverse, named_next}
use Rattle.wf_check_scopes.proofs.blocks.is_named.Goals as goal
use Rattle.wf_value.specs.HttpRequest.{is_among}

pub returns-then-eq : goal.returns-then-eq
returns-then-eq c = let bs = c.args.branches.now in
    sym (among_reverse c.args.name.now (map (λ y. (branch_view y).0) bs) ∙ c.loop-branch.invariant
    ∙ named_next c.args.name.now bs c.loop-branch.branch-index c.branch-item.result c.as_str.result.now true c.loop-branch-test.true c.branch-item.is c.as_str.ensures (sym c.if-eq.true ∙ c.eq.ensures))

pub loop-branch-preserved : goal.loop-branch-preserved
loop-branch-preserved c =
    c.loop-branch.invariant
    ∙ named_next c.args.name.now c.args.branches.now c.loop-branch.branch-index c.branch-item.result c.as_str.result.now false c.loop-branch-test.true c.branch-item.is c.as_str.ensures (sym c.if-eq.false ∙ c.eq.ensures)

pub returns : goal.returns
returns c = let bs = c.args.branches.now in
    sym (among_reverse c.args.name.now (map (λ y. (branch_view y).0) bs) ∙ c.loop-branch.invariant
    ∙ ap (λ l. is_among c.args.name.now (map (λ y. (branch_view y).0) l)) (drop_end bs c.loop-branch.branch-index c.loop-branch-test.false))
