use Rattle.std.proofs.Common.{true, false, refl, sym, ◌∙◌}
use Rattle.wf_check_scopes.proofs.Reach.{reach_next}
use Rattle.wf_check_scopes.proofs.blocks.is_in_reach.Goals as goal

pub returns-then-has : goal.returns-then-has
returns-then-has c = let b = c.block-item.result in
    sym (c.loop-block.invariant ∙ reach_next c.args.name.now c.args.blocks.now c.loop-block.block-index b true b.is_closed c.loop-block-test.true c.block-item.is (sym c.if-has.true ∙ c.has.ensures) refl)

pub returns-then-block : goal.returns-then-block
returns-then-block c = let b = c.block-item.result in
    sym (c.loop-block.invariant ∙ reach_next c.args.name.now c.args.blocks.now c.loop-block.block-index b false true c.loop-block-test.true c.block-item.is (sym c.if-has.false ∙ c.has.ensures) (sym c.if-block.true))

pub loop-block-preserved : goal.loop-block-preserved
loop-block-preserved c = let b = c.block-item.result in
    c.loop-block.invariant ∙ reach_next c.args.name.now c.args.blocks.now c.loop-block.block-index b false false c.loop-block-test.true c.block-item.is (sym c.if-has.false ∙ c.has.ensures) (sym c.if-block.false)
