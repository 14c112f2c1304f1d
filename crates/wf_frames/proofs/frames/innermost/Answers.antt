use Rattle.std.proofs.Common.{◌-◌, reverse, take, sym, ap, ◌∙◌, arith}
use Rattle.wf_frames.specs.Innermost.{innermost}
use Rattle.wf_frames.proofs.Owning.{innermost_mark, taken}
use Rattle.wf_frames.proofs.frames.innermost.Goals as goal

pub returns-in-Some : goal.returns-in-Some
returns-in-Some c =
    let first = c.args.first in
    let xs = c.args.items.now in
    sym (
    c.loop-at.invariant.none
    ∙ ap (innermost first) (taken xs c.loop-at.at (c.loop-at.at - 1) c.index-items-at.result (omega (arith, c.loop-at-test.true)) (omega (arith, c.loop-at-test.true, c.loop-at.invariant.within)) c.index-items-at.is)
    ∙ innermost_mark first c.index-items-at.result c.in-Some.number (reverse (take (c.loop-at.at - 1) xs)) (sym c.in-Some.ensures)
    )
