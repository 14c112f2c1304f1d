use Rattle.std.proofs.Common.{sym, ap, ◌∙◌, arith}
use Rattle.wf_frames.proofs.LoopTurns.{next_is}
use Rattle.wf_frames.specs.Frames.{left_view}
use Rattle.wf_model.specs.Config.{next_of}
use Rattle.wf_frames.proofs.frames.Left.take.Goals as goal

pub returns-in_ok-item-in-Items : goal.returns-in_ok-item-in-Items
returns-in_ok-item-in-Items c =
    next_is c.items-items.result.now c.in-Items.list c.in-Items.at c.index-items-at.result c.in_ok-item-in-Items.item c.items-items.ensures (omega (arith, c.if-at-items.false)) c.index-items-at.is c.in_ok-item-in-Items.ensures
    ∙ ap (λ l. next_of (left_view l)) (sym c.in-Items.is)
