use Rattle.std.proofs.Common.{arith, drop, ◌++◌, take, subst}
use Rattle.wf_http_body.specs.Parts.{IsRead}
use Rattle.wf_http_body.proofs.Reading.{settled_before, all_heard, rest_read}
use Rattle.wf_http_body.proofs.body.read_piece.Goals as goal

pub returns-in-Whole-clause-read : goal.returns-in-Whole-clause-read
returns-in-Whole-clause-read c = λ all at.
    settled_before c.args.limit _ all _ _ c.args.piece.now c.in_ok-read.heard c.in_ok-read.read.end c.in-Whole.is (c.in_ok-read.ensures.read all at)

pub returns-then-heard-piece-clause-read : goal.returns-then-heard-piece-clause-read
returns-then-heard-piece-clause-read c = λ all at.
    all_heard c.args.limit _ all _ _ c.args.piece.now c.in_ok-read.heard c.in_ok-read.read.end (omega arith) (c.in_ok-read.ensures.read all at)

pub returns-clause-read : goal.returns-clause-read
returns-clause-read c = λ all at.
    let open_part = subst (IsRead c.args.limit c.in_ok-read.read.place (all ++ take c.in_ok-read.heard c.args.piece.now) (drop c.in_ok-read.read.used c.read_begun.new.unread.items) c.read_begun.new.content.items) c.in-More.is (c.in_ok-read.ensures.read all at) in
    rest_read c.args.limit c.in_ok-read.read.place _ all c.read_begun.new.unread.items c.read_begun.new.content.items c.args.piece.now c.split_at.result.1.now c.split_at-2.result.1.now _ _
    c.in_ok-read.read.used c.in_ok-read.heard c.in_ok-more.more.used _ open_part c.in_ok-read.ensures.within (c.in_ok-read.ensures.all c.in-More.is (omega arith)) c.split_at.ensures.back c.split_at-2.ensures.back
    c.in_ok-add.ensures.added c.in_ok-more.ensures.read
