use Rattle.std.proofs.Common.{◌+◌, ◌++◌, drop, take, length, subst}
use Rattle.wf_http_body.specs.Parts.{IsRead}
use Rattle.wf_http_body.proofs.Reading.{front_read, front_within, read_within, grown_more, grown_twice, is_settled}
use Rattle.wf_http_body.proofs.body.read_begun.Goals as goal

pub returns-in-Whole : goal.returns-in-Whole
returns-in-Whole c =
    let piece = c.args.piece.now in
    let unread = c.loop-used.unread.items in
    let rest = c.split_at.result.1.now in
    let front = c.split_at-in-loop-used.result.0.now in
    let joined = c.add.new.bytes.items in
    let begun = c.split_at-in-loop-used-2.result.1.now in
    let begins = rw c.as_slice.ensures.value at c.split_at-in-loop-used-2.ensures.back in
    record {
      unread = grown_more c.args.unread.now.items unread front joined c.loop-used.invariant.unread c.in_ok-add.ensures.added;
      content = grown_twice c.args.content.now.items c.loop-used.content.items _ c.loop-used.invariant.content c.in_ok-read.ensures.grown;
      within = read_within unread front joined begun c.loop-used.used c.in_ok-read.read.used c.loop-used.invariant.within c.in_ok-add.ensures.added begins c.in_ok-read.ensures.within;
      piece = front_within front rest piece _ c.loop-used.heard c.split_at-in-loop-used.ensures.front c.split_at.ensures.back c.loop-used.invariant.piece;
      read = λ all at. front_read c.args.limit c.loop-used.next c.in_ok-read.read.place all unread c.loop-used.content.items piece rest front joined begun c.read_parts.new.content.items
          c.loop-used.used c.loop-used.heard c.in_ok-read.read.used _ c.in_ok-read.read.end (c.loop-used.invariant.read all at) c.loop-used.invariant.within
          c.split_at-in-loop-used.ensures.front c.split_at.ensures.back c.in_ok-add.ensures.added begins c.in_ok-read.ensures.read;
      all = λ more lt. absurd (is_settled c.in_ok-read.read.end c.in-Whole.is more);
    }

pub loop-used-preserved : goal.loop-used-preserved
loop-used-preserved c =
    let piece = c.args.piece.now in
    let unread = c.loop-used.unread.items in
    let rest = c.split_at.result.1.now in
    let front = c.split_at-in-loop-used.result.0.now in
    let joined = c.add.new.bytes.items in
    let begun = c.split_at-in-loop-used-2.result.1.now in
    let begins = rw c.as_slice.ensures.value at c.split_at-in-loop-used-2.ensures.back in
    record {
      within = read_within unread front joined begun c.loop-used.used c.in_ok-read.read.used c.loop-used.invariant.within c.in_ok-add.ensures.added begins c.in_ok-read.ensures.within;
      piece = front_within front rest piece _ c.loop-used.heard c.split_at-in-loop-used.ensures.front c.split_at.ensures.back c.loop-used.invariant.piece;
      unread = grown_more c.args.unread.now.items unread front joined c.loop-used.invariant.unread c.in_ok-add.ensures.added;
      content = grown_twice c.args.content.now.items c.loop-used.content.items _ c.loop-used.invariant.content c.in_ok-read.ensures.grown;
      read = λ all at. subst (IsRead c.args.limit c.in_ok-read.read.place (all ++ take (c.loop-used.heard + length front) piece) (drop (c.loop-used.used + c.in_ok-read.read.used) joined) c.read_parts.new.content.items) c.in-More.is
          (front_read c.args.limit c.loop-used.next c.in_ok-read.read.place all unread c.loop-used.content.items piece rest front joined begun c.read_parts.new.content.items
          c.loop-used.used c.loop-used.heard c.in_ok-read.read.used _ c.in_ok-read.read.end (c.loop-used.invariant.read all at) c.loop-used.invariant.within
          c.split_at-in-loop-used.ensures.front c.split_at.ensures.back c.in_ok-add.ensures.added begins c.in_ok-read.ensures.read);
    }
