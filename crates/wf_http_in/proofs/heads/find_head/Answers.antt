use Rattle.std.proofs.Common.{◌+◌, ◌≡◌, ◌⊎◌, ◌∙◌, inl, inr, length, sym, true}
use Rattle.wf_http_body.proofs.Reading.{own_front, front_within, read_within}
use Rattle.wf_http_in.specs.Found.{is_settled}
use Rattle.wf_http_in.proofs.Coming.{head_found, heard_more, passed_behind}
use Rattle.wf_http_in.proofs.heads.find_head.Goals.{then-used-piece-via-then-used-piece, then-used-piece-via-else-used-piece+then-is_settled}
use Rattle.wf_http_in.proofs.heads.find_head.Goals as goal

pub returns-then-used-piece-clause-found : goal.returns-then-used-piece-clause-found
returns-then-used-piece-clause-found c =
    let piece = c.args.piece.now in
    let was = c.loop-used.heard.items in
    let rest = c.split_at.result.1.now in
    let front = c.split_at-in-loop-used-2.result.0.now in
    let heard = c.add.new.bytes.items in
    let behind = c.split_at-in-loop-used-3.result.1.now in
    let behind_is = rw c.as_slice-in-loop-used.ensures.value at c.split_at-in-loop-used-3.ensures.back in
    let front_is = own_front front rest piece _ c.loop-used.used c.split_at-in-loop-used-2.ensures.front c.split_at.ensures.back in
    let done : (c.loop-used.used + length front ≡ length piece) ⊎ (is_settled c.in_ok-more.heading ≡ true) = elim c.then-used-piece.branch [
      | then-used-piece-via-then-used-piece w ↦ inl w.if-used-piece.true
      | then-used-piece-via-else-used-piece+then-is_settled w ↦ inr (sym w.is_settled.ensures ∙ w.if-is_settled.true)
    ] in
    head_found c.args.heard.now.items piece was front heard behind c.loop-used.used (length front) c.loop-used.passed c.in_ok-more.more c.in_ok-more.heading c.loop-used.invariant.heard_is front_is
    c.in_ok-add.ensures.added c.loop-used.invariant.within c.loop-used.invariant.passed behind_is c.in_ok-more.ensures.within c.in_ok-more.ensures.passed c.in_ok-more.ensures.heading
    c.in_ok-more.ensures.last done

pub loop-used-preserved : goal.loop-used-preserved
loop-used-preserved c =
    let piece = c.args.piece.now in
    let was = c.loop-used.heard.items in
    let rest = c.split_at.result.1.now in
    let front = c.split_at-in-loop-used-2.result.0.now in
    let heard = c.add.new.bytes.items in
    let behind = c.split_at-in-loop-used-3.result.1.now in
    let behind_is = rw c.as_slice-in-loop-used.ensures.value at c.split_at-in-loop-used-3.ensures.back in
    let front_is = own_front front rest piece _ c.loop-used.used c.split_at-in-loop-used-2.ensures.front c.split_at.ensures.back in
    record {
      piece = front_within front rest piece _ c.loop-used.used c.split_at-in-loop-used-2.ensures.front c.split_at.ensures.back c.loop-used.invariant.piece;
      heard_is = heard_more c.args.heard.now.items piece was front heard c.loop-used.used (length front) c.loop-used.invariant.heard_is front_is c.in_ok-add.ensures.added;
      within = read_within was front heard behind c.loop-used.passed c.in_ok-more.more c.loop-used.invariant.within c.in_ok-add.ensures.added behind_is c.in_ok-more.ensures.within;
      passed = passed_behind was front heard behind c.loop-used.passed c.in_ok-more.more c.in_ok-add.ensures.added c.loop-used.invariant.within c.loop-used.invariant.passed behind_is c.in_ok-more.ensures.passed;
    }
