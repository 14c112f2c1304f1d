use Rattle.std.proofs.Common.{◌≡◌, ◌++◌, ◌-◌, ◌≤◌, ℕ, List, length, take, drop}
use Rattle.wf_http_body.specs.Parts.{IsOpenPart}
use Rattle.wf_http_body.proofs.body.read_begun.Given as goal

abbrev pub invariant-loop-used : goal.invariant-loop-used
invariant-loop-used l = record {
  within : l.used ≤ length l.unread.items;
  piece : l.heard ≤ length l.piece;
  unread : take (length l.fn.unread.items) l.unread.items ≡ l.fn.unread.items;
  content : take (length l.fn.content.items) l.content.items ≡ l.fn.content.items;
  read : (all : List ℕ) → IsOpenPart l.limit l.fn.place all l.fn.unread.items l.fn.content.items
      → IsOpenPart l.limit l.next (all ++ take l.heard l.piece) (drop l.used l.unread.items) l.content.items;
}

abbrev pub decreases-loop-used : goal.decreases-loop-used
decreases-loop-used l = length l.piece - l.heard
