-- Only the first words begin with bits, and what is carried is given by ways.
use Rattle.std.proofs.Common.{sym, ◌∙◌}
use Rattle.wf_assigned.proofs.Ways.{begins_ways}
use Rattle.wf_assigned.proofs.solve.Order.solve.Goals as goal

pub returns-then-are_full : goal.returns-then-are_full
returns-then-are_full c = λ done zero. record {
  start = c.are_full.ensures c.if-are_full.true;
  settled = sym c.is_settled.ensures ∙ done;
  ways = c.in_ok-carry.ensures c.args.count (begins_ways c.args.count c.args.links.now c.args.written.now c.fill.new.words (λ i l. c.fill.ensures i l ∙ zero i));
}
