use Rattle.std.proofs.Common.{sym}
use Rattle.wf_expr.proofs.Parsing.{both_ways}
use Rattle.wf_expr.proofs.Targeted.{place_index, place_index_fails, place_name}
use Rattle.wf_expr.proofs.target.one_place.Goals as goal

pub returns-in_ok-copied-in-Some : goal.returns-in_ok-copied-in-Some
returns-in_ok-copied-in-Some c =
    rw (c.in_ok-copied-in-Some.ensures, c.tail.ensures, c.tail-after.ensures) (place_name _ _ (sym c.if-begins_point.ensures) (rw c.tail-after.ensures at (sym c.in-Some.ensures)))

pub returns-then-begins_left_bracket : goal.returns-then-begins_left_bracket
returns-then-begins_left_bracket c =
    both_ways c.index.result _ _ _ _ (λ r h. place_index _ _ _ (sym c.if-begins_left_bracket.ensures) h) (λ f h. place_index_fails _ _ (sym c.if-begins_left_bracket.ensures) h) (rw c.tail-then-begins_left_bracket.ensures at c.index.ensures)
