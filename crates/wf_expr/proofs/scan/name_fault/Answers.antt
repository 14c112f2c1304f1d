use Rattle.std.proofs.Common.{refl, sym}
use Rattle.wf_expr.proofs.Scans.{called_faults, joined, joined_faults}
use Rattle.wf_expr.proofs.scan.name_fault.Goals as goal

pub join-preserved : goal.join-preserved
join-preserved c =
    let text = joined _ _ _ _ _ _ c.in_ok-push_str.ensures.bytes refl c.in_ok-push_str-2.ensures.bytes c.as_str-in-Some.ensures in
    joined_faults _ _ _ _ _ _ _ _ text c.tail.ensures c.tail-rest.ensures (sym c.in-Some.ensures) c.join.invariant

pub returns-then-begins_left_paren : goal.returns-then-begins_left_paren
returns-then-begins_left_paren c =
    called_faults _ _ _ _ _ _ _ c.call_fault.ensures c.deref.ensures c.tail-then-begins_left_paren.ensures (sym c.if-begins_left_paren.ensures) c.join.invariant
