use Rattle.std.proofs.Common.{refl, sym}
use Rattle.std.proofs.lemmas.Result.{err_from_is_err_and}
use Rattle.wf_expr.proofs.Parsing.{both_ways, or_first, or_next, and_first, and_next, not_more, not_single, not_single_fails, cmp_alone, cmp_pair, sum_first, sum_next, term_first, term_next, minus_more, unary_plain, access_first, access_name, access_name_fails, access_index, access_index_fails, access_call, access_call_fails, atom_group, atom_group_fails, atom_read, args_none, given_first, given_first_fails, given_next, args_closed}
use Rattle.wf_expr.proofs.parser.+parse.Goals as goal

pub parse_or-more-init : goal.parse_or-more-init
parse_or-more-init t c = or_first _ _ _ c.in_ok-left.ensures

pub parse_or-more-preserved : goal.parse_or-more-preserved
parse_or-more-preserved t c =
    rw (c.in_ok-boxed.ensures, c.in_ok-boxed-2.ensures) (or_next _ _ _ _ _ c.more.invariant (sym c.more-test.ensures) (rw c.tail.ensures at c.in_ok-right.ensures))

pub parse_and-more-init : goal.parse_and-more-init
parse_and-more-init t c = and_first _ _ _ c.in_ok-left.ensures

pub parse_and-more-preserved : goal.parse_and-more-preserved
parse_and-more-preserved t c =
    rw (c.in_ok-boxed.ensures, c.in_ok-boxed-2.ensures) (and_next _ _ _ _ _ c.more.invariant (sym c.more-test.ensures) (rw c.tail.ensures at c.in_ok-right.ensures))

pub parse_not-returns-then-begins_not : goal.parse_not-returns-then-begins_not
parse_not-returns-then-begins_not t c = rw c.in_ok-boxed.ensures (not_more _ _ _ (sym c.if-begins_not.ensures) (rw c.tail.ensures at c.in_ok-operand.ensures))

pub parse_not-returns : goal.parse_not-returns
parse_not-returns t c = both_ways c.parse_cmp.result _ _ _ _ (λ r h. not_single _ _ _ (sym c.if-begins_not.ensures) h) (λ f h. not_single_fails _ _ (sym c.if-begins_not.ensures) h) c.parse_cmp.ensures

pub parse_cmp-returns-in_ok-boxed-in-Some-2 : goal.parse_cmp-returns-in_ok-boxed-in-Some-2
parse_cmp-returns-in_ok-boxed-in-Some-2 t c =
    rw (c.in_ok-boxed-in-Some.ensures, c.in_ok-boxed-in-Some-2.ensures) (cmp_pair _ _ _ _ _ _ (sym c.in-Some.ensures) c.in_ok-left.ensures (rw c.tail.ensures at c.in_ok-right-in-Some.ensures))

pub parse_cmp-returns-in-None : goal.parse_cmp-returns-in-None
parse_cmp-returns-in-None t c = cmp_alone _ _ _ (sym c.in-None.ensures) c.in_ok-left.ensures

pub parse_sum-more-init : goal.parse_sum-more-init
parse_sum-more-init t c = sum_first _ _ _ c.in_ok-left.ensures

pub parse_sum-more-preserved : goal.parse_sum-more-preserved
parse_sum-more-preserved t c =
    rw (c.in_ok-boxed.ensures, c.in_ok-boxed-2.ensures) (sum_next _ _ _ _ _ _ c.more.invariant (sym c.in-Some.ensures) (rw c.tail.ensures at c.in_ok-right.ensures))

pub parse_term-more-init : goal.parse_term-more-init
parse_term-more-init t c = term_first _ _ _ c.in_ok-left.ensures

pub parse_term-more-preserved : goal.parse_term-more-preserved
parse_term-more-preserved t c =
    rw (c.in_ok-boxed.ensures, c.in_ok-boxed-2.ensures) (term_next _ _ _ _ _ _ c.more.invariant (sym c.in-Some.ensures) (rw c.tail.ensures at c.in_ok-right.ensures))

pub parse_unary-returns-then-begins_minus : goal.parse_unary-returns-then-begins_minus
parse_unary-returns-then-begins_minus t c = rw c.in_ok-boxed.ensures (minus_more _ _ _ (sym c.if-begins_minus.ensures) (rw c.tail.ensures at c.in_ok-operand.ensures))

pub parse_unary-returns : goal.parse_unary-returns
parse_unary-returns t c = both_ways c.parse_access.result _ _ _ _ (λ r h. unary_plain _ _ _ h) (λ f h. h) c.parse_access.ensures

pub parse_access-more-init : goal.parse_access-more-init
parse_access-more-init t c = access_first _ _ _ _ c.in_ok-base.ensures c.in_ok-chain.ensures

pub parse_access-returns-in_err-key : goal.parse_access-returns-in_err-key
parse_access-returns-in_err-key t c =
    let p = err_from_is_err_and c.from_residual-in_err-key.result c.from_residual-in_err-key.ensures.1 in
    rw (p.1, p.2) (access_name_fails _ _ _ _ _ c.more.invariant (sym c.if-begins_point.ensures) (rw c.tail.ensures at c.in_err-key.ensures))

pub parse_access-more-preserved-then-begins_point : goal.parse_access-more-preserved-then-begins_point
parse_access-more-preserved-then-begins_point t c =
    rw (c.in_ok-boxed.ensures, c.in_ok-copied.ensures, c.in_ok-chain-2.ensures) (access_name _ _ _ _ _ _ c.more.invariant (sym c.if-begins_point.ensures) (rw c.tail.ensures at c.in_ok-key.ensures))

pub parse_access-returns-in_err-index : goal.parse_access-returns-in_err-index
parse_access-returns-in_err-index t c =
    let p = err_from_is_err_and c.from_residual-in_err-index.result c.from_residual-in_err-index.ensures.1 in
    rw (p.1, p.2) (access_index_fails _ _ _ _ _ c.more.invariant (sym c.if-begins_left_bracket.ensures) (rw c.tail-then-begins_left_bracket.ensures at c.in_err-index.ensures))

pub parse_access-more-preserved-then-begins_left_bracket : goal.parse_access-more-preserved-then-begins_left_bracket
parse_access-more-preserved-then-begins_left_bracket t c =
    rw (c.in_ok-boxed-2.ensures, c.in_ok-boxed-3.ensures) (access_index _ _ _ _ _ _ c.more.invariant (sym c.if-begins_left_bracket.ensures) (rw c.tail-then-begins_left_bracket.ensures at c.in_ok-index.ensures))

pub parse_access-returns-in_err-args : goal.parse_access-returns-in_err-args
parse_access-returns-in_err-args t c =
    let p = err_from_is_err_and c.from_residual-in_err-args.result c.from_residual-in_err-args.ensures.1 in
    rw (p.1, p.2) (access_call_fails _ _ _ _ _ (rw c.in-Some.is at c.more.invariant) (sym c.if-begins_left_paren.ensures) (rw c.tail-then-begins_left_paren.ensures at c.in_err-args.ensures))

pub parse_access-more-preserved : goal.parse_access-more-preserved
parse_access-more-preserved t c =
    access_call _ _ _ _ _ _ _ (rw c.in-Some.is at c.more.invariant) (sym c.if-begins_left_paren.ensures) (rw c.tail-then-begins_left_paren.ensures at c.in_ok-args.ensures) (rw c.deref.ensures at c.call-base.ensures)

pub parse_atom-returns-then-begins_left_paren : goal.parse_atom-returns-then-begins_left_paren
parse_atom-returns-then-begins_left_paren t c =
    both_ways c.parse_group.result _ _ _ _ (λ r h. atom_group _ _ _ (sym c.if-begins_left_paren.ensures) h) (λ f h. atom_group_fails _ _ (sym c.if-begins_left_paren.ensures) h) (rw c.tail.ensures at c.parse_group.ensures)

pub parse_atom-returns-in-Some : goal.parse_atom-returns-in-Some
parse_atom-returns-in-Some t c = rw c.tail-in-Some.ensures (atom_read _ _ _ refl (rw c.in-Some.is at c.in_ok-value.ensures))

pub parse_args-returns-then-begins_right_paren : goal.parse_args-returns-then-begins_right_paren
parse_args-returns-then-begins_right_paren t c = rw (c.in_ok-args.ensures, c.tail.ensures) (args_none _ (sym c.if-begins_right_paren.ensures))

pub parse_args-returns-in_err-first : goal.parse_args-returns-in_err-first
parse_args-returns-in_err-first t c =
    let p = err_from_is_err_and c.from_residual-in_err-first.result c.from_residual-in_err-first.ensures.1 in
    rw (p.1, p.2) (given_first_fails _ _ (sym c.if-begins_right_paren.ensures) c.in_err-first.ensures)

pub parse_args-more-init : goal.parse_args-more-init
parse_args-more-init t c = rw (c.in_ok-add.ensures, c.in_ok-args.ensures) (given_first _ _ _ (sym c.if-begins_right_paren.ensures) c.in_ok-first.ensures)

pub parse_args-more-preserved : goal.parse_args-more-preserved
parse_args-more-preserved t c =
    rw c.in_ok-add-2.ensures (given_next _ _ _ _ _ c.more.invariant (sym c.more-test.ensures) (rw c.tail-in-more.ensures at c.in_ok-next.ensures))

pub parse_args-returns-then-begins_right_paren-2 : goal.parse_args-returns-then-begins_right_paren-2
parse_args-returns-then-begins_right_paren-2 t c = rw c.tail-then-begins_right_paren-2.ensures (args_closed _ _ _ c.more.invariant (sym c.if-begins_right_paren-2.ensures))
