use Rattle.std.proofs.Common.{sym}
use Rattle.std.proofs.lemmas.Result.{err_from_is_err_and}
use Rattle.wf_expr.proofs.Targeted.{target_fails, target_first, target_next, target_no_name, target_whole}
use Rattle.wf_expr.specs.Kinds.{syms_of}
use Rattle.wf_expr.proofs.target.whole.Goals as goal

pub returns-in_default : goal.returns-in_default
returns-in_default c = target_no_name c.args.symbols.now (sym c.in_default.ensures)

pub more-init : goal.more-init
more-init c = rw (c.in_ok-places.ensures, c.tail-rest.ensures) (target_first _ _ (sym c.in-Some.ensures))

pub returns-in_err-next : goal.returns-in_err-next
returns-in_err-next c =
    let p = err_from_is_err_and c.from_residual-in_err-next.result c.from_residual-in_err-next.ensures.1 in
    rw (p.1, p.2) (target_fails (syms_of c.args.symbols.now) (syms_of c.more.rest.now) _ _ _ c.more.invariant c.in_err-next.ensures)

pub more-preserved : goal.more-preserved
more-preserved c = rw c.in_ok-add.ensures (target_next (syms_of c.args.symbols.now) (syms_of c.more.rest.now) _ _ _ _ c.more.invariant c.in_ok-next.ensures)

pub returns : goal.returns
returns c = rw (c.in_ok-copied.ensures, c.in_ok-written.ensures) (target_whole _ c.more.rest.now _ _ _ (sym c.more-test.ensures) c.more.invariant)
