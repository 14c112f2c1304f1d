use Rattle.std.proofs.Common.{sym}
use Rattle.wf_ast.specs.View.{predicate_view}
use Rattle.wf_syntax_rules.specs.Rules.{Retry}
use Rattle.wf_syntax.proofs.Retries.{attempts_fails, backoff_fails, own_given, passed, predicate_fails}
use Rattle.wf_syntax.proofs.policies.own_policy.Goals as goal
use Rattle.wf_tree.specs.Trees.{pairs_of}

pub returns-in_err-backoff : goal.returns-in_err-backoff
returns-in_err-backoff c = passed c.from_residual.result _ Retry _ c.in_err-backoff.field-0.0 c.from_residual.ensures (backoff_fails (pairs_of c.args.fields.now) c.in_err-backoff.field-0.0 (sym c.in_default.ensures) c.in_err-backoff.ensures)

pub returns-in_err-max_retries : goal.returns-in_err-max_retries
returns-in_err-max_retries c =
    passed c.from_residual-in_err-max_retries.result _ Retry _ c.in_err-max_retries.field-0.0 c.from_residual-in_err-max_retries.ensures (attempts_fails (pairs_of c.args.fields.now) c.in_err-max_retries.field-0.0 (sym c.in_default.ensures) c.in_ok-backoff.ensures.0 c.in_err-max_retries.ensures)

pub returns-in_err-predicate : goal.returns-in_err-predicate
returns-in_err-predicate c =
    passed c.from_residual-in_err-predicate.result _ Retry _ c.in_err-predicate.field-0.0 c.from_residual-in_err-predicate.ensures
    (predicate_fails (pairs_of c.args.fields.now) c.in_err-predicate.field-0.0 (sym c.in_default.ensures) c.in_ok-backoff.ensures.0 c.in_ok-max_retries.ensures.0 c.in_err-predicate.ensures)

pub returns : goal.returns
returns c =
    own_given (pairs_of c.args.fields.now) (record { predicate = predicate_view c.in_ok-predicate.predicate; max_retries = c.in_ok-max_retries.max_retries; backoff = c.in_ok-backoff.backoff })
    (sym c.in_default.ensures) c.in_ok-backoff.ensures c.in_ok-max_retries.ensures c.in_ok-predicate.ensures
