use Rattle.std.proofs.Common.{sym, ap}
use Rattle.wf_syntax_rules.specs.Rules.{Backoff}
use Rattle.wf_syntax.proofs.Retries.{backoff_given, initial_fails, max_fails, multiplier_fails, passed}
use Rattle.wf_syntax.proofs.policies.backoff.Goals as goal
use Rattle.wf_tree.specs.Plain.{plain_tree}
use Rattle.wf_tree.specs.Trees.{pairs_of}

pub returns-in_err-delay_at : goal.returns-in_err-delay_at
returns-in_err-delay_at c =
    passed c.from_residual.result _ Backoff _ c.in_err-delay_at.field-0.0 c.from_residual.ensures (initial_fails _ (pairs_of c.in-Map.fields) c.in_err-delay_at.field-0.0 (ap plain_tree c.in-Map.is) (sym c.in_default-map_fault.ensures) c.in_err-delay_at.ensures)

pub returns-in_err-delay_at-2 : goal.returns-in_err-delay_at-2
returns-in_err-delay_at-2 c =
    passed c.from_residual-in_err-delay_at-2.result _ Backoff _ c.in_err-delay_at-2.field-0.0 c.from_residual-in_err-delay_at-2.ensures
    (max_fails _ (pairs_of c.in-Map.fields) c.in_err-delay_at-2.field-0.0 (ap plain_tree c.in-Map.is) (sym c.in_default-map_fault.ensures) c.in_ok-delay_at.ensures.0 c.in_err-delay_at-2.ensures)

pub returns-in_err-factor_at : goal.returns-in_err-factor_at
returns-in_err-factor_at c =
    passed c.from_residual-in_err-factor_at.result _ Backoff _ c.in_err-factor_at.field-0.0 c.from_residual-in_err-factor_at.ensures
    (multiplier_fails _ (pairs_of c.in-Map.fields) c.in_err-factor_at.field-0.0 (ap plain_tree c.in-Map.is) (sym c.in_default-map_fault.ensures) c.in_ok-delay_at.ensures.0 c.in_ok-delay_at-2.ensures.0 c.in_err-factor_at.ensures)

pub returns : goal.returns
returns c =
    backoff_given _ (pairs_of c.in-Map.fields) (record { initial = c.in_ok-delay_at.field-0; max = c.in_ok-delay_at-2.field-0; multiplier = c.in_ok-factor_at.field-0 }) (ap plain_tree c.in-Map.is) (sym c.in_default-map_fault.ensures)
    c.in_ok-delay_at.ensures c.in_ok-delay_at-2.ensures c.in_ok-factor_at.ensures
