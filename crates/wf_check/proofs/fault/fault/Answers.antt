use Rattle.std.proofs.Common.{◌∙◌, Err, map, ap}
use Rattle.std.proofs.lemmas.Result.{err_from_is_err_and}
use Rattle.wf_ast.specs.View.{flow_view}
use Rattle.wf_check.proofs.Chain.{all_of, chained, holds_anyway}
use Rattle.wf_diagnostics.proofs.Told.{alone, here_first, later}
use Rattle.wf_check.proofs.fault.fault.Goals as goal
use Rattle.wf_symbols.specs.Around.{around_view}
use Rattle.wf_symbols.specs.Names.{names_of}
use Rattle.wf_diagnostics.specs.Parts.{part_view}

pub returns-in_err-empty-clause-first : goal.returns-in_err-empty-clause-first
returns-in_err-empty-clause-first c =
    let err = err_from_is_err_and c.from_residual.result c.from_residual.ensures.1 in
    chained c.from_residual.result c.in_err-empty.field-0.0 (map flow_view c.args.flows.now) c.args.progress.now.number (names_of c.args.progress.now.seen) (part_view c.args.part.now) (around_view c.args.progress.now.scopes c.args.here) (err.1 ∙ ap Err err.2)
    (here_first c.in_err-empty.field-0.0 _ _ c.in_err-empty.ensures)

pub returns-in_err-double-clause-first : goal.returns-in_err-double-clause-first
returns-in_err-double-clause-first c =
    let err = err_from_is_err_and c.from_residual-in_err-double.result c.from_residual-in_err-double.ensures.1 in
    chained c.from_residual-in_err-double.result c.in_err-double.field-0.0 (map flow_view c.args.flows.now) c.args.progress.now.number (names_of c.args.progress.now.seen) (part_view c.args.part.now) (around_view c.args.progress.now.scopes c.args.here) (err.1 ∙ ap Err err.2)
    (later (Err c.in_err-double.field-0.0) _ _ c.in_ok-empty.ensures (here_first c.in_err-double.field-0.0 _ _ c.in_err-double.ensures))

pub returns-in_err-unknown_step-clause-first : goal.returns-in_err-unknown_step-clause-first
returns-in_err-unknown_step-clause-first c =
    let err = err_from_is_err_and c.from_residual-in_err-unknown_step.result c.from_residual-in_err-unknown_step.ensures.1 in
    chained c.from_residual-in_err-unknown_step.result c.in_err-unknown_step.field-0.0 (map flow_view c.args.flows.now) c.args.progress.now.number (names_of c.args.progress.now.seen) (part_view c.args.part.now) (around_view c.args.progress.now.scopes c.args.here) (err.1 ∙ ap Err err.2)
    (later (Err c.in_err-unknown_step.field-0.0) _ _ c.in_ok-empty.ensures (later (Err c.in_err-unknown_step.field-0.0) _ _ c.in_ok-double.ensures (here_first c.in_err-unknown_step.field-0.0 _ _ c.in_err-unknown_step.ensures)))

pub returns-in_err-out_of_scope-clause-first : goal.returns-in_err-out_of_scope-clause-first
returns-in_err-out_of_scope-clause-first c =
    let err = err_from_is_err_and c.from_residual-in_err-out_of_scope.result c.from_residual-in_err-out_of_scope.ensures.1 in
    chained c.from_residual-in_err-out_of_scope.result c.in_err-out_of_scope.field-0.0 (map flow_view c.args.flows.now) c.args.progress.now.number (names_of c.args.progress.now.seen) (part_view c.args.part.now) (around_view c.args.progress.now.scopes c.args.here) (err.1 ∙ ap Err err.2)
    (later (Err c.in_err-out_of_scope.field-0.0) _ _ c.in_ok-empty.ensures (later (Err c.in_err-out_of_scope.field-0.0) _ _ c.in_ok-double.ensures (later (Err c.in_err-out_of_scope.field-0.0) _ _ c.in_ok-unknown_step.ensures (here_first c.in_err-out_of_scope.field-0.0 _ _ c.in_err-out_of_scope.ensures))))

pub returns-in_err-outside_loop-clause-first : goal.returns-in_err-outside_loop-clause-first
returns-in_err-outside_loop-clause-first c =
    let err = err_from_is_err_and c.from_residual-in_err-outside_loop.result c.from_residual-in_err-outside_loop.ensures.1 in
    chained c.from_residual-in_err-outside_loop.result c.in_err-outside_loop.field-0.0 (map flow_view c.args.flows.now) c.args.progress.now.number (names_of c.args.progress.now.seen) (part_view c.args.part.now) (around_view c.args.progress.now.scopes c.args.here) (err.1 ∙ ap Err err.2)
    (later (Err c.in_err-outside_loop.field-0.0) _ _ c.in_ok-empty.ensures (later (Err c.in_err-outside_loop.field-0.0) _ _ c.in_ok-double.ensures (later (Err c.in_err-outside_loop.field-0.0) _ _ c.in_ok-unknown_step.ensures (later (Err c.in_err-outside_loop.field-0.0) _ _ c.in_ok-out_of_scope.ensures (here_first c.in_err-outside_loop.field-0.0 _ _ c.in_err-outside_loop.ensures)))))

pub returns-in_err-return_in_branch-clause-first : goal.returns-in_err-return_in_branch-clause-first
returns-in_err-return_in_branch-clause-first c =
    let err = err_from_is_err_and c.from_residual-in_err-return_in_branch.result c.from_residual-in_err-return_in_branch.ensures.1 in
    chained c.from_residual-in_err-return_in_branch.result c.in_err-return_in_branch.field-0.0 (map flow_view c.args.flows.now) c.args.progress.now.number (names_of c.args.progress.now.seen) (part_view c.args.part.now) (around_view c.args.progress.now.scopes c.args.here) (err.1 ∙ ap Err err.2)
    (later (Err c.in_err-return_in_branch.field-0.0) _ _ c.in_ok-empty.ensures (later (Err c.in_err-return_in_branch.field-0.0) _ _ c.in_ok-double.ensures (later (Err c.in_err-return_in_branch.field-0.0) _ _ c.in_ok-unknown_step.ensures (later (Err c.in_err-return_in_branch.field-0.0) _ _ c.in_ok-out_of_scope.ensures (later (Err c.in_err-return_in_branch.field-0.0) _ _ c.in_ok-outside_loop.ensures (here_first c.in_err-return_in_branch.field-0.0 _ _ c.in_err-return_in_branch.ensures))))))

pub returns-in_err-undeclared_write-clause-first : goal.returns-in_err-undeclared_write-clause-first
returns-in_err-undeclared_write-clause-first c =
    let err = err_from_is_err_and c.from_residual-in_err-undeclared_write.result c.from_residual-in_err-undeclared_write.ensures.1 in
    chained c.from_residual-in_err-undeclared_write.result c.in_err-undeclared_write.field-0.0 (map flow_view c.args.flows.now) c.args.progress.now.number (names_of c.args.progress.now.seen) (part_view c.args.part.now) (around_view c.args.progress.now.scopes c.args.here) (err.1 ∙ ap Err err.2)
    (later (Err c.in_err-undeclared_write.field-0.0) _ _ c.in_ok-empty.ensures (later (Err c.in_err-undeclared_write.field-0.0) _ _ c.in_ok-double.ensures (later (Err c.in_err-undeclared_write.field-0.0) _ _ c.in_ok-unknown_step.ensures (later (Err c.in_err-undeclared_write.field-0.0) _ _ c.in_ok-out_of_scope.ensures (later (Err c.in_err-undeclared_write.field-0.0) _ _ c.in_ok-outside_loop.ensures (later (Err c.in_err-undeclared_write.field-0.0) _ _ c.in_ok-return_in_branch.ensures (here_first c.in_err-undeclared_write.field-0.0 _ _ c.in_err-undeclared_write.ensures)))))))

pub returns-in_err-unknown_shared-clause-first : goal.returns-in_err-unknown_shared-clause-first
returns-in_err-unknown_shared-clause-first c =
    let err = err_from_is_err_and c.from_residual-in_err-unknown_shared.result c.from_residual-in_err-unknown_shared.ensures.1 in
    chained c.from_residual-in_err-unknown_shared.result c.in_err-unknown_shared.field-0.0 (map flow_view c.args.flows.now) c.args.progress.now.number (names_of c.args.progress.now.seen) (part_view c.args.part.now) (around_view c.args.progress.now.scopes c.args.here) (err.1 ∙ ap Err err.2)
    (later (Err c.in_err-unknown_shared.field-0.0) _ _ c.in_ok-empty.ensures (later (Err c.in_err-unknown_shared.field-0.0) _ _ c.in_ok-double.ensures (later (Err c.in_err-unknown_shared.field-0.0) _ _ c.in_ok-unknown_step.ensures (later (Err c.in_err-unknown_shared.field-0.0) _ _ c.in_ok-out_of_scope.ensures (later (Err c.in_err-unknown_shared.field-0.0) _ _ c.in_ok-outside_loop.ensures (later (Err c.in_err-unknown_shared.field-0.0) _ _ c.in_ok-return_in_branch.ensures (later (Err c.in_err-unknown_shared.field-0.0) _ _ c.in_ok-undeclared_write.ensures (here_first c.in_err-unknown_shared.field-0.0 _ _ c.in_err-unknown_shared.ensures))))))))

pub returns-in_err-unknown_name-clause-first : goal.returns-in_err-unknown_name-clause-first
returns-in_err-unknown_name-clause-first c =
    let err = err_from_is_err_and c.from_residual-in_err-unknown_name.result c.from_residual-in_err-unknown_name.ensures.1 in
    chained c.from_residual-in_err-unknown_name.result c.in_err-unknown_name.field-0.0 (map flow_view c.args.flows.now) c.args.progress.now.number (names_of c.args.progress.now.seen) (part_view c.args.part.now) (around_view c.args.progress.now.scopes c.args.here) (err.1 ∙ ap Err err.2)
    (later (Err c.in_err-unknown_name.field-0.0) _ _ c.in_ok-empty.ensures (later (Err c.in_err-unknown_name.field-0.0) _ _ c.in_ok-double.ensures (later (Err c.in_err-unknown_name.field-0.0) _ _ c.in_ok-unknown_step.ensures (later (Err c.in_err-unknown_name.field-0.0) _ _ c.in_ok-out_of_scope.ensures (later (Err c.in_err-unknown_name.field-0.0) _ _ c.in_ok-outside_loop.ensures (later (Err c.in_err-unknown_name.field-0.0) _ _ c.in_ok-return_in_branch.ensures (later (Err c.in_err-unknown_name.field-0.0) _ _ c.in_ok-undeclared_write.ensures (later (Err c.in_err-unknown_name.field-0.0) _ _ c.in_ok-unknown_shared.ensures (here_first c.in_err-unknown_name.field-0.0 _ _ c.in_err-unknown_name.ensures)))))))))

pub returns-in_err-unknown_call-clause-first : goal.returns-in_err-unknown_call-clause-first
returns-in_err-unknown_call-clause-first c =
    let err = err_from_is_err_and c.from_residual-in_err-unknown_call.result c.from_residual-in_err-unknown_call.ensures.1 in
    chained c.from_residual-in_err-unknown_call.result c.in_err-unknown_call.field-0.0 (map flow_view c.args.flows.now) c.args.progress.now.number (names_of c.args.progress.now.seen) (part_view c.args.part.now) (around_view c.args.progress.now.scopes c.args.here) (err.1 ∙ ap Err err.2)
    (later (Err c.in_err-unknown_call.field-0.0) _ _ c.in_ok-empty.ensures (later (Err c.in_err-unknown_call.field-0.0) _ _ c.in_ok-double.ensures (later (Err c.in_err-unknown_call.field-0.0) _ _ c.in_ok-unknown_step.ensures (later (Err c.in_err-unknown_call.field-0.0) _ _ c.in_ok-out_of_scope.ensures (later (Err c.in_err-unknown_call.field-0.0) _ _ c.in_ok-outside_loop.ensures (later (Err c.in_err-unknown_call.field-0.0) _ _ c.in_ok-return_in_branch.ensures (later (Err c.in_err-unknown_call.field-0.0) _ _ c.in_ok-undeclared_write.ensures (later (Err c.in_err-unknown_call.field-0.0) _ _ c.in_ok-unknown_shared.ensures (later (Err c.in_err-unknown_call.field-0.0) _ _ c.in_ok-unknown_name.ensures (here_first c.in_err-unknown_call.field-0.0 _ _ c.in_err-unknown_call.ensures))))))))))

pub returns-in_err-bad_argument-clause-first : goal.returns-in_err-bad_argument-clause-first
returns-in_err-bad_argument-clause-first c =
    let err = err_from_is_err_and c.from_residual-in_err-bad_argument.result c.from_residual-in_err-bad_argument.ensures.1 in
    chained c.from_residual-in_err-bad_argument.result c.in_err-bad_argument.field-0.0 (map flow_view c.args.flows.now) c.args.progress.now.number (names_of c.args.progress.now.seen) (part_view c.args.part.now) (around_view c.args.progress.now.scopes c.args.here) (err.1 ∙ ap Err err.2)
    (later (Err c.in_err-bad_argument.field-0.0) _ _ c.in_ok-empty.ensures (later (Err c.in_err-bad_argument.field-0.0) _ _ c.in_ok-double.ensures (later (Err c.in_err-bad_argument.field-0.0) _ _ c.in_ok-unknown_step.ensures (later (Err c.in_err-bad_argument.field-0.0) _ _ c.in_ok-out_of_scope.ensures (later (Err c.in_err-bad_argument.field-0.0) _ _ c.in_ok-outside_loop.ensures (later (Err c.in_err-bad_argument.field-0.0) _ _ c.in_ok-return_in_branch.ensures (later (Err c.in_err-bad_argument.field-0.0) _ _ c.in_ok-undeclared_write.ensures (later (Err c.in_err-bad_argument.field-0.0) _ _ c.in_ok-unknown_shared.ensures (later (Err c.in_err-bad_argument.field-0.0) _ _ c.in_ok-unknown_name.ensures (later (Err c.in_err-bad_argument.field-0.0) _ _ c.in_ok-unknown_call.ensures (here_first c.in_err-bad_argument.field-0.0 _ _ c.in_err-bad_argument.ensures)))))))))))

pub returns-in_err-too_many-clause-first : goal.returns-in_err-too_many-clause-first
returns-in_err-too_many-clause-first c =
    let err = err_from_is_err_and c.from_residual-in_err-too_many.result c.from_residual-in_err-too_many.ensures.1 in
    chained c.from_residual-in_err-too_many.result c.in_err-too_many.field-0.0 (map flow_view c.args.flows.now) c.args.progress.now.number (names_of c.args.progress.now.seen) (part_view c.args.part.now) (around_view c.args.progress.now.scopes c.args.here) (err.1 ∙ ap Err err.2)
    (later (Err c.in_err-too_many.field-0.0) _ _ c.in_ok-empty.ensures (later (Err c.in_err-too_many.field-0.0) _ _ c.in_ok-double.ensures (later (Err c.in_err-too_many.field-0.0) _ _ c.in_ok-unknown_step.ensures (later (Err c.in_err-too_many.field-0.0) _ _ c.in_ok-out_of_scope.ensures (later (Err c.in_err-too_many.field-0.0) _ _ c.in_ok-outside_loop.ensures (later (Err c.in_err-too_many.field-0.0) _ _ c.in_ok-return_in_branch.ensures (later (Err c.in_err-too_many.field-0.0) _ _ c.in_ok-undeclared_write.ensures (later (Err c.in_err-too_many.field-0.0) _ _ c.in_ok-unknown_shared.ensures (later (Err c.in_err-too_many.field-0.0) _ _ c.in_ok-unknown_name.ensures (later (Err c.in_err-too_many.field-0.0) _ _ c.in_ok-unknown_call.ensures (later (Err c.in_err-too_many.field-0.0) _ _ c.in_ok-bad_argument.ensures (here_first c.in_err-too_many.field-0.0 _ _ c.in_err-too_many.ensures.fault))))))))))))

pub returns-clause-first : goal.returns-clause-first
returns-clause-first c =
    all_of c.not_yet.result (map flow_view c.args.flows.now) c.args.progress.now.number (names_of c.args.progress.now.seen) (part_view c.args.part.now) (around_view c.args.progress.now.scopes c.args.here)
    (later c.not_yet.result _ _ c.in_ok-empty.ensures (later c.not_yet.result _ _ c.in_ok-double.ensures (later c.not_yet.result _ _ c.in_ok-unknown_step.ensures (later c.not_yet.result _ _ c.in_ok-out_of_scope.ensures (later c.not_yet.result _ _ c.in_ok-outside_loop.ensures (later c.not_yet.result _ _ c.in_ok-return_in_branch.ensures (later c.not_yet.result _ _ c.in_ok-undeclared_write.ensures (later c.not_yet.result _ _ c.in_ok-unknown_shared.ensures (later c.not_yet.result _ _ c.in_ok-unknown_name.ensures (later c.not_yet.result _ _ c.in_ok-unknown_call.ensures (later c.not_yet.result _ _ c.in_ok-bad_argument.ensures (later c.not_yet.result _ _ c.in_ok-too_many.ensures.fault (alone c.not_yet.result _ c.not_yet.ensures)))))))))))))

pub returns-clause-few : goal.returns-clause-few
returns-clause-few c = holds_anyway c.not_yet.result c.args.progress.now.number c.in_ok-too_many.ensures.few
