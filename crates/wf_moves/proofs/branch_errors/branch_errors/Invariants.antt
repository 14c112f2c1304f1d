use Rattle.std.proofs.Common.{◌≡◌, take}
use Rattle.wf_branches.specs.Views.{errors_view}
use Rattle.wf_frames.specs.Forks.{parallel_at}
use Rattle.wf_model.specs.Move.{error_list}
use Rattle.wf_moves.proofs.branch_errors.branch_errors.Given as goal

abbrev pub ghost-branch_error : goal.ghost-branch_error
ghost-branch_error g a = g.ns

abbrev pub invariant-loop-failed : goal.invariant-loop-failed
invariant-loop-failed g l = l.branches ≡ error_list (parallel_at g.ns l.n) (errors_view (take l.failed-index l.errors))
