use Rattle.wf_moves.proofs.task.Task.join_error.Given as goal

abbrev pub ghost-branch_errors : goal.ghost-branch_errors
ghost-branch_errors g a = g.ns
