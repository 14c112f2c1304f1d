use Rattle.wf_moves.proofs.branch_errors.branch_error.Given as goal

abbrev pub ghost-branch_name : goal.ghost-branch_name
ghost-branch_name g a = g.ns
