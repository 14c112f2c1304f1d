use Rattle.wf_moves.proofs.task.Task.branch.Given as goal

abbrev pub ghost-begin : goal.ghost-begin
ghost-begin g a = g.ns
