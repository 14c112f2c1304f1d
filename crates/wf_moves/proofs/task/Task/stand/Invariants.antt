use Rattle.wf_moves.proofs.task.Task.stand.Given as goal

abbrev pub ghost-lead : goal.ghost-lead
ghost-lead g a = g.around
