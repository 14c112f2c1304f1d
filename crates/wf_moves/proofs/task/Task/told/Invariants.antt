use Rattle.wf_moves.proofs.task.Task.told.Given as goal

abbrev pub ghost-stand : goal.ghost-stand
ghost-stand g a = g.around
