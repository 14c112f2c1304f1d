use Rattle.wf_moves.proofs.task.Task.join.Given as goal

abbrev pub ghost-goes : goal.ghost-goes
ghost-goes g a = g.around

abbrev pub ghost-follow : goal.ghost-follow
ghost-follow g a = g.around
