use Rattle.wf_moves.proofs.task.Task.gives.Given as goal

abbrev pub ghost-give : goal.ghost-give
ghost-give g a = g.around

abbrev pub ghost-follow : goal.ghost-follow
ghost-follow g a = g.around
