use Rattle.wf_moves.proofs.task.Task.go_on.Given as goal

abbrev pub ghost-gives : goal.ghost-gives
ghost-gives g a = g.around

abbrev pub ghost-follow : goal.ghost-follow
ghost-follow g a = g.around
