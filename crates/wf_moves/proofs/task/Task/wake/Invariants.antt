use Rattle.wf_moves.proofs.task.Task.wake.Given as goal

abbrev pub ghost-gives : goal.ghost-gives
ghost-gives g a = g.around

abbrev pub ghost-try_again : goal.ghost-try_again
ghost-try_again g a = g.around

abbrev pub ghost-follow : goal.ghost-follow
ghost-follow g a = g.around
