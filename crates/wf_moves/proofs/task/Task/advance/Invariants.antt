use Rattle.wf_moves.proofs.task.Task.advance.Given as goal

abbrev pub ghost-advance : goal.ghost-advance
ghost-advance g a = g.around

abbrev pub ghost-follow : goal.ghost-follow
ghost-follow g a = g.around

abbrev pub ghost-told : goal.ghost-told
ghost-told g a = g.around
