use Rattle.wf_moves.proofs.task.Task.new.Given as goal

abbrev pub ghost-params : goal.ghost-params
ghost-params g a = g.around.spots

abbrev pub ghost-first_layer : goal.ghost-first_layer
ghost-first_layer g a = g.around

abbrev pub ghost-settle : goal.ghost-settle
ghost-settle g a = g.around
