use Rattle.wf_moves.proofs.assign.assign.Given as goal

abbrev pub ghost-assign_name : goal.ghost-assign_name
ghost-assign_name g a = g.around

abbrev pub ghost-assign_places : goal.ghost-assign_places
ghost-assign_places g a = g.around
