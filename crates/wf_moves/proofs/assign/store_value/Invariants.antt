use Rattle.wf_moves.proofs.assign.store_value.Given as goal

abbrev pub ghost-assign_name : goal.ghost-assign_name
ghost-assign_name g a = g.around

abbrev pub ghost-goes : goal.ghost-goes
ghost-goes g a = g.around
