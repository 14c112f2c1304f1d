use Rattle.wf_moves.proofs.assign.store.Given as goal

abbrev pub ghost-assign : goal.ghost-assign
ghost-assign g a = g.around

abbrev pub ghost-goes : goal.ghost-goes
ghost-goes g a = g.around
