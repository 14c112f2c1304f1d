use Rattle.wf_moves.proofs.moves.finish_step.Given as goal

abbrev pub ghost-goes : goal.ghost-goes
ghost-goes g a = g.around

abbrev pub ghost-jump : goal.ghost-jump
ghost-jump g a = g.around

abbrev pub ghost-assign : goal.ghost-assign
ghost-assign g a = g.around

abbrev pub ghost-finish_with : goal.ghost-finish_with
ghost-finish_with g a = g.around
