use Rattle.wf_moves.proofs.jump.go_to.Given as goal

abbrev pub ghost-jump_to : goal.ghost-jump_to
ghost-jump_to g a = g.around

abbrev pub ghost-goes : goal.ghost-goes
ghost-goes g a = g.around
