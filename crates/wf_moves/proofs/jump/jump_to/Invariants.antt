use Rattle.wf_moves.proofs.jump.jump_to.Given as goal

abbrev pub ghost-leave_to : goal.ghost-leave_to
ghost-leave_to g a = g.around
