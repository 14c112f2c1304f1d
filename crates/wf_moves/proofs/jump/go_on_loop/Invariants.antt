use Rattle.wf_moves.proofs.jump.go_on_loop.Given as goal

abbrev pub ghost-leave_to_loop : goal.ghost-leave_to_loop
ghost-leave_to_loop g a = g.around

abbrev pub ghost-goes : goal.ghost-goes
ghost-goes g a = g.around
