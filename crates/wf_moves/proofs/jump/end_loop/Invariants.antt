use Rattle.wf_moves.proofs.jump.end_loop.Given as goal

abbrev pub ghost-leave_to_loop : goal.ghost-leave_to_loop
ghost-leave_to_loop g a = g.around

abbrev pub ghost-leave : goal.ghost-leave
ghost-leave g a = g.around

abbrev pub ghost-goes : goal.ghost-goes
ghost-goes g a = g.around
