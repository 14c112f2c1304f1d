use Rattle.wf_moves.proofs.judging.try_again.Given as goal

abbrev pub ghost-body_frame : goal.ghost-body_frame
ghost-body_frame g a = g.around.spots

abbrev pub ghost-goes : goal.ghost-goes
ghost-goes g a = g.around
