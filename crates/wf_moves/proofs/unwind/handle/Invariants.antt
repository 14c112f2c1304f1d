use Rattle.wf_moves.proofs.unwind.handle.Given as goal

abbrev pub ghost-enter : goal.ghost-enter
ghost-enter g a = g.around
