use Rattle.wf_moves.proofs.unwind.take.Given as goal

abbrev pub ghost-handle : goal.ghost-handle
ghost-handle g a = g.around
