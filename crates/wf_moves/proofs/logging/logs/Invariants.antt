use Rattle.wf_moves.proofs.logging.logs.Given as goal

abbrev pub ghost-give : goal.ghost-give
ghost-give g a = g.around
