use Rattle.wf_moves.proofs.call.evaluates.Given as goal

abbrev pub ghost-seen : goal.ghost-seen
ghost-seen g a = g.around

abbrev pub ghost-give : goal.ghost-give
ghost-give g a = g.around
