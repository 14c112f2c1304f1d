use Rattle.wf_moves.proofs.finish.goes.Given as goal

abbrev pub ghost-settle : goal.ghost-settle
ghost-settle g a = g.around
