use Rattle.wf_moves.proofs.leading.lead_on.Given as goal

abbrev pub ghost-settle : goal.ghost-settle
ghost-settle g a = g.around
