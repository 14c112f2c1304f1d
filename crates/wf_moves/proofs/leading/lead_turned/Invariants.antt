use Rattle.wf_moves.proofs.leading.lead_turned.Given as goal

abbrev pub ghost-outward : goal.ghost-outward
ghost-outward g a = g.around

abbrev pub ghost-answered : goal.ghost-answered
ghost-answered g a = g.around
