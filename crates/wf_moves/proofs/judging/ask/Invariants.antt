use Rattle.wf_moves.proofs.judging.ask.Given as goal

abbrev pub ghost-params : goal.ghost-params
ghost-params g a = g.around.spots

abbrev pub ghost-lead_on : goal.ghost-lead_on
ghost-lead_on g a = g.around

abbrev pub ghost-question : goal.ghost-question
ghost-question g a = g.around
