use Rattle.wf_moves.proofs.judging.decide.Given as goal

abbrev pub ghost-retry : goal.ghost-retry
ghost-retry g a = g.around

abbrev pub ghost-ask : goal.ghost-ask
ghost-ask g a = g.around

abbrev pub ghost-take : goal.ghost-take
ghost-take g a = g.around

abbrev pub ghost-lead_on : goal.ghost-lead_on
ghost-lead_on g a = g.around
