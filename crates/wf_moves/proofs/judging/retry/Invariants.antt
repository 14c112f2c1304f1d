use Rattle.wf_moves.proofs.judging.retry.Given as goal

abbrev pub ghost-lead_on : goal.ghost-lead_on
ghost-lead_on g a = g.around
