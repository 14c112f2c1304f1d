use Rattle.wf_moves.proofs.leading.lead.Given as goal

abbrev pub ghost-lead_turned : goal.ghost-lead_turned
ghost-lead_turned g a = g.around
