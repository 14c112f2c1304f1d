use Rattle.wf_moves.proofs.leading.answered.Given as goal

abbrev pub ghost-leave : goal.ghost-leave
ghost-leave g a = g.around

abbrev pub ghost-retry : goal.ghost-retry
ghost-retry g a = g.around

abbrev pub ghost-take : goal.ghost-take
ghost-take g a = g.around

abbrev pub ghost-outward : goal.ghost-outward
ghost-outward g a = g.around

abbrev pub ghost-lead_on : goal.ghost-lead_on
ghost-lead_on g a = g.around
