use Rattle.wf_moves.proofs.judging.question.Given as goal

abbrev pub ghost-enter_call : goal.ghost-enter_call
ghost-enter_call g a = g.around

abbrev pub ghost-lead_on : goal.ghost-lead_on
ghost-lead_on g a = g.around
