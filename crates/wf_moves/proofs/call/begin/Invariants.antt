use Rattle.wf_moves.proofs.call.begin.Given as goal

abbrev pub ghost-enter_call : goal.ghost-enter_call
ghost-enter_call g a = g.around

abbrev pub ghost-goes : goal.ghost-goes
ghost-goes g a = g.around
