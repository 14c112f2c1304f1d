use Rattle.wf_moves.proofs.moves.finish_with.Given as goal

abbrev pub ghost-returns : goal.ghost-returns
ghost-returns g a = g.around

abbrev pub ghost-call : goal.ghost-call
ghost-call g a = g.around

abbrev pub ghost-fork : goal.ghost-fork
ghost-fork g a = g.around
