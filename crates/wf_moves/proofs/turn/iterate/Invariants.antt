use Rattle.wf_moves.proofs.turn.iterate.Given as goal

abbrev pub ghost-enter : goal.ghost-enter
ghost-enter g a = g.around

abbrev pub ghost-goes : goal.ghost-goes
ghost-goes g a = g.around
