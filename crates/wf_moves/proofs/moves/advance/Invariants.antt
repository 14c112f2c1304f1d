use Rattle.wf_moves.proofs.moves.advance.Given as goal

abbrev pub ghost-turn : goal.ghost-turn
ghost-turn g a = g.around

abbrev pub ghost-step_on : goal.ghost-step_on
ghost-step_on g a = g.around

abbrev pub ghost-returns : goal.ghost-returns
ghost-returns g a = g.around
