use Rattle.wf_moves.proofs.branch.begin.Given as goal

abbrev pub ghost-begin_steps : goal.ghost-begin_steps
ghost-begin_steps g a = g.ns

abbrev pub ghost-begin_turn : goal.ghost-begin_turn
ghost-begin_turn g a = g.ns
