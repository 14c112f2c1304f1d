use Rattle.wf_moves.proofs.branch.begin_steps.Given as goal

abbrev pub ghost-stand_before : goal.ghost-stand_before
ghost-stand_before g a = g.ns
