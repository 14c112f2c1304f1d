use Rattle.wf_moves.proofs.forking.fork.Given as goal

abbrev pub ghost-work_of : goal.ghost-work_of
ghost-work_of g a = g.around.spots

abbrev pub ghost-seen : goal.ghost-seen
ghost-seen g a = g.around
