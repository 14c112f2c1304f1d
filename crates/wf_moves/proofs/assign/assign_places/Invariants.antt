use Rattle.wf_moves.proofs.assign.assign_places.Given as goal

abbrev pub ghost-seen : goal.ghost-seen
ghost-seen g a = g.around

abbrev pub ghost-store : goal.ghost-store
ghost-store g a = g.around
