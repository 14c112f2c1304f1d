use Rattle.wf_moves.proofs.assign.assign_name.Given as goal

abbrev pub ghost-seen : goal.ghost-seen
ghost-seen g a = g.around

abbrev pub ghost-store_value : goal.ghost-store_value
ghost-store_value g a = g.around
