use Rattle.wf_moves.proofs.back.give.Given as goal

abbrev pub ghost-result_of : goal.ghost-result_of
ghost-result_of g a = g.around.spots

abbrev pub ghost-store_value : goal.ghost-store_value
ghost-store_value g a = g.around

abbrev pub ghost-goes : goal.ghost-goes
ghost-goes g a = g.around
