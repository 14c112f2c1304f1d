use Rattle.wf_moves.proofs.moves.step_on.Given as goal

abbrev pub ghost-seen : goal.ghost-seen
ghost-seen g a = g.around

abbrev pub ghost-step_of : goal.ghost-step_of
ghost-step_of g a = g.around.spots

abbrev pub ghost-finish_step : goal.ghost-finish_step
ghost-finish_step g a = g.around
