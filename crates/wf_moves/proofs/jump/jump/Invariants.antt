use Rattle.wf_moves.proofs.jump.jump.Given as goal

abbrev pub ghost-returns : goal.ghost-returns
ghost-returns g a = g.around

abbrev pub ghost-go_on_loop : goal.ghost-go_on_loop
ghost-go_on_loop g a = g.around

abbrev pub ghost-end_loop : goal.ghost-end_loop
ghost-end_loop g a = g.around

abbrev pub ghost-go_to : goal.ghost-go_to
ghost-go_to g a = g.around
