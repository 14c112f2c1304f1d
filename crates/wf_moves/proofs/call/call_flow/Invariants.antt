use Rattle.wf_moves.proofs.call.call_flow.Given as goal

abbrev pub ghost-params : goal.ghost-params
ghost-params g a = g.around.spots

abbrev pub ghost-begin : goal.ghost-begin
ghost-begin g a = g.around

abbrev pub ghost-goes : goal.ghost-goes
ghost-goes g a = g.around
