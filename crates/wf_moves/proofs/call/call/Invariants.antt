use Rattle.wf_moves.proofs.call.call.Given as goal

abbrev pub ghost-call_flow : goal.ghost-call_flow
ghost-call_flow g a = g.around

abbrev pub ghost-evaluates : goal.ghost-evaluates
ghost-evaluates g a = g.around

abbrev pub ghost-sends : goal.ghost-sends
ghost-sends g a = g.around

abbrev pub ghost-sleeps : goal.ghost-sleeps
ghost-sleeps g a = g.around

abbrev pub ghost-logs : goal.ghost-logs
ghost-logs g a = g.around
