use Rattle.wf_moves.proofs.turn.turn.Given as goal

abbrev pub ghost-goes : goal.ghost-goes
ghost-goes g a = g.around

abbrev pub ghost-iterate : goal.ghost-iterate
ghost-iterate g a = g.around
