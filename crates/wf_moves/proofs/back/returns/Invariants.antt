use Rattle.wf_moves.proofs.back.returns.Given as goal

abbrev pub ghost-leave_to_back : goal.ghost-leave_to_back
ghost-leave_to_back g a = g.around

abbrev pub ghost-leave : goal.ghost-leave
ghost-leave g a = g.around

abbrev pub ghost-give : goal.ghost-give
ghost-give g a = g.around
