use Rattle.wf_frames.proofs.advance.step_of.Given as goal

abbrev pub ghost-carry_out : goal.ghost-carry_out
ghost-carry_out g a = g.ns
