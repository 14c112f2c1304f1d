use Rattle.wf_frames.proofs.step.enter_try.Given as goal

abbrev pub ghost-body_frame : goal.ghost-body_frame
ghost-body_frame g a = g.ns
