use Rattle.wf_frames.proofs.step.switch.Given as goal

abbrev pub ghost-choose : goal.ghost-choose
ghost-choose g a = g.at
