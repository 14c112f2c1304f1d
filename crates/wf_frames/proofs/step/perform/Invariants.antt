use Rattle.wf_frames.proofs.step.perform.Given as goal

abbrev pub ghost-perform_plain : goal.ghost-perform_plain
ghost-perform_plain g a = g.ns
