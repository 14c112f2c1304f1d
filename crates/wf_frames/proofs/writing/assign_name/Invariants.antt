use Rattle.wf_frames.proofs.writing.assign_name.Given as goal

abbrev pub ghost-put : goal.ghost-put
ghost-put g a = g.around
