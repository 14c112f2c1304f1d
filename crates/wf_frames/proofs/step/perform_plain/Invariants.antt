use Rattle.wf_frames.specs.Fits.{reach}
use Rattle.wf_frames.specs.Frames.{inner}
use Rattle.wf_frames.proofs.step.perform_plain.Given as goal

abbrev pub ghost-switch : goal.ghost-switch
ghost-switch g a = record { spots = g.ns; owners = reach (inner a.frames.now) }

abbrev pub ghost-enter_try : goal.ghost-enter_try
ghost-enter_try g a = g.ns

abbrev pub ghost-begin_loop : goal.ghost-begin_loop
ghost-begin_loop g a = g.ns
