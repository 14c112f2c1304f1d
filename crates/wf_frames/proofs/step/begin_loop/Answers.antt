use Rattle.std.proofs.Common.{ap}
use Rattle.wf_eval.specs.Sight.{seen}
use Rattle.wf_frames.specs.Frames.{inner}
use Rattle.wf_frames.specs.declared.frames.Looping.{Looping}
use Rattle.wf_frames.proofs.Fitting.{loop_fits}
use Rattle.wf_frames.proofs.Performed.{loop_begun}
use Rattle.wf_model.specs.NodeKinds.{over_by}
use Rattle.wf_frames.proofs.step.begin_loop.Goals as goal

pub returns-in_ok-push-in-Ok-clause-begun : goal.returns-in_ok-push-in-Ok-clause-begun
returns-in_ok-push-in-Ok-clause-begun g c value index ss is =
    loop_begun g.ns c.args.n c.in_ok-boxed-in-Ok.field-0 c.in-Ok.left (over_by c.args.codes.now c.args.over.now) value index ss (seen (g.K.Look.sight c.args.look.now) c.args.now) (inner c.args.frames.now) (inner c.push.new.self) is
    c.in-Ok.ensures c.in_ok-boxed-in-Ok.ensures c.in_ok-push-in-Ok.ensures.pushed

pub returns-in_ok-push-in-Ok-clause-fits : goal.returns-in_ok-push-in-Ok-clause-fits
returns-in_ok-push-in-Ok-clause-fits g c nodes b is fits =
    loop_fits g.ns nodes c.args.n c.in_ok-boxed-in-Ok.field-0 b (inner c.args.frames.now) (inner c.push.new.self) is (ap (λ (x : Looping). x.node) c.in_ok-boxed-in-Ok.ensures) c.in_ok-push-in-Ok.ensures.pushed fits
