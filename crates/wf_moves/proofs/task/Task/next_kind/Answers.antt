use Rattle.std.proofs.Common.{subst, ◌∙◌}
use Rattle.wf_frames.specs.Frames.{inner}
use Rattle.wf_moves.proofs.Waiting.{is_awake}
use Rattle.wf_moves.specs.Waits.{GoesFrom}
use Rattle.wf_moves.proofs.task.Task.next_kind.Goals as goal

pub returns : goal.returns
returns g c p named =
    let t = c.args.self.now in
    let goes = subst (λ w. GoesFrom c.args.nodes.now w t.frames) (is_awake t.wait c.requires.1.1.1) c.requires.1.1.0 in
    c.next_kind.ensures p g.around.spots c.args.nodes.now (inner t.frames) c.requires.0 c.requires.1.0 (c.next.ensures ∙ goes.1) named
