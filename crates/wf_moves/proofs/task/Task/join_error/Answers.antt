use Rattle.std.proofs.Common.{sym, subst}
use Rattle.wf_frames.specs.Fits.{IsParallel}
use Rattle.wf_model.specs.declared.node.ParallelNode.{ParallelNode}
use Rattle.wf_moves.proofs.Openings.{work_there}
use Rattle.wf_moves.specs.Waits.{GoesFrom}
use Rattle.wf_moves.specs.declared.wait.Joining.{Joining}
use Rattle.wf_moves.proofs.task.Task.join_error.Goals as goal

pub branch_errors-requires : goal.branch_errors-requires
branch_errors-requires g c =
    let j = c.in-Joining.joining.value in
    let work = subst (λ w. GoesFrom c.args.nodes.now w c.args.self.now.frames) c.in-Joining.is c.requires.1.0 in
    (c.requires.0, subst (λ (x : Joining). (p : ParallelNode) × IsParallel c.args.nodes.now x.node p) (sym c.deref.ensures) (work_there c.args.nodes.now j.node j.left work))
