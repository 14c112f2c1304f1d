use Rattle.std.proofs.Common.{refl}
use Rattle.wf_frames.specs.Owned.{beside, control_of}
use Rattle.wf_model.specs.Unwind.{unwind}
use Rattle.wf_moves.proofs.Unwinding.{handled_past}
use Rattle.wf_moves.specs.Retries.{Handler}
use Rattle.wf_value.specs.Plain.{plain}
use Rattle.wf_moves.proofs.unwind.take.Goals as goal

pub handle-requires : goal.handle-requires
handle-requires g c =
    let h : Handler c.args.nodes.now c.args.n = record { tried = c.try_node-tried.result.now; except = c.in-Some.except; is = c.try_node-tried.ensures; has = c.in-Some.is } in
    (c.requires.0, (c.requires.1.0, ((h, refl), c.requires.1.1.1.0)))

pub returns-in-None-clause-moved : goal.returns-in-None-clause-moved
returns-in-None-clause-moved g c s d agrees =
    handled_past g.around.spots c.args.nodes.now c.requires.0 c.args.n c.try_node-tried.result.now c.try_node-tried.ensures c.in-None.is s (plain c.args.error) (control_of g.around c.args.frames.now) (beside d g.around c.args.frames.now c.args.scopes.now)
    (unwind s (control_of g.around c.args.frames.now) (beside d g.around c.args.frames.now c.args.scopes.now))
