use Rattle.std.proofs.Common.{ap}
use Rattle.wf_table.proofs.jumps.depth.Goals as goal
use Rattle.wf_model.specs.Compiles.{code_list}
use Rattle.wf_table.specs.Named.{depth_of}

pub returns-in-None : goal.returns-in-None
returns-in-None c = ap depth_of (c.in-None.ensures (code_list c.args.node.now.codes))

pub returns-in-Some : goal.returns-in-Some
returns-in-Some c = ap depth_of (c.in-Some.ensures (code_list c.args.node.now.codes))
