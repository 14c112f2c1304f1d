use Rattle.std.proofs.Common.{sym, ap}
use Rattle.wf_model.proofs.node.WorkNode.block.Goals as goal
use Rattle.wf_model.specs.NodeKinds.{side_by}
use Rattle.wf_model.specs.Table.{side_list}

pub returns-in-Branches : goal.returns-in-Branches
returns-in-Branches c = λ cs. sym (ap (λ w. side_list (side_by cs w)) c.in-Branches.is)

pub returns-in-Loop : goal.returns-in-Loop
returns-in-Loop c = λ cs. sym (ap (λ w. side_list (side_by cs w)) c.in-Loop.is)
