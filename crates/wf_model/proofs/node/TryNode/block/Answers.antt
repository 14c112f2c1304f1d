use Rattle.std.proofs.Common.{sym, ap}
use Rattle.wf_model.proofs.node.TryNode.block.Goals as goal
use Rattle.wf_model.specs.NodeKinds.{handler_view}
use Rattle.wf_model.specs.Table.{handler_list}

pub returns-in-None : goal.returns-in-None
returns-in-None c = sym (ap (λ x. handler_list (handler_view x)) c.in-None.is)

pub returns-in-Some : goal.returns-in-Some
returns-in-Some c = sym (ap (λ x. handler_list (handler_view x)) c.in-Some.is)
