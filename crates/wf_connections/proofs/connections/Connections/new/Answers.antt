use Rattle.wf_connections.proofs.Steps.{fresh}
use Rattle.wf_connections.proofs.connections.Connections.new.Goals as goal

pub returns : goal.returns
returns c = fresh _ c.new.ensures.items
