use Rattle.std.proofs.Common.{length}
use Rattle.wf_file_host.proofs.connection.Connection.connect_next.Given as goal

-- an address is tried once
abbrev pub decreases-loop-to : goal.decreases-loop-to
decreases-loop-to g l = length l.self.others.items
