use Rattle.std.proofs.Common.{◌≡◌, ◌+◌, ◌*◌, length}
use Rattle.wf_yaml_flow.specs.Flow.{flow}
use Rattle.wf_yaml_flow.specs.FlowWalk.{whole, ahead}
use Rattle.wf_yaml_flow.proofs.walk.read_flow.Given as goal

abbrev pub invariant-walk : goal.invariant-walk
invariant-walk l = whole l.line l.depth l.frames.items l.fault l.place ≡ flow l.line l.depth l.s

abbrev pub decreases-walk : goal.decreases-walk
decreases-walk l = ahead l.place + 2 * length l.frames.items
