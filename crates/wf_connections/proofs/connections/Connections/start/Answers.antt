use Rattle.std.proofs.Common.{refl}
use Rattle.std.proofs.Math.Logic.{∥∥₁_map}
use Rattle.wf_connections.proofs.Changes.{read_set}
use Rattle.wf_connections.proofs.Steps.{starts}
use Rattle.wf_connections.proofs.connections.Connections.start.Goals as goal

pub invariant_of-self : goal.invariant_of-self
invariant_of-self c = record { read = ∥∥₁_map c.args.self.now.read c.reach.ensures.read }

pub invariant_of-self-2 : goal.invariant_of-self-2
invariant_of-self-2 c =
    let new = c.in_ok-line.ensures in
    record { read = ∥∥₁_map c.args.self.now.read (λ are. read_set c.reach.new.lines.items c.args.call c.in_ok-line.line (new.read c.args.call) (c.reach.ensures.read are)) }

pub returns : goal.returns
returns c =
    let new = c.in_ok-line.ensures in
    starts c.args.self.now _ c.reach.new.lines.items c.args.call c.in_ok-line.line c.requires c.reach.ensures.same c.in_ok-reach.ensures.room refl new.used new.dropped new.listens new.heard
