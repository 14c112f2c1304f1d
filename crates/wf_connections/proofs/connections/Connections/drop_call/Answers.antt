use Rattle.std.proofs.Common.{refl}
use Rattle.std.proofs.Math.Logic.{∥∥₁_map}
use Rattle.wf_connections.proofs.Changes.{read_set, unheard_read}
use Rattle.wf_connections.proofs.Steps.{drops, line_at, started_within}
use Rattle.wf_connections.proofs.connections.Connections.drop_call.Goals as goal

pub index_mut-line-requires : goal.index_mut-line-requires
index_mut-line-requires c = started_within c.args.self.now c.args.call c.requires

pub invariant_of-self : goal.invariant_of-self
invariant_of-self c =
    let now = c.drop_call.new.self in
    record { read = ∥∥₁_map c.args.self.now.read (read_set c.args.self.now.lines.items c.args.call now (unheard_read now.state _ c.drop_call.ensures.listens)) }

pub returns : goal.returns
returns c =
    let self = c.args.self.now in
    let line = c.index_mut-line.result.now in
    let was = line_at self c.args.call line (started_within self c.args.call c.requires) c.index_mut-line.ensures.value in
    let done = c.drop_call.ensures in
    drops self _ c.args.call line c.drop_call.new.self c.requires was refl done.used done.dropped done.listens done.heard
