use Rattle.std.proofs.Common.{◌<◌, ◌≤◌, length, refl, arith}
use Rattle.std.proofs.Math.Logic.{∥∥₁_map}
use Rattle.wf_connections.proofs.Changes.{read_set, unheard_read}
use Rattle.wf_connections.proofs.Steps.{forgets, forgets_none, line_at}
use Rattle.wf_connections.proofs.connections.Connections.forget.Goals as goal

pub invariant_of-self : goal.invariant_of-self
invariant_of-self c =
    let now = c.forget.new.self in
    record { read = ∥∥₁_map c.args.self.now.read (read_set c.args.self.now.lines.items c.args.call now (unheard_read now.state _ c.forget.ensures.listens)) }

pub returns-then-i-len : goal.returns-then-i-len
returns-then-i-len c =
    let self = c.args.self.now in
    let line = c.index_mut-line.result.now in
    let within : c.args.call < self.lines.len = omega arith in
    let inside : c.args.call < length self.lines.items = omega (arith, self.lines.ok.0) in
    let was = line_at self c.args.call line within c.index_mut-line.ensures.value in
    let done = c.forget.ensures in
    forgets self _ c.args.call line c.forget.new.self inside was refl done.used done.dropped done.listens done.heard

pub returns-else-i-len : goal.returns-else-i-len
returns-else-i-len c =
    let self = c.args.self.now in
    let past : length self.lines.items ≤ c.args.call = omega (arith, self.lines.ok.0) in
    forgets_none self c.args.call past
