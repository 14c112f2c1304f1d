use Rattle.std.proofs.Common.{◌<◌, ◌≤◌, length, refl, sym, arith}
use Rattle.std.proofs.Math.Logic.{∥∥₁_map}
use Rattle.wf_connections.proofs.Changes.{read_set}
use Rattle.wf_connections.proofs.Steps.{hears_on_ok, hears_past, line_at, stands_put}
use Rattle.wf_connections.proofs.connections.Connections.hear.Goals as goal

pub returns-then-i-len-clause-heard : goal.returns-then-i-len-clause-heard
returns-then-i-len-clause-heard c =
    let self = c.args.self.now in
    let past : length self.lines.items ≤ c.in-Some.call = omega (arith, self.lines.ok.0) in
    hears_past self c.args.what.now c.in-Some.call (sym c.in-Some.ensures) past

pub invariant_of-self : goal.invariant_of-self
invariant_of-self c =
    let self = c.args.self.now in
    let call = c.in-Some.call in
    let line = c.index_mut-line.result.now in
    let within : call < self.lines.len = omega arith in
    let was = line_at self call line within c.index_mut-line.ensures.value in
    record { read = ∥∥₁_map self.read (λ are. read_set self.lines.items call c.hear.new.self (c.hear.ensures.read call (sym c.in-Some.ensures) (are call line was)) are) }

pub returns-clause-heard : goal.returns-clause-heard
returns-clause-heard c =
    let self = c.args.self.now in
    let call = c.in-Some.call in
    let line = c.index_mut-line.result.now in
    let within : call < self.lines.len = omega arith in
    let inside : call < length self.lines.items = omega (arith, self.lines.ok.0) in
    let was = line_at self call line within c.index_mut-line.ensures.value in
    hears_on_ok c.hear.result self _ c.args.what.now call line c.hear.new.self (sym c.in-Some.ensures) inside was refl c.hear.ensures.heard

pub returns-clause-stands : goal.returns-clause-stands
returns-clause-stands c =
    let self = c.args.self.now in
    let call = c.in-Some.call in
    let line = c.index_mut-line.result.now in
    let within : call < self.lines.len = omega arith in
    let was = line_at self call line within c.index_mut-line.ensures.value in
    let done = c.hear.ensures in
    stands_put self _ call line c.hear.new.self was refl done.used done.dropped done.listens
