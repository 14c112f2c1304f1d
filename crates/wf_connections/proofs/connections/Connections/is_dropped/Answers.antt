use Rattle.std.proofs.Common.{◌≡◌, ◌<◌, ◌≤◌, List, length, get_or, subst, sym, ◌∙◌, arith}
use Rattle.wf_connections.specs.declared.line.Line.{Line}
use Rattle.wf_connections.proofs.Steps.{line_at, dropped_line, dropped_past}
use Rattle.wf_connections.proofs.connections.Connections.is_dropped.Goals as goal

pub returns-in-Some : goal.returns-in-Some
returns-in-Some c =
    let self = c.args.self.now in
    let line = c.in-Some.line.now in
    let within : c.args.call < self.lines.len = omega (arith, c.in-Some.ensures.lookup.3, c.deref.ensures.len) in
    let is = subst (λ (ls : List Line). line ≡ get_or ls c.args.call line) c.deref.ensures.value c.in-Some.ensures.lookup.1 in
    c.is_dropped.ensures ∙ sym (dropped_line self c.args.call line (line_at self c.args.call line within is))

pub returns-in-None : goal.returns-in-None
returns-in-None c =
    let past = subst (λ (ls : List Line). length ls ≤ c.args.call) c.deref.ensures.value c.in-None.ensures.lookup.3 in
    sym (dropped_past c.args.self.now c.args.call past)
