use Rattle.std.proofs.Common.{◌≡◌, ◌-◌, ◌<◌, length, rules, ◌∙◌}
use Rattle.wf_scope.proofs.Named.{found_bound, read_value}
use Rattle.wf_scope.proofs.Spotted.{tried_there}
use Rattle.wf_scope.proofs.layer.Layer.find.Goals as goal

pub returns-then-is-clause-place : goal.returns-then-is-clause-place
returns-then-is-clause-place c =
    let l = c.args.self.now in
    let e = c.index.result.now in
    let within : c.args.hint - 1 < length l.vars.items = search rules in
    let same : e.0 ≡ c.args.name.now = search rules in
    tried_there c.args.name.now l.vars.items (c.args.hint - 1) e l.order within c.index.ensures same

pub returns-then-is-clause-value : goal.returns-then-is-clause-value
returns-then-is-clause-value c =
    let l = c.args.self.now in
    let e = c.index.result.now in
    let within : c.args.hint - 1 < length l.vars.items = search rules in
    let same : e.0 ≡ c.args.name.now = search rules in
    let there = tried_there c.args.name.now l.vars.items (c.args.hint - 1) e l.order within c.index.ensures same in
    let read = c.index-then-is.result.now in
    read_value c.as_ref.result read.1 c.as_ref.ensures.value ∙ found_bound c.args.name.now l.vars.items l.order (c.args.hint - 1) read c.index-then-is.ensures there
