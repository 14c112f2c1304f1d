use Rattle.std.proofs.Common.{◌≡◌, Err, Ok, ◌∙◌}
use Rattle.wf_value.proofs.Seeks.{seek_of}
use Rattle.wf_value.specs.Maps.{place_of}
use Rattle.wf_scope.proofs.Named.{found_bound, missing_bound, read_value}
use Rattle.wf_scope.proofs.layer.Layer.search.Goals as goal

pub returns-in-Ok-clause-value : goal.returns-in-Ok-clause-value
returns-in-Ok-clause-value c =
    let l = c.args.self.now in
    let e = c.index.result.now in
    let place : Ok c.in-Ok.i ≡ place_of c.args.name.now l.vars.items = seek_of c.in-Ok.ensures.place c.as_str.ensures c.as_slice.ensures.value in
    read_value c.as_ref.result e.1 c.as_ref.ensures.value ∙ found_bound c.args.name.now l.vars.items l.order c.in-Ok.i e c.index.ensures place

pub returns-in-Err-clause-value : goal.returns-in-Err-clause-value
returns-in-Err-clause-value c =
    let l = c.args.self.now in
    let place : Err c.in-Err.i ≡ place_of c.args.name.now l.vars.items = seek_of c.in-Err.ensures.place c.as_str.ensures c.as_slice.ensures.value in
    missing_bound c.args.name.now l.vars.items l.order c.in-Err.i place
