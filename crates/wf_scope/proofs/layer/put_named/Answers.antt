use Rattle.std.proofs.Common.{List, Option, Some, ◌≡◌, ap, rules, sym, ◌∙◌}
use Rattle.std.specs.List.{insert}
use Rattle.wf_value.proofs.Seeks.{found_within, found_writes, missing_inserts, missing_within}
use Rattle.wf_value.specs.Maps.{with_value}
use Rattle.wf_value.specs.Pairs.{Text}
use Rattle.wf_value.specs.declared.Value.{Value}
use Rattle.wf_scope.proofs.layer.put_named.Goals as goal

pub index_mut-requires : goal.index_mut-requires
index_mut-requires c = search (rules, found_within c.args.names.now.items c.args.name.now c.in-Ok.i (sym c.in-Ok.is ∙ c.requires))

pub insert-requires : goal.insert-requires
insert-requires c = search (rules, missing_within c.args.names.now.items c.args.name.now c.in-Err.i (sym c.in-Err.is ∙ c.requires))

pub returns-in-Ok : goal.returns-in-Ok
returns-in-Ok c = found_writes c.args.names.now.items c.args.name.now c.in-Ok.i c.index_mut.result.now (Some c.args.value) c.index_mut.ensures.value (sym c.in-Ok.is ∙ c.requires)

pub returns-in_ok-insert-in-Err : goal.returns-in_ok-insert-in-Err
returns-in_ok-insert-in-Err c =
    let es = c.args.names.now.items in
    let i = c.in-Err.i in
    let v = c.args.value in
    let k = c.args.name.now in
    let written : insert es i (c.in_ok-copy-in-Err.field-0, Some v) ≡ insert es i (k, Some v) = ap (λ (x : Text). insert es i (x, Some v)) c.in_ok-copy-in-Err.ensures in
    let put : insert es i (k, Some v) ≡ with_value k (Some v) es = missing_inserts es k i (Some v) (sym c.in-Err.is ∙ c.requires) in
    ◌∙◌ {A = List (Text × Option Value)} c.in_ok-insert-in-Err.ensures.items (◌∙◌ {A = List (Text × Option Value)} written put)
