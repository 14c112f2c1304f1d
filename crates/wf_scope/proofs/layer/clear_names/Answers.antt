use Rattle.std.proofs.Common.{◌<◌, ◌∙◌, arith, length, rules}
use Rattle.std.proofs.lemmas.List.{length-set}
use Rattle.std.proofs.lemmas.List.Edits.{map_over_more}
use Rattle.wf_scope.specs.Names.{unbound}
use Rattle.wf_scope.proofs.layer.clear_names.Goals as goal

pub loop-i-preserved : goal.loop-i-preserved
loop-i-preserved c =
    let old = c.args.names.now.items in
    let i = c.loop-i.i in
    let inside : i < length c.loop-i.names.items = search rules in
    record {
      so_far = map_over_more unbound old c.loop-i.names.items i c.index_mut.result.now (omega (arith, inside, c.loop-i.invariant.long)) c.loop-i.invariant.so_far c.index_mut.ensures.value;
      long = length-set c.loop-i.names.items i (unbound c.index_mut.result.now) ∙ c.loop-i.invariant.long;
    }
