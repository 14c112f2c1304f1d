use Rattle.std.proofs.Common.{◌+◌, ◌∷◌, [], refl, ap, ◌∙◌, length, length-append}
use Rattle.std.proofs.lemmas.Option.{slice_get_read}
use Rattle.wf_table.proofs.Tabled.{finds_turn}
use Rattle.wf_table.proofs.jumps.all_names.Goals as goal

pub loop-node-preserved : goal.loop-node-preserved
loop-node-preserved c = record {
  long = ap length c.in_ok-add.ensures ∙ length-append c.loop-node.lists.items (c.in_ok-list_names.field-0 ∷ []) ∙ ap (λ n. n + 1) c.loop-node.invariant.long;
  finds =
      finds_turn c.args.nodes.now c.loop-node.lists.items _ c.loop-node.node-index c.node-item.result c.in_ok-list_names.field-0 c.loop-node.invariant.long
      (slice_get_read c.args.nodes.now _ c.loop-node.node-index c.node-item.result refl c.loop-node-test.true c.node-item.is) c.in_ok-add.ensures c.in_ok-list_names.ensures c.loop-node.invariant.finds;
}
