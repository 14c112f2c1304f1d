use Rattle.std.proofs.Common.{suc, [], ◌∷◌, None, sym, ap, ◌∙◌}
use Rattle.wf_ast.proofs.Views.{steps_level}
use Rattle.wf_ast.specs.View.{flow_view, steps_in}
use Rattle.wf_table.proofs.Adding.{held_next, of_these, placed}
use Rattle.wf_table.proofs.build.flow_node.Goals as goal
use Rattle.wf_model.specs.NodeKinds as kind
use Rattle.wf_model.specs.NodeKinds.{listed}
use Rattle.wf_table.specs.Made.{step_numbers}
use Rattle.wf_model.specs.Spots.{FlowAt, spot, steps_spots}

pub returns-clause-adds : goal.returns-clause-adds
returns-clause-adds c =
    let f = c.args.flow.now in
    let a = c.args.nodes.now.items in
    let b = c.hold.new.nodes.items in
    let n = c.in_ok-number.number in
    let at = c.in_ok-number.ensures.number in
    let ss = steps_in f.steps in
    let next = held_next a b c.in_ok-number.ensures.grown.0 n at c.in_ok-number.ensures.grown.1 in
    let h = c.in_ok-block.ensures (n ∷ []) c.alone.ensures in
    of_these a c.put.new.items.items (spot (FlowAt (flow_view f)) [] ∷ steps_spots ss (suc n) (n ∷ [])) _
    (λ i. spot (FlowAt (flow_view f)) [] ∷ steps_spots (steps_level f.steps i) (suc (at i)) (at i ∷ []))
    (placed a b c.block.new.nodes.items c.put.new.items.items c.in_ok-number.ensures.grown.0 _ (spot (FlowAt (flow_view f)) []) n (steps_spots ss (suc n) (n ∷ []))
    c.in_ok-number.ensures.grown.1 at (of_these b c.block.new.nodes.items _ _ (ap (λ m. steps_spots ss m (n ∷ [])) (sym next)) h.1) c.put.ensures
    (λ i. record {
      kind = kind.Flow (c.in_ok-params.ensures i) ((h.0 ∙ (λ j. listed (step_numbers (steps_level f.steps j) (sym next j)) 1)) i);
      name = c.in_ok-name.ensures i;
      next = None;
      owner = None;
    }))
