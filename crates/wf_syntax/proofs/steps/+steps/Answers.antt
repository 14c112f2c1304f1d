use Rattle.std.proofs.Common.{◌≡◌, [], ◌∷◌, codes, Err, Some, None, option_map, is_ok, arith, refl, sym, ap, ◌∙◌, subst}
use Rattle.wf_ast.proofs.Views.{branch_made, except_made}
use Rattle.wf_ast.specs.Tree as plain
use Rattle.wf_ast.specs.View.{arms_in, arms_view, branches_in, branches_view, fields_view, steps_in, steps_view}
use Rattle.wf_syntax_rules.specs.Faults.{AreSound}
use Rattle.wf_syntax_rules.specs.Meaning.{AreSteps, Each, IsStep, IsText, Maybe}
use Rattle.wf_syntax_rules.specs.Rules.{Arm, Arms, Branch, Branches, Except, Loop, Parallel, Step, Steps, Try, arm_fault, each, loop_fault, map_fault, parallel_fault, step_fault, try_fault}
use Rattle.wf_syntax.proofs.Bodies.{arm_given, no_condition, step_body_given}
use Rattle.wf_syntax.proofs.Depths.{field_deep, list_item_deep}
use Rattle.wf_syntax.proofs.Levels.{arms_are, branches_are, steps_are}
use Rattle.wf_syntax.proofs.Loops.{block_given, except_given, loop_given, parallel_given, tried_given, work_given}
use Rattle.wf_syntax.proofs.Nodes.{all_items, each_more, field_fails, item_at, item_fails, items_sound, list_fails, list_sound, map_fails, within}
use Rattle.wf_syntax.proofs.Rows.{blocks_fail, body_sound, calls_fail, except_keys, loop_keys, loops_fail, parallel_keys, row_fails, row_sound, told, try_keys, values_fail}
use Rattle.wf_syntax.proofs.Singles.{branch_built, branch_fails, branch_not_one, step_fails, step_given, step_misnamed, step_not_one}
use Rattle.wf_syntax.proofs.steps.+steps.Goals as goal
use Rattle.wf_syntax.specs.Forms.{AreArms, AreBranches, IsArm, IsBranch, block_part_keys, loop_part_keys}
use Rattle.wf_tree.specs.Plain.{plain_items, plain_tree}
use Rattle.wf_tree.specs.Trees.{items_of, list, pairs_of}

pub steps-step-requires : goal.steps-step-requires
steps-step-requires t c =
    let h = list_item_deep (plain_tree c.args.tree.now) c.items-items.result.now c.each.index c.index-items-index.result (ap plain_tree c.in-List.is ∙ ap (λ l. list (items_of l)) (sym c.items-items.ensures)) c.each-test.true c.index-items-index.is in
    (omega arith, tt)

pub steps-returns-in-Err : goal.steps-returns-in-Err
steps-returns-in-Err t c =
    let items = c.items-items.result.now in
    let i = c.each.index in
    list_fails Steps Step _ (plain_items items) c.at_index.result (ap plain_tree c.in-List.is ∙ ap (λ l. list (items_of l)) (sym c.items-items.ensures)) refl refl
    (item_fails Step i (plain_items items) _ c.in-Err.stop c.at_index.result (within items i c.each-test.true) (item_at items i _ c.each-test.true c.index-items-index.is)
    c.each.invariant.sound c.in-Err.ensures c.at_index.ensures)

pub steps-each-preserved : goal.steps-each-preserved
steps-each-preserved t c =
    let items = c.items-items.result.now in
    let i = c.each.index in
    let inside = within items i c.each-test.true in
    let is = item_at items i _ c.each-test.true c.index-items-index.is in
    record {
      sound = items_sound Step i (plain_items items) _ inside is c.each.invariant.sound c.in-Ok.ensures.0;
      steps = each_more IsStep (steps_view c.each.made) _ _ _ i (plain_items items) _ c.push.ensures (ap is_ok c.in_ok-push-in-Ok.was) inside is c.each.invariant.steps c.in-Ok.ensures.1;
    }

pub steps-returns : goal.steps-returns
steps-returns t c =
    let items = c.items-items.result.now in
    let all = all_items items c.each.index c.each-test.false in
    let is = ap plain_tree c.in-List.is ∙ ap (λ l. list (items_of l)) (sym c.items-items.ensures) in (
      list_sound Steps Step _ (plain_items items) is refl refl (λ f k. k) (subst (λ l. AreSound (each Step 0 (items_of l))) all c.each.invariant.sound),
      subst (AreSteps (steps_in c.each.made)) (sym is) (steps_are c.each.made (items_of (plain_items items)) (subst (λ l. Each IsStep (steps_view c.each.made) (items_of l)) all c.each.invariant.steps)),
    )

pub steps_at-steps-requires : goal.steps_at-steps-requires
steps_at-steps-requires t c =
    let h = field_deep c.args.key.now (pairs_of c.args.fields.now) (plain_tree c.in-Some.tree.now) c.in-Some.ensures in
    (omega (arith, h), tt)

pub steps_at-returns-in-Err : goal.steps_at-returns-in-Err
steps_at-returns-in-Err t c = field_fails _ _ _ _ _ _ c.in-Some.ensures c.in-Err.ensures c.at_key.ensures

pub arms-arm-requires : goal.arms-arm-requires
arms-arm-requires t c =
    let h = list_item_deep (plain_tree c.args.tree.now) c.items-items.result.now c.each.index c.index-items-index.result (ap plain_tree c.in-List.is ∙ ap (λ l. list (items_of l)) (sym c.items-items.ensures)) c.each-test.true c.index-items-index.is in
    (omega arith, tt)

pub arms-returns-in-Err : goal.arms-returns-in-Err
arms-returns-in-Err t c =
    let items = c.items-items.result.now in
    let i = c.each.index in
    list_fails Arms Arm _ (plain_items items) c.at_index.result (ap plain_tree c.in-List.is ∙ ap (λ l. list (items_of l)) (sym c.items-items.ensures)) refl refl
    (item_fails Arm i (plain_items items) _ c.in-Err.stop c.at_index.result (within items i c.each-test.true) (item_at items i _ c.each-test.true c.index-items-index.is)
    c.each.invariant.sound c.in-Err.ensures c.at_index.ensures)

pub arms-each-preserved : goal.arms-each-preserved
arms-each-preserved t c =
    let items = c.items-items.result.now in
    let i = c.each.index in
    let inside = within items i c.each-test.true in
    let is = item_at items i _ c.each-test.true c.index-items-index.is in
    record {
      sound = items_sound Arm i (plain_items items) _ inside is c.each.invariant.sound c.in-Ok.ensures.0;
      arms = each_more IsArm (arms_view c.each.made) _ _ _ i (plain_items items) _ c.push.ensures (ap is_ok c.in_ok-push-in-Ok.was) inside is c.each.invariant.arms c.in-Ok.ensures.1;
    }

pub arms-returns : goal.arms-returns
arms-returns t c =
    let items = c.items-items.result.now in
    let all = all_items items c.each.index c.each-test.false in
    let is = ap plain_tree c.in-List.is ∙ ap (λ l. list (items_of l)) (sym c.items-items.ensures) in (
      list_sound Arms Arm _ (plain_items items) is refl refl (λ f k. k) (subst (λ l. AreSound (each Arm 0 (items_of l))) all c.each.invariant.sound),
      subst (AreArms (arms_in c.each.made)) (sym is) (arms_are c.each.made (items_of (plain_items items)) (subst (λ l. Each IsArm (arms_view c.each.made) (items_of l)) all c.each.invariant.arms)),
    )

pub arms_at-arms-requires : goal.arms_at-arms-requires
arms_at-arms-requires t c =
    let h = field_deep c.args.key.now (pairs_of c.args.fields.now) (plain_tree c.in-Some.tree.now) c.in-Some.ensures in
    (omega (arith, h), tt)

pub arms_at-returns-in-Err : goal.arms_at-returns-in-Err
arms_at-returns-in-Err t c = field_fails _ _ _ _ _ _ c.in-Some.ensures c.in-Err.ensures c.at_key.ensures

pub branches-branch-branch-requires : goal.branches-branch-branch-requires
branches-branch-branch-requires t c =
    let h = list_item_deep (plain_tree c.args.tree.now) c.items-items.result.now c.each.index c.index-items-index.result (ap plain_tree c.in-List.is ∙ ap (λ l. list (items_of l)) (sym c.items-items.ensures)) c.each-test.true c.index-items-index.is in
    (omega arith, tt)

pub branches-returns-in_Err-branch : goal.branches-returns-in_Err-branch
branches-returns-in_Err-branch t c =
    let items = c.items-items.result.now in
    let i = c.each.index in
    list_fails Branches Branch _ (plain_items items) c.at_index.result (ap plain_tree c.in-List.is ∙ ap (λ l. list (items_of l)) (sym c.items-items.ensures)) refl refl
    (item_fails Branch i (plain_items items) _ c.in_Err-branch.stop c.at_index.result (within items i c.each-test.true) (item_at items i _ c.each-test.true c.index-items-index.is)
    c.each.invariant.sound c.in_Err-branch.ensures c.at_index.ensures)

pub branches-each-preserved : goal.branches-each-preserved
branches-each-preserved t c =
    let items = c.items-items.result.now in
    let i = c.each.index in
    let inside = within items i c.each-test.true in
    let is = item_at items i _ c.each-test.true c.index-items-index.is in
    record {
      sound = items_sound Branch i (plain_items items) _ inside is c.each.invariant.sound c.in_Ok-branch.ensures.0;
      branches = each_more IsBranch (branches_view c.each.made) _ _ _ i (plain_items items) _ c.push.ensures (ap is_ok c.in_ok-push-in_Ok-branch.was) inside is c.each.invariant.branches c.in_Ok-branch.ensures.1;
    }

pub branches-returns : goal.branches-returns
branches-returns t c =
    let items = c.items-items.result.now in
    let all = all_items items c.each.index c.each-test.false in
    let is = ap plain_tree c.in-List.is ∙ ap (λ l. list (items_of l)) (sym c.items-items.ensures) in (
      list_sound Branches Branch _ (plain_items items) is refl refl (λ f k. k) (subst (λ l. AreSound (each Branch 0 (items_of l))) all c.each.invariant.sound),
      subst (AreBranches (branches_in c.each.made)) (sym is) (branches_are c.each.made (items_of (plain_items items)) (subst (λ l. Each IsBranch (branches_view c.each.made) (items_of l)) all c.each.invariant.branches)),
    )

pub branches_at-branches-requires : goal.branches_at-branches-requires
branches_at-branches-requires t c =
    let h = field_deep c.args.key.now (pairs_of c.args.fields.now) (plain_tree c.in-Some.tree.now) c.in-Some.ensures in
    (omega (arith, h), tt)

pub branches_at-returns-in-Err : goal.branches_at-returns-in-Err
branches_at-returns-in-Err t c = field_fails _ _ _ _ _ _ c.in-Some.ensures c.in-Err.ensures c.at_key.ensures

pub loop_at-loop_body-requires : goal.loop_at-loop_body-requires
loop_at-loop_body-requires t c =
    let h = field_deep c.args.key.now (pairs_of c.args.fields.now) (plain_tree c.in-Some.tree.now) c.in-Some.ensures in
    (omega (arith, h), tt)

pub loop_at-returns-in-Err : goal.loop_at-returns-in-Err
loop_at-returns-in-Err t c = field_fails _ _ _ _ _ _ c.in-Some.ensures c.in-Err.ensures c.at_key.ensures

pub parallel_at-parallel-requires : goal.parallel_at-parallel-requires
parallel_at-parallel-requires t c =
    let h = field_deep c.args.key.now (pairs_of c.args.fields.now) (plain_tree c.in-Some.tree.now) c.in-Some.ensures in
    (omega (arith, h), tt)

pub parallel_at-returns-in-Err : goal.parallel_at-returns-in-Err
parallel_at-returns-in-Err t c = field_fails _ _ _ _ _ _ c.in-Some.ensures c.in-Err.ensures c.at_key.ensures

pub try_at-tried-requires : goal.try_at-tried-requires
try_at-tried-requires t c =
    let h = field_deep c.args.key.now (pairs_of c.args.fields.now) (plain_tree c.in-Some.tree.now) c.in-Some.ensures in
    (omega (arith, h), tt)

pub try_at-returns-in-Err : goal.try_at-returns-in-Err
try_at-returns-in-Err t c = field_fails _ _ _ _ _ _ c.in-Some.ensures c.in-Err.ensures c.at_key.ensures

pub except_at-except-requires : goal.except_at-except-requires
except_at-except-requires t c =
    let h = field_deep (codes "except") (pairs_of c.args.fields.now) (plain_tree c.in-Some.tree.now) c.in-Some.ensures in
    (omega (arith, h), tt)

pub except_at-returns-in-Err : goal.except_at-returns-in-Err
except_at-returns-in-Err t c = field_fails (codes "except") Except (pairs_of c.args.fields.now) _ c.in-Err.stop c.at_key.result c.in-Some.ensures c.in-Err.ensures c.at_key.ensures

pub parts-returns-in_err-call_parts : goal.parts-returns-in_err-call_parts
parts-returns-in_err-call_parts t c =
    told _ _ c.from_residual.result c.in_err-call_parts.field-0.0 c.from_residual.ensures (calls_fail (pairs_of c.args.fields.now) c.in_err-call_parts.field-0.0 c.in_err-call_parts.ensures)

pub parts-returns-in_err-loop_parts : goal.parts-returns-in_err-loop_parts
parts-returns-in_err-loop_parts t c =
    told _ _ c.from_residual-in_err-loop_parts.result c.in_err-loop_parts.field-0.0 c.from_residual-in_err-loop_parts.ensures
    (loops_fail (pairs_of c.args.fields.now) c.in_err-loop_parts.field-0.0 c.in_ok-call_parts.ensures.0 c.in_err-loop_parts.ensures)

pub parts-returns-in_err-value_parts : goal.parts-returns-in_err-value_parts
parts-returns-in_err-value_parts t c =
    told _ _ c.from_residual-in_err-value_parts.result c.in_err-value_parts.field-0.0 c.from_residual-in_err-value_parts.ensures
    (values_fail (pairs_of c.args.fields.now) c.in_err-value_parts.field-0.0 c.in_ok-call_parts.ensures.0 c.in_ok-loop_parts.ensures.0 c.in_err-value_parts.ensures)

pub parts-returns-in_err-block_parts : goal.parts-returns-in_err-block_parts
parts-returns-in_err-block_parts t c =
    told _ _ c.from_residual-in_err-block_parts.result c.in_err-block_parts.field-0.0 c.from_residual-in_err-block_parts.ensures
    (blocks_fail (pairs_of c.args.fields.now) c.in_err-block_parts.field-0.0 c.in_ok-call_parts.ensures.0 c.in_ok-loop_parts.ensures.0 c.in_ok-value_parts.ensures.0 c.in_err-block_parts.ensures)

pub parts-returns : goal.parts-returns
parts-returns t c = (
  body_sound (pairs_of c.args.fields.now) c.in_ok-call_parts.ensures.0 c.in_ok-loop_parts.ensures.0 c.in_ok-value_parts.ensures.0 c.in_ok-block_parts.ensures.0,
  record { calls = c.in_ok-call_parts.ensures.1; loops = c.in_ok-loop_parts.ensures.1; values = c.in_ok-value_parts.ensures.1; blocks = c.in_ok-block_parts.ensures.1 },
)

pub loop_parts-returns-in_err-except_at : goal.loop_parts-returns-in_err-except_at
loop_parts-returns-in_err-except_at t c = told _ _ c.from_residual.result c.in_err-except_at.field-0.0 c.from_residual.ensures (row_fails (pairs_of c.args.fields.now) loop_part_keys 0 c.in_err-except_at.field-0.0 c.in_err-except_at.ensures)

pub loop_parts-returns-in_err-loop_at : goal.loop_parts-returns-in_err-loop_at
loop_parts-returns-in_err-loop_at t c = told _ _ c.from_residual-in_err-loop_at.result c.in_err-loop_at.field-0.0 c.from_residual-in_err-loop_at.ensures (row_fails (pairs_of c.args.fields.now) loop_part_keys 1 c.in_err-loop_at.field-0.0 (c.in_ok-except_at.ensures.0, c.in_err-loop_at.ensures))

pub loop_parts-returns-in_err-text_at : goal.loop_parts-returns-in_err-text_at
loop_parts-returns-in_err-text_at t c = told _ _ c.from_residual-in_err-text_at.result c.in_err-text_at.field-0.0 c.from_residual-in_err-text_at.ensures (row_fails (pairs_of c.args.fields.now) loop_part_keys 2 c.in_err-text_at.field-0.0 (c.in_ok-except_at.ensures.0, (c.in_ok-loop_at.ensures.0, c.in_err-text_at.ensures)))

pub loop_parts-returns-in_err-parallel_at : goal.loop_parts-returns-in_err-parallel_at
loop_parts-returns-in_err-parallel_at t c = told _ _ c.from_residual-in_err-parallel_at.result c.in_err-parallel_at.field-0.0 c.from_residual-in_err-parallel_at.ensures (row_fails (pairs_of c.args.fields.now) loop_part_keys 3 c.in_err-parallel_at.field-0.0 (c.in_ok-except_at.ensures.0, (c.in_ok-loop_at.ensures.0, (c.in_ok-text_at.ensures.0, c.in_err-parallel_at.ensures))))

pub loop_parts-returns : goal.loop_parts-returns
loop_parts-returns t c = (
  row_sound (pairs_of c.args.fields.now) loop_part_keys (c.in_ok-except_at.ensures.0, (c.in_ok-loop_at.ensures.0, (c.in_ok-text_at.ensures.0, (c.in_ok-parallel_at.ensures.0, tt)))),
  record { except = c.in_ok-except_at.ensures.1; repeated = c.in_ok-loop_at.ensures.1; next = c.in_ok-text_at.ensures.1; parallel = c.in_ok-parallel_at.ensures.1 },
)

pub block_parts-returns-in_err-steps_at : goal.block_parts-returns-in_err-steps_at
block_parts-returns-in_err-steps_at t c = told _ _ c.from_residual.result c.in_err-steps_at.field-0.0 c.from_residual.ensures (row_fails (pairs_of c.args.fields.now) block_part_keys 0 c.in_err-steps_at.field-0.0 c.in_err-steps_at.ensures)

pub block_parts-returns-in_err-arms_at : goal.block_parts-returns-in_err-arms_at
block_parts-returns-in_err-arms_at t c = told _ _ c.from_residual-in_err-arms_at.result c.in_err-arms_at.field-0.0 c.from_residual-in_err-arms_at.ensures (row_fails (pairs_of c.args.fields.now) block_part_keys 1 c.in_err-arms_at.field-0.0 (c.in_ok-steps_at.ensures.0, c.in_err-arms_at.ensures))

pub block_parts-returns-in_err-try_at : goal.block_parts-returns-in_err-try_at
block_parts-returns-in_err-try_at t c = told _ _ c.from_residual-in_err-try_at.result c.in_err-try_at.field-0.0 c.from_residual-in_err-try_at.ensures (row_fails (pairs_of c.args.fields.now) block_part_keys 2 c.in_err-try_at.field-0.0 (c.in_ok-steps_at.ensures.0, (c.in_ok-arms_at.ensures.0, c.in_err-try_at.ensures)))

pub block_parts-returns : goal.block_parts-returns
block_parts-returns t c = (
  row_sound (pairs_of c.args.fields.now) block_part_keys (c.in_ok-steps_at.ensures.0, (c.in_ok-arms_at.ensures.0, (c.in_ok-try_at.ensures.0, tt))),
  record { steps = c.in_ok-steps_at.ensures.1; switch = c.in_ok-arms_at.ensures.1; tried = c.in_ok-try_at.ensures.1 },
)

pub loop_body-returns-in_err-list : goal.loop_body-returns-in_err-list
loop_body-returns-in_err-list t c =
    let fs = pairs_of c.in-Map.fields in
    let sound : loop_fault (pairs_of c.in-Map.fields) ≡ None = sym c.in_default-loop_fault.ensures in
    told _ _ c.from_residual.result c.in_err-list.field-0.0 c.from_residual.ensures (map_fails Loop _ fs c.in_err-list.field-0.0 (ap plain_tree c.in-Map.is) sound (row_fails fs loop_keys 0 c.in_err-list.field-0.0 c.in_err-list.ensures))

pub loop_body-returns-in_err-index : goal.loop_body-returns-in_err-index
loop_body-returns-in_err-index t c =
    let fs = pairs_of c.in-Map.fields in
    let sound : loop_fault (pairs_of c.in-Map.fields) ≡ None = sym c.in_default-loop_fault.ensures in
    told _ _ c.from_residual-in_err-index.result c.in_err-index.field-0.0 c.from_residual-in_err-index.ensures (map_fails Loop _ fs c.in_err-index.field-0.0 (ap plain_tree c.in-Map.is) sound (row_fails fs loop_keys 1 c.in_err-index.field-0.0 (c.in_ok-list.ensures.0, c.in_err-index.ensures)))

pub loop_body-returns-in_err-range : goal.loop_body-returns-in_err-range
loop_body-returns-in_err-range t c =
    let fs = pairs_of c.in-Map.fields in
    let sound : loop_fault (pairs_of c.in-Map.fields) ≡ None = sym c.in_default-loop_fault.ensures in
    told _ _ c.from_residual-in_err-range.result c.in_err-range.field-0.0 c.from_residual-in_err-range.ensures (map_fails Loop _ fs c.in_err-range.field-0.0 (ap plain_tree c.in-Map.is) sound (row_fails fs loop_keys 2 c.in_err-range.field-0.0 (c.in_ok-list.ensures.0, (c.in_ok-index.ensures.0, c.in_err-range.ensures))))

pub loop_body-returns-in_err-steps : goal.loop_body-returns-in_err-steps
loop_body-returns-in_err-steps t c =
    let fs = pairs_of c.in-Map.fields in
    let sound : loop_fault (pairs_of c.in-Map.fields) ≡ None = sym c.in_default-loop_fault.ensures in
    told _ _ c.from_residual-in_err-steps.result c.in_err-steps.field-0.0 c.from_residual-in_err-steps.ensures (map_fails Loop _ fs c.in_err-steps.field-0.0 (ap plain_tree c.in-Map.is) sound (row_fails fs loop_keys 3 c.in_err-steps.field-0.0 (c.in_ok-list.ensures.0, (c.in_ok-index.ensures.0, (c.in_ok-range.ensures.0, c.in_err-steps.ensures)))))

pub loop_body-returns-in_err-value : goal.loop_body-returns-in_err-value
loop_body-returns-in_err-value t c =
    let fs = pairs_of c.in-Map.fields in
    let sound : loop_fault (pairs_of c.in-Map.fields) ≡ None = sym c.in_default-loop_fault.ensures in
    told _ _ c.from_residual-in_err-value.result c.in_err-value.field-0.0 c.from_residual-in_err-value.ensures (map_fails Loop _ fs c.in_err-value.field-0.0 (ap plain_tree c.in-Map.is) sound (row_fails fs loop_keys 4 c.in_err-value.field-0.0 (c.in_ok-list.ensures.0, (c.in_ok-index.ensures.0, (c.in_ok-range.ensures.0, (c.in_ok-steps.ensures.0, c.in_err-value.ensures))))))

pub parallel-returns-in_err-branches : goal.parallel-returns-in_err-branches
parallel-returns-in_err-branches t c =
    let fs = pairs_of c.in-Map.fields in
    let sound : parallel_fault (pairs_of c.in-Map.fields) ≡ None = sym c.in_default-parallel_fault.ensures in
    told _ _ c.from_residual.result c.in_err-branches.field-0.0 c.from_residual.ensures (map_fails Parallel _ fs c.in_err-branches.field-0.0 (ap plain_tree c.in-Map.is) sound (row_fails fs parallel_keys 0 c.in_err-branches.field-0.0 c.in_err-branches.ensures))

pub parallel-returns-in_err-limit : goal.parallel-returns-in_err-limit
parallel-returns-in_err-limit t c =
    let fs = pairs_of c.in-Map.fields in
    let sound : parallel_fault (pairs_of c.in-Map.fields) ≡ None = sym c.in_default-parallel_fault.ensures in
    told _ _ c.from_residual-in_err-limit.result c.in_err-limit.field-0.0 c.from_residual-in_err-limit.ensures (map_fails Parallel _ fs c.in_err-limit.field-0.0 (ap plain_tree c.in-Map.is) sound (row_fails fs parallel_keys 1 c.in_err-limit.field-0.0 (c.in_ok-branches.ensures.0, c.in_err-limit.ensures)))

pub parallel-returns-in_err-policy_word_at : goal.parallel-returns-in_err-policy_word_at
parallel-returns-in_err-policy_word_at t c =
    let fs = pairs_of c.in-Map.fields in
    let sound : parallel_fault (pairs_of c.in-Map.fields) ≡ None = sym c.in_default-parallel_fault.ensures in
    told _ _ c.from_residual-in_err-policy_word_at.result c.in_err-policy_word_at.field-0.0 c.from_residual-in_err-policy_word_at.ensures (map_fails Parallel _ fs c.in_err-policy_word_at.field-0.0 (ap plain_tree c.in-Map.is) sound (row_fails fs parallel_keys 2 c.in_err-policy_word_at.field-0.0 (c.in_ok-branches.ensures.0, (c.in_ok-limit.ensures.0, c.in_err-policy_word_at.ensures))))

pub parallel-returns-in_err-repeated : goal.parallel-returns-in_err-repeated
parallel-returns-in_err-repeated t c =
    let fs = pairs_of c.in-Map.fields in
    let sound : parallel_fault (pairs_of c.in-Map.fields) ≡ None = sym c.in_default-parallel_fault.ensures in
    told _ _ c.from_residual-in_err-repeated.result c.in_err-repeated.field-0.0 c.from_residual-in_err-repeated.ensures (map_fails Parallel _ fs c.in_err-repeated.field-0.0 (ap plain_tree c.in-Map.is) sound (row_fails fs parallel_keys 3 c.in_err-repeated.field-0.0 (c.in_ok-branches.ensures.0, (c.in_ok-limit.ensures.0, (c.in_ok-policy_word_at.ensures, c.in_err-repeated.ensures)))))

pub parallel-returns-in_err-shared : goal.parallel-returns-in_err-shared
parallel-returns-in_err-shared t c =
    let fs = pairs_of c.in-Map.fields in
    let sound : parallel_fault (pairs_of c.in-Map.fields) ≡ None = sym c.in_default-parallel_fault.ensures in
    told _ _ c.from_residual-in_err-shared.result c.in_err-shared.field-0.0 c.from_residual-in_err-shared.ensures (map_fails Parallel _ fs c.in_err-shared.field-0.0 (ap plain_tree c.in-Map.is) sound (row_fails fs parallel_keys 4 c.in_err-shared.field-0.0 (c.in_ok-branches.ensures.0, (c.in_ok-limit.ensures.0, (c.in_ok-policy_word_at.ensures, (c.in_ok-repeated.ensures.0, c.in_err-shared.ensures))))))

pub tried-returns-in_err-args : goal.tried-returns-in_err-args
tried-returns-in_err-args t c =
    let fs = pairs_of c.in-Map.fields in
    let sound : try_fault (pairs_of c.in-Map.fields) ≡ None = sym c.in_default-try_fault.ensures in
    told _ _ c.from_residual.result c.in_err-args.field-0.0 c.from_residual.ensures (map_fails Try _ fs c.in_err-args.field-0.0 (ap plain_tree c.in-Map.is) sound (row_fails fs try_keys 0 c.in_err-args.field-0.0 c.in_err-args.ensures))

pub tried-returns-in_err-call : goal.tried-returns-in_err-call
tried-returns-in_err-call t c =
    let fs = pairs_of c.in-Map.fields in
    let sound : try_fault (pairs_of c.in-Map.fields) ≡ None = sym c.in_default-try_fault.ensures in
    told _ _ c.from_residual-in_err-call.result c.in_err-call.field-0.0 c.from_residual-in_err-call.ensures (map_fails Try _ fs c.in_err-call.field-0.0 (ap plain_tree c.in-Map.is) sound (row_fails fs try_keys 1 c.in_err-call.field-0.0 (c.in_ok-args.ensures.0, c.in_err-call.ensures)))

pub tried-returns-in_err-result : goal.tried-returns-in_err-result
tried-returns-in_err-result t c =
    let fs = pairs_of c.in-Map.fields in
    let sound : try_fault (pairs_of c.in-Map.fields) ≡ None = sym c.in_default-try_fault.ensures in
    told _ _ c.from_residual-in_err-result.result c.in_err-result.field-0.0 c.from_residual-in_err-result.ensures (map_fails Try _ fs c.in_err-result.field-0.0 (ap plain_tree c.in-Map.is) sound (row_fails fs try_keys 2 c.in_err-result.field-0.0 (c.in_ok-args.ensures.0, (c.in_ok-call.ensures.0, c.in_err-result.ensures))))

pub tried-returns-in_err-steps : goal.tried-returns-in_err-steps
tried-returns-in_err-steps t c =
    let fs = pairs_of c.in-Map.fields in
    let sound : try_fault (pairs_of c.in-Map.fields) ≡ None = sym c.in_default-try_fault.ensures in
    told _ _ c.from_residual-in_err-steps.result c.in_err-steps.field-0.0 c.from_residual-in_err-steps.ensures (map_fails Try _ fs c.in_err-steps.field-0.0 (ap plain_tree c.in-Map.is) sound (row_fails fs try_keys 3 c.in_err-steps.field-0.0 (c.in_ok-args.ensures.0, (c.in_ok-call.ensures.0, (c.in_ok-result.ensures.0, c.in_err-steps.ensures)))))

pub except-returns-in_err-name : goal.except-returns-in_err-name
except-returns-in_err-name t c =
    let fs = pairs_of c.in-Map.fields in
    let sound : map_fault (codes "as" ∷ codes "steps" ∷ []) [] (pairs_of c.in-Map.fields) ≡ None = sym c.in_default-map_fault.ensures in
    told _ _ c.from_residual.result c.in_err-name.field-0.0 c.from_residual.ensures (map_fails Except _ fs c.in_err-name.field-0.0 (ap plain_tree c.in-Map.is) sound (row_fails fs except_keys 0 c.in_err-name.field-0.0 c.in_err-name.ensures))

pub except-returns-in_err-steps : goal.except-returns-in_err-steps
except-returns-in_err-steps t c =
    let fs = pairs_of c.in-Map.fields in
    let sound : map_fault (codes "as" ∷ codes "steps" ∷ []) [] (pairs_of c.in-Map.fields) ≡ None = sym c.in_default-map_fault.ensures in
    told _ _ c.from_residual-in_err-steps.result c.in_err-steps.field-0.0 c.from_residual-in_err-steps.ensures (map_fails Except _ fs c.in_err-steps.field-0.0 (ap plain_tree c.in-Map.is) sound (row_fails fs except_keys 1 c.in_err-steps.field-0.0 (c.in_ok-name.ensures.0, c.in_err-steps.ensures)))

pub step-returns-in_default : goal.step-returns-in_default
step-returns-in_default t c = step_not_one _ c.here.result c.in_default.ensures c.here.ensures

pub step-returns-then-not-is_step_name : goal.step-returns-then-not-is_step_name
step-returns-then-not-is_step_name t c =
    step_misnamed _ _ _ c.here-then-not-is_step_name.result c.in-Some.ensures (sym c.is_step_name.ensures ∙ c.if-not-is_step_name.true) c.here-then-not-is_step_name.ensures

pub step-returns-in-Err : goal.step-returns-in-Err
step-returns-in-Err t c = step_fails _ _ _ c.in-Err.stop c.at_key.result c.in-Some.ensures (sym c.is_step_name.ensures ∙ c.if-not-is_step_name.false) c.in-Err.ensures c.at_key.ensures

pub step-returns-in-Ok : goal.step-returns-in-Ok
step-returns-in-Ok t c = step_given _ _ _ _ _ _ c.in-Some.ensures (sym c.is_step_name.ensures ∙ c.if-not-is_step_name.false) c.in_ok-held.ensures c.in-Ok.ensures

pub branch-returns-in_default : goal.branch-returns-in_default
branch-returns-in_default t c = branch_not_one _ c.here.result c.in_default.ensures c.here.ensures

pub branch-returns-in-Err : goal.branch-returns-in-Err
branch-returns-in-Err t c = branch_fails _ _ _ c.in-Err.stop c.at_key.result c.in-Some.ensures c.in-Err.ensures c.at_key.ensures

pub step_body-returns : goal.step_body-returns
step_body-returns t c =
    let fs = pairs_of c.in-Map.fields in
    let sound : step_fault (pairs_of c.in-Map.fields) ≡ None = sym c.in_default-step_fault.ensures in
    step_body_given _ c.in_ok-parts.field-0 fs _ _ (ap plain_tree c.in-Map.is) sound c.in_ok-parts.ensures c.in_ok-body.ensures.1 c.in_ok-body.ensures.2

pub arm-returns-in-Some-condition : goal.arm-returns-in-Some-condition
arm-returns-in-Some-condition t c =
    let fs = pairs_of c.in-Map.fields in
    let sound : arm_fault (pairs_of c.in-Map.fields) ≡ None = sym c.in_default-arm_fault.ensures in
    let is : Some c.in-Some-condition.condition ≡ c.in_ok-parts.field-0.calls.condition = sym c.in-Some-condition.is ∙ c.in_ok-condition.ensures.0 in
    arm_given _ c.in_ok-parts.field-0 fs c.in-Some-condition.condition _ _ (ap plain_tree c.in-Map.is) sound c.in_ok-parts.ensures is c.in_ok-condition.ensures.1 c.in_ok-condition.ensures.2

pub arm-returns-in-None : goal.arm-returns-in-None
arm-returns-in-None t c =
    let fs = pairs_of c.in-Map.fields in
    let sound : arm_fault (pairs_of c.in-Map.fields) ≡ None = sym c.in_default-arm_fault.ensures in
    absurd (no_condition c.in_ok-parts.field-0 fs _ sound c.in_ok-parts.ensures.1 c.in_ok-condition.ensures.0 c.in-None.is)

pub block-returns-in-Some-2 : goal.block-returns-in-Some-2
block-returns-in-Some-2 t c =
    let fs = pairs_of c.in-Map.fields in
    let sound : map_fault (codes "steps" ∷ []) [] (pairs_of c.in-Map.fields) ≡ None = sym c.in_default-map_fault.ensures in
    block_given _ fs _ (ap plain_tree c.in-Map.is) sound c.in_ok-steps.ensures.0 (subst (λ o. Maybe (option_map steps_in o) (codes "steps") fs AreSteps) c.in-Some-2.is c.in_ok-steps.ensures.1)

pub branch-returns-in_ok-owned-in-Ok : goal.branch-returns-in_ok-owned-in-Ok
branch-returns-in_ok-owned-in-Ok t c = branch_built _ _ _ _ c.in-Ok.steps _ (branch_made _) c.in-Some.ensures c.in_ok-owned-in-Ok.ensures c.in-Ok.ensures

pub except-returns-in-Some-Some : goal.except-returns-in-Some-Some
except-returns-in-Some-Some t c =
    let fs = pairs_of c.in-Map.fields in
    let sound : map_fault (codes "as" ∷ codes "steps" ∷ []) [] (pairs_of c.in-Map.fields) ≡ None = sym c.in_default-map_fault.ensures in
    except_given _ fs _ c.in-Some-Some.name c.in-Some-Some.steps (ap plain_tree c.in-Map.is) sound (c.in_ok-name.ensures.0, (c.in_ok-steps.ensures.0, tt)) (except_made _)
    (subst (λ o. Maybe o (codes "as") fs IsText) c.in-Some-Some.is-0 c.in_ok-name.ensures.1) (subst (λ o. Maybe (option_map steps_in o) (codes "steps") fs AreSteps) c.in-Some-Some.is-1 c.in_ok-steps.ensures.1)

pub tried-returns-in-Some-default : goal.tried-returns-in-Some-default
tried-returns-in-Some-default t c =
    let fs = pairs_of c.in-Map.fields in
    let sound : try_fault (pairs_of c.in-Map.fields) ≡ None = sym c.in_default-try_fault.ensures in
    let is : c.in_ok-call.call ≡ Some c.in-Some-default.name = c.in-Some-default.is-0 in
    tried_given _ fs (plain.Body.Call (record { name = c.in-Some-default.name; args = plain.fields (fields_view c.in_ok-args.args); result = c.in_ok-result.result })) (ap plain_tree c.in-Map.is) sound (c.in_ok-args.ensures.0, (c.in_ok-call.ensures.0, (c.in_ok-result.ensures.0, (c.in_ok-steps.ensures.0, tt))))
    (subst (λ o. Maybe o (codes "call") fs IsText) is c.in_ok-call.ensures.1, c.in_ok-args.ensures.1, c.in_ok-result.ensures.1)

pub tried-returns-in-None-Some : goal.tried-returns-in-None-Some
tried-returns-in-None-Some t c =
    let fs = pairs_of c.in-Map.fields in
    let sound : try_fault (pairs_of c.in-Map.fields) ≡ None = sym c.in_default-try_fault.ensures in
    tried_given _ fs (plain.Body.Block (steps_in c.in-None-Some.steps)) (ap plain_tree c.in-Map.is) sound (c.in_ok-args.ensures.0, (c.in_ok-call.ensures.0, (c.in_ok-result.ensures.0, (c.in_ok-steps.ensures.0, tt))))
    (subst (λ o. Maybe o (codes "call") fs IsText) c.in-None-Some.is-0 c.in_ok-call.ensures.1, subst (λ o. Maybe (option_map steps_in o) (codes "steps") fs AreSteps) c.in-None-Some.is-1 c.in_ok-steps.ensures.1)

pub loop_body-returns-in-Some-loop_of : goal.loop_body-returns-in-Some-loop_of
loop_body-returns-in-Some-loop_of t c =
    let fs = pairs_of c.in-Map.fields in
    let sound : loop_fault (pairs_of c.in-Map.fields) ≡ None = sym c.in_default-loop_fault.ensures in
    loop_given _ fs _ _ _ _ _ _ c.in-Some-loop_of.ensures (ap plain_tree c.in-Map.is) sound
    (c.in_ok-list.ensures.0, (c.in_ok-index.ensures.0, (c.in_ok-range.ensures.0, (c.in_ok-steps.ensures.0, (c.in_ok-value.ensures.0, tt)))))
    c.in_ok-list.ensures.1 c.in_ok-index.ensures.1 c.in_ok-range.ensures.1 c.in_ok-steps.ensures.1 c.in_ok-value.ensures.1

pub parallel-returns-in-Some-work : goal.parallel-returns-in-Some-work
parallel-returns-in-Some-work t c =
    let fs = pairs_of c.in-Map.fields in
    let sound : parallel_fault (pairs_of c.in-Map.fields) ≡ None = sym c.in_default-parallel_fault.ensures in
    parallel_given _ fs _ _ _ (ap plain_tree c.in-Map.is) sound
    (c.in_ok-branches.ensures.0, (c.in_ok-limit.ensures.0, (c.in_ok-policy_word_at.ensures, (c.in_ok-repeated.ensures.0, (c.in_ok-shared.ensures.0, tt)))))
    c.in_ok-shared.ensures.1 c.in_ok-limit.ensures.1 (work_given _ _ _ fs c.in-Some-work.ensures c.in_ok-branches.ensures.1 c.in_ok-repeated.ensures.1)
