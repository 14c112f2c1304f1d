use Rattle.std.proofs.Common.{◌≡◌, ℕ, ◌<◌, ◌≤◌, List, get_or, length, Some, sym, ap, subst, ◌∙◌}
use Rattle.std.specs.Prelude.{IfOk, slice_get}
use Rattle.wf_lemmas.proofs.Results.{with_ok}
use Rattle.wf_frames.proofs.Parts.{node_at}
use Rattle.wf_model.specs.declared.node.Node.{Node}
use Rattle.wf_moves.proofs.Openings.{branch_title, no_title, number_within, turn_title}
use Rattle.wf_moves.proofs.branch_errors.branch_name.Goals as goal

pub bounds-nodes-branches : goal.bounds-nodes-branches
bounds-nodes-branches g c =
    let v = c.in-Branches.branches in
    subst (λ (xs : List ℕ). get_or xs c.args.number 0 < length c.args.nodes.now) (sym c.as_slice-branches.ensures.value)
    (number_within g.ns c.args.nodes.now c.args.n c.parallel_node-body.result.now v c.requires.0 c.parallel_node-body.ensures c.in-Branches.is c.args.number
    (subst (λ (xs : List ℕ). c.args.number < length xs) c.as_slice-branches.ensures.value c.if-number-branches.true))

pub returns-then-number-branches : goal.returns-then-number-branches
returns-then-number-branches g c =
    let v = c.in-Branches.branches in
    let nodes = c.args.nodes.now in
    let items = c.as_slice-branches.ensures.value in
    let within = subst (λ (xs : List ℕ). c.args.number < length xs) items c.if-number-branches.true in
    let body = c.parallel_node-body.result.now in
    let x = c.index-nodes-branches.result in
    let at = ap (λ (xs : List ℕ). slice_get nodes (get_or xs c.args.number 0)) (sym items)
    ∙ node_at nodes (get_or c.as_slice-branches.result.now c.args.number 0) x (subst (λ (xs : List ℕ). get_or xs c.args.number 0 < length nodes) (sym items)
    (number_within g.ns nodes c.args.n body v c.requires.0 c.parallel_node-body.ensures c.in-Branches.is c.args.number within)) c.index-nodes-branches.is in
    with_ok _ _ c.copy.result
    (λ t e. e ∙ sym (ap (λ (y : Node). y.name) c.index-nodes-branches.is) ∙ sym (branch_title g.ns nodes c.args.n body v c.requires.0 c.parallel_node-body.ensures c.in-Branches.is c.args.number within x at))
    c.copy.ensures

pub returns-else-number-branches : goal.returns-else-number-branches
returns-else-number-branches g c =
    let past = subst (λ (xs : List ℕ). length xs ≤ c.args.number) c.as_slice-branches.ensures.value c.if-number-branches.false in
    with_ok _ _ c.new.result
    (λ t e. e ∙ sym (no_title g.ns c.args.nodes.now c.args.n c.parallel_node-body.result.now c.in-Branches.branches c.requires.0 c.parallel_node-body.ensures c.in-Branches.is c.args.number past))
    c.new.ensures

pub returns-in_ok-text-in-Loop : goal.returns-in_ok-text-in-Loop
returns-in_ok-text-in-Loop g c =
    with_ok _ _ c.new-in-Loop.result
    (λ t e. e ∙ c.as_str.ensures.value ∙ c.in_ok-text-in-Loop.ensures.ok ∙ sym (turn_title g.ns c.args.nodes.now c.args.n c.parallel_node-body.result.now c.in-Loop.field-0 c.requires.0 c.parallel_node-body.ensures c.in-Loop.is c.args.number))
    c.new-in-Loop.ensures
