use Rattle.std.proofs.Common.{◌<◌, ℕ, List, [], get_or, length, refl, sym, ap, subst, ◌∙◌, add-one}
use Rattle.std.specs.Prelude.{IfOk, option_map}
use Rattle.wf_frames.specs.Forks.{branches_from, branches_of, parallel_at, work_view}
use Rattle.wf_frames.specs.Frames.{left_view}
use Rattle.wf_model.specs.Config.{BranchesLeft}
use Rattle.wf_moves.proofs.Openings.{NextBranch, NextTurn, branch_begins, branch_first, next_within, branches_left, begins_from, loop_begins, turn_first, work_there}
use Rattle.wf_moves.proofs.branch.begin.Goals as goal
use Rattle.wf_moves.specs.Beginnings.{IsBeginning}
use Rattle.wf_moves.specs.Branches.{BeginsAt, first_of}
use Rattle.wf_scope.specs.Store.{layers_of}
use Rattle.wf_value.specs.Plain.{plain}
use Rattle.wf_value.specs.declared.Value.{Value}

pub parallel_node-body-requires : goal.parallel_node-body-requires
parallel_node-body-requires g c = work_there c.args.nodes.now c.args.joining.now.node c.args.joining.now.left c.requires.1.0

pub bounds-as_slice-number : goal.bounds-as_slice-number
bounds-as_slice-number g c =
    let j = c.args.joining.now in
    let within = next_within g.ns c.args.nodes.now j.node c.parallel_node-body.result.now c.in-Branches.branches c.requires.0 c.parallel_node-body.ensures c.in-Branches.is j.next j.left c.requires.1.0 c.requires.1.1.0 in
    subst (λ (xs : List ℕ). j.next < length xs) (sym c.as_slice.ensures.value) within

pub begin_steps-requires : goal.begin_steps-requires
begin_steps-requires g c =
    let j = c.args.joining.now in
    let body = c.parallel_node-body.result.now in
    let at = c.parallel_node-body.ensures in
    let v = c.in-Branches.branches in
    let within = next_within g.ns c.args.nodes.now j.node body v c.requires.0 at c.in-Branches.is j.next j.left c.requires.1.0 c.requires.1.1.0 in
    let begins = branch_begins g.ns c.args.nodes.now j.node body v c.requires.0 at c.in-Branches.is j.next within in
    (c.requires.0, (subst (λ (xs : List ℕ). IsBeginning g.ns c.args.nodes.now (get_or xs j.next 0)) (sym c.as_slice.ensures.value) begins, c.requires.1.1.1))

pub begin_turn-requires : goal.begin_turn-requires
begin_turn-requires g c =
    let j = c.args.joining.now in
    (c.requires.0, (loop_begins g.ns c.args.nodes.now j.node c.parallel_node-body.result.now c.in-Loop.repeated c.requires.0 c.parallel_node-body.ensures c.in-Loop.is, c.requires.1.1.1))

pub returns-in-Some-2-clause-begins : goal.returns-in-Some-2-clause-begins
returns-in-Some-2-clause-begins g c =
    let j = c.args.joining.now in
    let P = parallel_at g.ns j.node in
    let l = c.in-Loop.repeated in
    let body = c.parallel_node-body.result.now in
    let at = c.parallel_node-body.ensures in
    let behind = left_view c.take.new.self in
    let v = plain c.in-Some-2.value in
    let taken = sym (ap (option_map (λ (x : Value). (plain x, behind))) c.in-Some-2.is) ∙ c.in_ok-value-in-Loop.ensures in
    begins_from g.ns c.args.nodes.now j.node c.args.scopes.now.limit c.args.outer.number (NextTurn g.ns c.args.nodes.now j.node body l c.requires.0 at c.in-Loop.is v j.next behind) j _ (layers_of c.args.scopes.now) (layers_of c.begin_turn.new.scopes) c.begin_turn.result
    refl
    (record {
      node = refl;
      next = c.in-Some.ensures.1;
      first = ap (λ w. first_of P j.next (work_view P j.next w)) c.in-Values.is ∙ turn_first g.ns c.args.nodes.now j.node body l c.requires.0 at c.in-Loop.is j.next (left_view c.in-Values.left) v behind taken;
      left = refl;
    })
    c.begin_turn.ensures.begins

pub returns-in-Branches-clause-begins : goal.returns-in-Branches-clause-begins
returns-in-Branches-clause-begins g c =
    let j = c.args.joining.now in
    let nodes = c.args.nodes.now in
    let P = parallel_at g.ns j.node in
    let body = c.parallel_node-body.result.now in
    let at = c.parallel_node-body.ensures in
    let v = c.in-Branches.branches in
    let within = next_within g.ns nodes j.node body v c.requires.0 at c.in-Branches.is j.next j.left c.requires.1.0 c.requires.1.1.0 in
    let left = branches_left nodes j.node body v j.left at c.in-Branches.is c.requires.1.0 in
    let limit = c.args.scopes.now.limit in
    let before = layers_of c.args.scopes.now in
    let behind = layers_of c.begin_steps.new.scopes in
    begins_from g.ns nodes (get_or v.items j.next 0) limit c.args.outer.number (NextBranch g.ns nodes j.node body v c.requires.0 at c.in-Branches.is j.next within) j _ before behind c.begin_steps.result
    refl
    (record {
      node = refl;
      next = c.in-Some.ensures.1;
      first = ap (λ w. first_of P j.next (work_view P j.next w)) left ∙ branch_first g.ns nodes j.node body v c.requires.0 at c.in-Branches.is j.next within;
      left = ap (λ w. work_view P c.in-Some.next w) left ∙ ap (λ (k : ℕ). BranchesLeft (branches_from k (branches_of P))) (c.in-Some.ensures.1 ∙ add-one j.next);
    })
    (subst (λ (xs : List ℕ). IfOk c.begin_steps.result (BeginsAt g.ns nodes (get_or xs j.next 0) [] limit c.args.outer.number before behind)) c.as_slice.ensures.value c.begin_steps.ensures.begins)
