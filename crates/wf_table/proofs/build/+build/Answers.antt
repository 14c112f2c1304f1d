use Rattle.std.proofs.Common.{suc, ◌+◌, [], ◌∷◌, ◌++◌, Option, None, Some, length, map, refl, sym, ap, ◌∙◌, add-one}
use Rattle.wf_ast.proofs.Views.{arms_level, branches_level, try_level}
use Rattle.wf_ast.specs.Tree as tree
use Rattle.wf_ast.specs.View.{arm_view, body_view, branch_view, call_view, entry_view, except_option_view, loop_view, over_view, policy_option_view, steps_in, template_view, texts_view, try_view, work_view}
use Rattle.wf_ast.specs.declared.body.Body.TheViews.{out-Branch, out-Except, out-LoopBody, out-TryBody}
use Rattle.wf_table.proofs.Adding.{held_next, longer, nothing, of_these, placed}
use Rattle.wf_table.proofs.Adding as adding
use Rattle.wf_model.proofs.Compiling.{alike, in_all, plainly, then}
use Rattle.wf_table.proofs.Forms.{behind, branch_is, except_is, formed, loop_is, repeats, steps_are, works}
use Rattle.wf_table.proofs.Going.{adds_all, all_numbers, begins, goes}
use Rattle.wf_table.proofs.Laid.{arm_own, arm_parts, arms_lay, branch_own, branch_parts, branches_lay, numbers_of_arms, numbers_of_branches, numbers_of_steps, step_own, step_parts, steps_lay}
use Rattle.wf_table.proofs.build.+build.Goals as goal
use Rattle.wf_model.specs.Compiles.{code_list}
use Rattle.wf_model.specs.NodeKinds as kind
use Rattle.wf_model.specs.NodeKinds.{Listed, Repeated, block_view, call_by, handler_view, kind_by, listed, loop_by, over_by, side_by}
use Rattle.wf_table.specs.Made.{Adds, arm_numbers, body_for, branch_numbers, entry_numbers, handler_for, side_for, step_numbers, try_for}
use Rattle.wf_model.specs.Shapes.{shape_by}
use Rattle.wf_model.specs.Spots.{BodyAt, BranchAt, arms_spots, body_size, body_spots, branches_spots, except_spots, spot, step_spots, steps_spots, try_spots}
use Rattle.wf_value.specs.Pairs.{Text}

-- ## Lists of steps
pub block-loop-step-init : goal.block-loop-step-init
block-loop-step-init t c = λ os st. begins (step_parts os) numbers_of_steps _ _ _ c.new-numbers.ensures.items

pub block-loop-step-preserved : goal.block-loop-step-preserved
block-loop-step-preserved t c = λ os st.
    let s = c.step-item.result in
    let n = length c.loop-step.nodes.items in
    goes (step_parts os) numbers_of_steps (step_own os) (steps_lay os) _ c.loop-step.nodes.items _ c.items-step-items.result.now c.loop-step.step-index s c.loop-step.numbers.items _ c.in_ok-body.field-0
    c.loop-step-test.true c.step-item.is c.in_ok-body.ensures.number c.in_ok-add.ensures
    (of_these _ _ _ _ (λ i. step_spots (tree.step (c.in_ok-name.ensures i) (body_view s.body) (c.in_ok-next.ensures i)) n os) (c.in_ok-body.ensures.adds os st)) (c.loop-step.invariant os st)

pub block-returns : goal.block-returns
block-returns t c = λ os st.
    let a = c.args.nodes.now.items in
    let items = c.items-step-items.result.now in
    let same = steps_are c.args.steps.now items c.items-step-items.ensures.view in
    let numbers = all_numbers (step_parts os) numbers_of_steps (step_own os) (steps_lay os) a c.loop-step.nodes.items items c.loop-step.step-index c.loop-step.numbers.items c.loop-step-test.false (c.loop-step.invariant os st) in
    let parts = adds_all (step_parts os) numbers_of_steps (step_own os) (steps_lay os) a c.loop-step.nodes.items items c.loop-step.step-index c.loop-step.numbers.items c.loop-step-test.false (c.loop-step.invariant os st) in (
      λ i. listed ((numbers ∙ ap (λ ss. step_numbers ss (length a)) same) i) (st.depth i),
      of_these a c.loop-step.nodes.items _ _ (ap (λ ss. steps_spots ss (length a) os) same) parts,
    )

-- ## Bodies
pub body-returns-clause-adds : goal.body-returns-clause-adds
body-returns-clause-adds t c = λ os st.
    let x = body_view c.args.body.now in
    let a = c.args.nodes.now.items in
    let b = c.hold.new.nodes.items in
    let d = c.put.new.items.items in
    let n = c.in_ok-number.number in
    let at = c.in_ok-number.ensures.number in
    let p = c.in_ok-number.ensures.grown in
    let next = held_next a b p.0 n at p.1 in
    let h = c.in_ok-kind.ensures os st next in
    let s = spot (BodyAt c.args.name x c.args.next) os in
    let codes = code_list c.kind.new.codes in
    let is = in_all _ codes (λ cs. kind_by cs c.in_ok-kind.kind) (body_for n (length os) x) h.0 in
    of_these a d (s ∷ body_spots x n os) _ (ap (λ m. s ∷ body_spots x m os) at)
    (placed a b c.kind.new.nodes.items d p.0 _ s n (body_spots x n os) p.1 at h.1 c.put.ensures
    (λ i. record { kind = is i; name = c.args.name; next = c.args.next; owner = st.owner i }))

-- ## Kinds
pub kind-returns-in-Nothing : goal.kind-returns-in-Nothing
kind-returns-in-Nothing t c = λ os st at.
    formed _ _ _ _ (λ cs. kind.Nothing) c.args.number os tree.Body.Nothing _ (ap body_view c.in-Nothing.is) (plainly _ _ _ (λ cs. refl)) (nothing _)

pub kind-returns-in_ok-entries-in-Assign : goal.kind-returns-in_ok-entries-in-Assign
kind-returns-in_ok-entries-in-Assign t c = λ os st at.
    let v = c.in_ok-entries-in-Assign.field-0 in
    let es = map entry_view c.items.result.now in
    let h = c.in_ok-entries-in-Assign.ensures os st in
    formed _ _ _ _ (λ cs. kind.Assign v.items) c.args.number os (tree.Body.Assign es) _ (ap body_view c.in-Assign.is ∙ ap tree.Body.Assign (sym c.items.ensures.view))
    (plainly _ _ _ (λ cs. ap kind.Assign (h.0 ∙ ap (entry_numbers es) (sym at)))) h.1

pub kind-returns-in_ok-call_node-in-Call : goal.kind-returns-in_ok-call_node-in-Call
kind-returns-in_ok-call_node-in-Call t c = λ os st at.
    let k = c.in_ok-call_node-in-Call.field-0 in
    let x = call_view c.in-Call.call in
    formed _ _ _ _ (λ cs. kind.Call (call_by cs k)) c.args.number os (tree.Body.Call x) _ (ap body_view c.in-Call.is)
    (then kind.Call _ _ (λ cs. call_by cs k) x c.in_ok-call_node-in-Call.ensures) (nothing _)

pub kind-returns-in_ok-arms-in-Switch : goal.kind-returns-in_ok-arms-in-Switch
kind-returns-in_ok-arms-in-Switch t c = λ os st at.
    let v = c.in_ok-arms-in-Switch.field-0 in
    let xs = tree.arms (map arm_view c.items-in-Switch.result.now) in
    let h = c.in_ok-arms-in-Switch.ensures os st in
    formed _ _ _ _ (λ cs. kind.Switch v.items) c.args.number os (tree.Body.Switch xs) _
    (ap body_view c.in-Switch.is ∙ ap tree.Body.Switch (arms_level c.in-Switch.list ∙ ap tree.arms (sym c.items-in-Switch.ensures.view)))
    (plainly _ _ _ (λ cs. ap kind.Switch (h.0 ∙ ap (arm_numbers xs) (sym at)))) (of_these _ _ _ _ (ap (λ m. arms_spots xs m os) (sym at)) h.1)

pub kind-returns-in_ok-loop_node-in-For : goal.kind-returns-in_ok-loop_node-in-For
kind-returns-in_ok-loop_node-in-For t c = λ os st at.
    let l = c.in_ok-loop_node-in-For.field-0 in
    let h = c.in_ok-loop_node-in-For.ensures at in
    formed _ _ _ _ (λ cs. kind.For (loop_by cs l)) c.args.number os (tree.Body.For (loop_view c.in-For.repeated)) _ (ap body_view c.in-For.is)
    (then kind.For _ _ (λ cs. loop_by cs l) _ h.0) h.1

pub kind-returns-in_ok-work-in-Parallel : goal.kind-returns-in_ok-work-in-Parallel
kind-returns-in_ok-work-in-Parallel t c = λ os st at.
    let p = c.in-Parallel.parallel in
    let w = c.in_ok-work-in-Parallel.field-0 in
    let shared = texts_view c.in_ok-texts-in-Parallel.field-0 in
    let h = c.in_ok-work-in-Parallel.ensures os st at in
    let z = side_for c.args.number (work_view p.work) in
    formed _ _ _ _ (λ cs. kind.Parallel shared p.limit (side_by cs w)) c.args.number os (tree.Body.Parallel (tree.parallel (texts_view p.shared) p.limit (work_view p.work))) _ (ap body_view c.in-Parallel.is)
    (alike _ _ (λ cs. kind.Parallel shared p.limit (side_by cs w)) _ (kind.Parallel shared p.limit z) _ (λ cs. refl) (ap (λ xs. kind.Parallel xs p.limit z) c.in_ok-texts-in-Parallel.ensures) (then (kind.Parallel shared p.limit) _ _ (λ cs. side_by cs w) z h.0)) h.1

pub kind-returns-in_ok-block-in-Block : goal.kind-returns-in_ok-block-in-Block
kind-returns-in_ok-block-in-Block t c = λ os st at.
    let n = c.args.number in
    let ss = steps_in c.in-Block.list in
    let b = c.in_ok-block-in-Block.field-0 in
    let h = c.in_ok-block-in-Block.ensures (n ∷ os) (c.in_ok-inside-in-Block.ensures os st) in
    formed _ _ _ _ (λ cs. kind.Block (block_view b)) n os (tree.Body.Block ss) _ (ap body_view c.in-Block.is)
    (plainly _ _ _ (λ cs. ap kind.Block (h.0 ∙ ap (λ m. listed (step_numbers ss m) (suc (length os))) (sym at)))) (of_these _ _ _ _ (ap (λ m. steps_spots ss m (n ∷ os)) (sym at)) h.1)

pub kind-returns-in_ok-try_node-in-Try : goal.kind-returns-in_ok-try_node-in-Try
kind-returns-in_ok-try_node-in-Try t c = λ os st at.
    let x = c.in_ok-try_node-in-Try.field-0 in
    let h = c.in_ok-try_node-in-Try.ensures os st at in
    formed _ _ _ _ (λ cs. kind.Try x.body (policy_option_view x.policy) (handler_view x.except)) c.args.number os (tree.Body.Try (try_view c.in-Try.tried)) _ (ap body_view c.in-Try.is) (plainly _ _ _ (λ cs. h.0)) h.1

pub kind-returns-in_ok-shape_of-in-Raise : goal.kind-returns-in_ok-shape_of-in-Raise
kind-returns-in_ok-shape_of-in-Raise t c = λ os st at.
    let s = c.in_ok-shape_of-in-Raise.field-0 in
    let x = template_view c.in-Raise.template in
    formed _ _ _ _ (λ cs. kind.Raise (shape_by cs s)) c.args.number os (tree.Body.Raise x) _ (ap body_view c.in-Raise.is) (then kind.Raise _ _ (λ cs. shape_by cs s) x c.in_ok-shape_of-in-Raise.ensures) (nothing _)

pub kind-returns-in_ok-shape_of-in-Return : goal.kind-returns-in_ok-shape_of-in-Return
kind-returns-in_ok-shape_of-in-Return t c = λ os st at.
    let s = c.in_ok-shape_of-in-Return.field-0 in
    let x = template_view c.in-Return.template in
    formed _ _ _ _ (λ cs. kind.Return (shape_by cs s)) c.args.number os (tree.Body.Return x) _ (ap body_view c.in-Return.is) (then kind.Return _ _ (λ cs. shape_by cs s) x c.in_ok-shape_of-in-Return.ensures) (nothing _)

-- ## Arms
pub arms-loop-item-init : goal.arms-loop-item-init
arms-loop-item-init t c = λ os st. begins (arm_parts os) numbers_of_arms _ _ _ c.new-numbers.ensures.items

pub arms-loop-item-preserved : goal.arms-loop-item-preserved
arms-loop-item-preserved t c = λ os st.
    let a = c.item-item.result in
    let b = c.loop-item.nodes.items in
    let m = c.arm.new.nodes.items in
    let d = c.body.new.nodes.items in
    let x = body_view a.body in
    let first = c.in_ok-arm.ensures.adds os st in
    let count = longer b m _ first in
    let second = of_these m d _ (step_spots (tree.step [] x a.next) (suc (length b)) os)
    (λ i. step_spots (tree.step (c.in_ok-name.ensures i) x (c.in_ok-next.ensures i)) ((count ∙ add-one (length b)) i) os) (c.in_ok-body.ensures.adds os st) in
    goes (arm_parts os) numbers_of_arms (arm_own os) (arms_lay os) _ b d c.args.arms.now c.loop-item.item-index a c.loop-item.numbers.items _ c.in_ok-arm.field-0
    c.loop-item-test.true c.item-item.is c.in_ok-arm.ensures.number c.in_ok-add.ensures (adding.then b m d _ _ first second) (c.loop-item.invariant os st)

pub arms-returns : goal.arms-returns
arms-returns t c = λ os st. (
  all_numbers (arm_parts os) numbers_of_arms (arm_own os) (arms_lay os) _ c.loop-item.nodes.items c.args.arms.now c.loop-item.item-index c.loop-item.numbers.items c.loop-item-test.false (c.loop-item.invariant os st),
  adds_all (arm_parts os) numbers_of_arms (arm_own os) (arms_lay os) _ c.loop-item.nodes.items c.args.arms.now c.loop-item.item-index c.loop-item.numbers.items c.loop-item-test.false (c.loop-item.invariant os st),
)

-- ## Loops
repeated : Text → Option Text → tree.Over → Listed → Repeated
repeated x y o ss = record { value = x; index = y; over = o; steps = ss }

pub loop_node-returns : goal.loop_node-returns
unfolding repeated
loop_node-returns t c = λ at.
    let r = out-LoopBody c.args.repeated.now in
    let n = c.args.number in
    let ss = steps_in r.steps in
    let x = c.of-value.result in
    let y = c.in_ok-index.index in
    let o = c.in_ok-over.over in
    let b = block_view c.in_ok-block.block in
    let h = c.in_ok-block.ensures (n ∷ []) c.alone.ensures in
    repeats _ _ _ _ (λ cs. repeated x y (over_by cs o) b) n (tree.loop r.value r.index (over_view r.over) ss) _ (loop_is c.args.repeated.now)
    (alike _ _ (λ cs. repeated x y (over_by cs o) b) _ (repeated x y (over_view r.over) b) _ (λ cs. refl)
    (λ i. repeated ((c.of-value.ensures ∙ c.in_ok-copy.ensures) i) (c.in_ok-index.ensures i) (over_view r.over) ((h.0 ∙ ap (λ m. listed (step_numbers ss m) 1) (sym at)) i))
    (then (λ u. repeated x y u b) _ _ (λ cs. over_by cs o) (over_view r.over) c.in_ok-over.ensures))
    (of_these _ _ _ _ (ap (λ m. steps_spots ss m (n ∷ [])) (sym at)) h.1)

-- ## Parallel steps
pub work-returns-in_ok-branches-in-Branches : goal.work-returns-in_ok-branches-in-Branches
work-returns-in_ok-branches-in-Branches t c = λ os st at.
    let v = c.in_ok-branches-in-Branches.field-0 in
    let xs = tree.branches (map branch_view c.items.result.now) in
    let h = c.in_ok-branches-in-Branches.ensures os st in
    works _ _ _ _ (λ cs. kind.Branches v.items) c.args.number os (tree.OfBranches xs) _
    (ap work_view c.in-Branches.is ∙ ap tree.OfBranches (branches_level c.in-Branches.list ∙ ap tree.branches (sym c.items.ensures.view)))
    (plainly _ _ _ (λ cs. ap kind.Branches (h.0 ∙ ap (branch_numbers xs) (sym at)))) (of_these _ _ _ _ (ap (λ m. branches_spots xs m os) (sym at)) h.1)

pub work-returns-in_ok-loop_node-in-Loop : goal.work-returns-in_ok-loop_node-in-Loop
work-returns-in_ok-loop_node-in-Loop t c = λ os st at.
    let l = c.in_ok-loop_node-in-Loop.field-0 in
    let h = c.in_ok-loop_node-in-Loop.ensures at in
    works _ _ _ _ (λ cs. kind.Iterations (loop_by cs l)) c.args.number os (tree.OfLoop (loop_view c.in-Loop.repeated)) _ (ap work_view c.in-Loop.is)
    (then kind.Iterations _ _ (λ cs. loop_by cs l) _ h.0) h.1

pub branches-loop-item-init : goal.branches-loop-item-init
branches-loop-item-init t c = λ os st. begins (branch_parts os) numbers_of_branches _ _ _ c.new-numbers.ensures.items

pub branches-loop-item-preserved : goal.branches-loop-item-preserved
branches-loop-item-preserved t c = λ os st.
    goes (branch_parts os) numbers_of_branches (branch_own os) (branches_lay os) _ c.loop-item.nodes.items _ c.args.branches.now c.loop-item.item-index c.item-item.result c.loop-item.numbers.items _ c.in_ok-branch.field-0
    c.loop-item-test.true c.item-item.is c.in_ok-branch.ensures.number c.in_ok-add.ensures (c.in_ok-branch.ensures.adds os st) (c.loop-item.invariant os st)

pub branches-returns : goal.branches-returns
branches-returns t c = λ os st. (
  all_numbers (branch_parts os) numbers_of_branches (branch_own os) (branches_lay os) _ c.loop-item.nodes.items c.args.branches.now c.loop-item.item-index c.loop-item.numbers.items c.loop-item-test.false (c.loop-item.invariant os st),
  adds_all (branch_parts os) numbers_of_branches (branch_own os) (branches_lay os) _ c.loop-item.nodes.items c.args.branches.now c.loop-item.item-index c.loop-item.numbers.items c.loop-item-test.false (c.loop-item.invariant os st),
)

pub branch-returns-clause-adds : goal.branch-returns-clause-adds
branch-returns-clause-adds t c = λ os st.
    let r = out-Branch c.args.branch.now in
    let is = branch_is c.args.branch.now in
    let ss = steps_in r.steps in
    let a = c.args.nodes.now.items in
    let b = c.hold.new.nodes.items in
    let d = c.put.new.items.items in
    let n = c.in_ok-number.number in
    let at = c.in_ok-number.ensures.number in
    let p = c.in_ok-number.ensures.grown in
    let next = held_next a b p.0 n at p.1 in
    let h = c.in_ok-block.ensures (n ∷ []) c.alone.ensures in
    let s = spot (BranchAt r.name ss) os in
    of_these a d (s ∷ steps_spots ss (suc n) (n ∷ [])) _ (λ i. spot (BranchAt (sym is i).0 (sym is i).1) os ∷ steps_spots (sym is i).1 (suc (at i)) (at i ∷ []))
    (placed a b c.block.new.nodes.items d p.0 _ s n (steps_spots ss (suc n) (n ∷ [])) p.1 at (of_these b c.block.new.nodes.items _ _ (ap (λ m. steps_spots ss m (n ∷ [])) (sym next)) h.1) c.put.ensures
    (λ i. record { kind = kind.Branch ((h.0 ∙ ap (λ m. listed (step_numbers ss m) 1) (sym next)) i); name = c.in_ok-name.ensures i; next = None; owner = st.owner i }))

-- ## `try`
pub try_node-returns : goal.try_node-returns
try_node-returns t c = λ os st at.
    let r = out-TryBody c.args.tried.now in
    let is = try_level c.args.tried.now in
    let n = c.args.number in
    let x = body_view r.body.value in
    let y = except_option_view r.except in
    let a = c.args.nodes.now.items in
    let b = c.body.new.nodes.items in
    let d = c.handler.new.nodes.items in
    let first : Adds a b (step_spots (tree.step [] x None) (length a) os) = of_these a b _ _ (λ i. step_spots (tree.step (c.in_ok-name.ensures i) (body_view (c.deref.ensures i)) None) (length a) os) (c.in_ok-under.ensures.adds os st) in
    let behind_it = behind a b n x os at first in
    let h = c.in_ok-except.ensures n os (c.in_ok-inner.ensures os st) in
    let second = of_these b d _ _ (ap (λ m. except_spots y m (n ∷ os)) behind_it) h.1 in (
      (λ i. kind.Try ((c.in_ok-under.ensures.number ∙ sym at) i) (c.in_ok-policy.ensures i) ((h.0 ∙ ap (λ m. handler_for m (length os) y) behind_it) i)) ∙ ap (try_for n (length os)) (sym is),
      of_these a d _ _ (ap (λ m. step_spots (tree.step [] x None) m os ++ except_spots y (n + suc (suc (body_size x))) (n ∷ os)) (sym at) ∙ ap (λ z. try_spots z n os) (sym is)) (adding.then a b d _ _ first second),
    )

pub handler-returns-in-None : goal.handler-returns-in-None
handler-returns-in-None t c = λ o os st. (
  ap (λ e. handler_for (length c.args.nodes.now.items) (length os) (except_option_view e)) (sym c.in-None.is),
  of_these _ _ [] _ (ap (λ e. except_spots (except_option_view e) (length c.args.nodes.now.items) (o ∷ os)) (sym c.in-None.is)) (nothing _),
)

pub handler-returns-in_ok-block-in-Some : goal.handler-returns-in_ok-block-in-Some
handler-returns-in_ok-block-in-Some t c = λ o os st.
    let x = c.in-Some.handler in
    let r = out-Except x in
    let ss = steps_in r.steps in
    let m = length c.args.nodes.now.items in
    let is = ap except_option_view c.in-Some.is ∙ except_is x in
    let h = c.in_ok-block-in-Some.ensures (o ∷ os) st in (
      (λ i. Some (record { name = (c.of-name.ensures ∙ c.in_ok-copy-in-Some.ensures) i; steps = h.0 i })) ∙ ap (handler_for m (length os)) (sym is),
      of_these _ _ (steps_spots ss m (o ∷ os)) _ (ap (λ e. except_spots e m (o ∷ os)) (sym is)) h.1,
    )
