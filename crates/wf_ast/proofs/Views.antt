-- One level of each view in terms of the list of the items.
use Rattle.std.proofs.Common.{◌≡◌, ◌∙◌, refl, sym, ap, map, Option, Some, None}
use Rattle.wf_ast.specs.Tree as t
use Rattle.wf_ast.specs.View.{expr_view, expr_row, exprs_view, template_view, template_row, templates_view, fields_in, field_row, field_view, fields_view}
use Rattle.wf_ast.specs.View.{over_view, policy_option_view, except_option_view}
use Rattle.wf_ast.specs.View.{body_view, loop_view, try_view, held_view, except_view, steps_in, arms_in, branches_in, step_row, arm_row, branch_row, step_view, steps_view, arm_view, arms_view, branch_view, branches_view}
use Rattle.wf_ast.specs.declared.expr.Func.{Func}
use Rattle.wf_ast.specs.declared.expr.Expr.{Row_of-Expr, end_of-Expr, more_of-Expr, items-the_row-Expr, items_hidden-the_row-Expr-0}
use Rattle.wf_ast.specs.declared.expr.Expr.TheBlock.{hidden-the_row-Expr-0}
use Rattle.wf_ast.specs.declared.expr.Exprs.{Exprs}
use Rattle.wf_ast.specs.declared.expr.Expr.TheViews as e
use Rattle.wf_ast.specs.declared.template.Template.{Map, Row_of-Template, end_of-Template, more_of-Template, items-the_row-Template, items_hidden-the_row-Template-0}
use Rattle.wf_ast.specs.declared.template.Template.TheBlock.{hidden-the_row-Template-0, hidden-the_row-NamedTemplate-1}
use Rattle.wf_ast.specs.declared.template.Template.TheViews.{roll-NamedTemplates, out-NamedTemplates, roll-out-NamedTemplates}
use Rattle.wf_ast.specs.declared.body.Body.TheBlock.{hidden-the_row-Step-2}
use Rattle.wf_ast.specs.declared.body.Body.TheViews.{roll-StepList, out-StepList, roll-out-StepList}
use Rattle.wf_ast.specs.declared.template.Templates.{Templates}
use Rattle.wf_ast.specs.declared.template.NamedTemplates.{NamedTemplates, Row_of-NamedTemplate, end_of-NamedTemplate, more_of-NamedTemplate, items-the_row-NamedTemplate, items_hidden-the_row-NamedTemplate-1}
use Rattle.wf_ast.specs.declared.template.Template.TheViews as template
use Rattle.wf_ast.specs.declared.body.StepList.{StepList, Row_of-Step, end_of-Step, more_of-Step, items-the_row-Step, items_hidden-the_row-Step-2}
use Rattle.wf_ast.specs.declared.body.Arms.{Arms, Row_of-Arm, end_of-Arm, more_of-Arm, items-the_row-Arm, items_hidden-the_row-Arm-0}
use Rattle.wf_ast.specs.declared.body.Branches.{Branches, Row_of-Branch, end_of-Branch, more_of-Branch, items-the_row-Branch, items_hidden-the_row-Branch-1}
use Rattle.wf_ast.specs.declared.body.Branch.{Branch, Branch'}
use Rattle.wf_ast.specs.declared.body.LoopBody.{LoopBody}
use Rattle.wf_ast.specs.declared.body.TryBody.{TryBody}
use Rattle.wf_ast.specs.declared.body.Except.{Except}
use Rattle.wf_ast.specs.declared.body.Body.TheBlock.{back-TryBody-except, hidden-the_row-Step-2, hidden-the_row-Arm-0, hidden-the_row-Branch-1}
use Rattle.wf_ast.specs.declared.body.Body.TheViews.{roll-StepList, out-StepList, roll-out-StepList, roll-Arms, out-Arms, roll-out-Arms, roll-Branches, out-Branches, roll-out-Branches}
use Rattle.wf_ast.specs.declared.body.Body.TheViews.{roll-Branch, out-Branch, roll-out-Branch, roll-LoopBody, out-LoopBody, roll-out-LoopBody, roll-Except, out-Except, roll-out-Except, roll-TryBody, out-TryBody, roll-out-TryBody}

-- ## Expressions
expr_items : (n : _) (row : Row_of-Expr n) → expr_row row ≡ t.exprs (map expr_view (items-the_row-Expr n row))
expr_items n end_of-Expr = refl
expr_items n (more_of-Expr {n = m} x rest) = ap (t.expr (expr_view x)) (expr_items m rest)

pub view_call : (f : Func) (es : Exprs) → expr_view (e.Call f es) ≡ t.Expr.Call f (t.exprs (exprs_view es))
view_call f es = ap (t.Expr.Call f) (expr_items _ (hidden-the_row-Expr-0 es.items) ∙ ap (λ l. t.exprs (map expr_view l)) (items_hidden-the_row-Expr-0 es.items))

-- ## Templates
template_items : (n : _) (row : Row_of-Template n) → template_row row ≡ t.templates (map template_view (items-the_row-Template n row))
template_items n end_of-Template = refl
template_items n (more_of-Template {n = m} x rest) = ap (t.template (template_view x)) (template_items m rest)

pub view_list : (ts : Templates) → template_view (template.List ts) ≡ t.Listed (t.templates (templates_view ts))
view_list ts = ap t.Listed (template_items _ (hidden-the_row-Template-0 ts.items) ∙ ap (λ l. t.templates (map template_view l)) (items_hidden-the_row-Template-0 ts.items))

field_items : (n : _) (row : Row_of-NamedTemplate n) → field_row row ≡ t.fields (map field_view (items-the_row-NamedTemplate n row))
field_items n end_of-NamedTemplate = refl
field_items n (more_of-NamedTemplate {n = m} name x rest) = ap (t.field name (template_view x)) (field_items m rest)

fields_rolled : (r : _) → fields_in (roll-NamedTemplates r) ≡ t.fields (map field_view r.items.items)
unfolding roll-NamedTemplates denote.Hole.Carrier.roll hidden-the_row-NamedTemplate-1
fields_rolled r = field_items _ (hidden-the_row-NamedTemplate-1 r.items) ∙ ap (λ l. t.fields (map field_view l)) (items_hidden-the_row-NamedTemplate-1 r.items)

pub fields_level : (ns : NamedTemplates) → fields_in ns ≡ t.fields (fields_view ns)
fields_level ns = ap fields_in (sym (roll-out-NamedTemplates ns)) ∙ fields_rolled (out-NamedTemplates ns)

pub view_map : (ns : NamedTemplates) → template_view (Map ns) ≡ t.Mapped (t.fields (fields_view ns))
view_map ns = ap t.Mapped (fields_level ns)

-- ## Steps
step_items : (n : _) (row : Row_of-Step n) → step_row row ≡ t.steps (map step_view (items-the_row-Step n row))
step_items n end_of-Step = refl
step_items n (more_of-Step {n = m} name b next rest) = ap (t.more (t.step name (body_view b) next)) (step_items m rest)

steps_made : (r : _) → steps_in (roll-StepList r) ≡ t.steps (map step_view r.items.items)
unfolding roll-StepList denote.Hole.Carrier.roll hidden-the_row-Step-2
steps_made r = step_items _ (hidden-the_row-Step-2 r.items) ∙ ap (λ l. t.steps (map step_view l)) (items_hidden-the_row-Step-2 r.items)

pub steps_level : (ss : StepList) → steps_in ss ≡ t.steps (steps_view ss)
steps_level ss = ap steps_in (sym (roll-out-StepList ss)) ∙ steps_made (out-StepList ss)

arm_items : (n : _) (row : Row_of-Arm n) → arm_row row ≡ t.arms (map arm_view (items-the_row-Arm n row))
arm_items n end_of-Arm = refl
arm_items n (more_of-Arm {n = m} condition b next rest) = ap (t.arm (template_view condition) (body_view b) next) (arm_items m rest)

arms_made : (r : _) → arms_in (roll-Arms r) ≡ t.arms (map arm_view r.items.items)
unfolding roll-Arms denote.Hole.Carrier.roll hidden-the_row-Arm-0
arms_made r = arm_items _ (hidden-the_row-Arm-0 r.items) ∙ ap (λ l. t.arms (map arm_view l)) (items_hidden-the_row-Arm-0 r.items)

pub arms_level : (xs : Arms) → arms_in xs ≡ t.arms (arms_view xs)
arms_level xs = ap arms_in (sym (roll-out-Arms xs)) ∙ arms_made (out-Arms xs)

branch_items : (n : _) (row : Row_of-Branch n) → branch_row row ≡ t.branches (map branch_view (items-the_row-Branch n row))
branch_items n end_of-Branch = refl
branch_items n (more_of-Branch {n = m} (Branch' name ss) rest) = ap (t.branch name (steps_in ss)) (branch_items m rest)

branches_made : (r : _) → branches_in (roll-Branches r) ≡ t.branches (map branch_view r.items.items)
unfolding roll-Branches denote.Hole.Carrier.roll hidden-the_row-Branch-1
branches_made r = branch_items _ (hidden-the_row-Branch-1 r.items) ∙ ap (λ l. t.branches (map branch_view l)) (items_hidden-the_row-Branch-1 r.items)

pub branches_level : (bs : Branches) → branches_in bs ≡ t.branches (branches_view bs)
branches_level bs = ap branches_in (sym (roll-out-Branches bs)) ∙ branches_made (out-Branches bs)

-- ## Bodies: one that is built, and one that is opened
pub branch_made : (r : _) → branch_view (roll-Branch r) ≡ (r.name, t.steps (steps_view r.steps))
unfolding roll-Branch denote.Hole.Carrier.roll
branch_made r = ap (λ ss. (r.name, ss)) (steps_level r.steps)

pub branch_level : (b : Branch) → branch_view b ≡ ((out-Branch b).name, t.steps (steps_view (out-Branch b).steps))
branch_level b = ap branch_view (sym (roll-out-Branch b)) ∙ branch_made (out-Branch b)

pub loop_made : (r : _) → loop_view (roll-LoopBody r) ≡ t.loop r.value r.index (over_view r.over) (t.steps (steps_view r.steps))
unfolding roll-LoopBody denote.Hole.Carrier.roll
loop_made r = ap (t.loop r.value r.index (over_view r.over)) (steps_level r.steps)

pub loop_level : (l : LoopBody) → loop_view l ≡ t.loop (out-LoopBody l).value (out-LoopBody l).index (over_view (out-LoopBody l).over) (t.steps (steps_view (out-LoopBody l).steps))
loop_level l = ap loop_view (sym (roll-out-LoopBody l)) ∙ loop_made (out-LoopBody l)

pub except_made : (r : _) → except_view (roll-Except r) ≡ t.except r.name (t.steps (steps_view r.steps))
unfolding roll-Except denote.Hole.Carrier.roll
except_made r = ap (t.except r.name) (steps_level r.steps)

pub except_level : (x : Except) → except_view x ≡ t.except (out-Except x).name (t.steps (steps_view (out-Except x).steps))
except_level x = ap except_view (sym (roll-out-Except x)) ∙ except_made (out-Except x)

held : (x : Option Except) → held_view (back-TryBody-except x) ≡ except_option_view x
held None = refl
held (Some x) = refl

pub try_made : (r : _) → try_view (roll-TryBody r) ≡ t.try (body_view r.body.value) (policy_option_view r.policy) (except_option_view r.except)
unfolding roll-TryBody denote.Hole.Carrier.roll
try_made r = ap (t.try (body_view r.body.value) (policy_option_view r.policy)) (held r.except)

pub try_level : (x : TryBody) → try_view x ≡ t.try (body_view (out-TryBody x).body.value) (policy_option_view (out-TryBody x).policy) (except_option_view (out-TryBody x).except)
try_level x = ap try_view (sym (roll-out-TryBody x)) ∙ try_made (out-TryBody x)
