-- The plain data that a tree of the program stands for, by direct recursion over the tree; a list is seen as the list of its items.
use Rattle.std.specs.Prelude.{List, map, Option, Some, None}
use Rattle.wf_value.specs.Data.{Data}
use Rattle.wf_value.specs.Plain.{plain}
use Rattle.wf_value.specs.Pairs.{Text}
use Rattle.wf_value.specs.declared.Value.{Value}
use Rattle.wf_ast.specs.Tree as t
use Rattle.wf_ast.specs.declared.expr.Expr as e
use Rattle.wf_ast.specs.declared.expr.Expr.{Expr, Row_of-Expr, end_of-Expr, more_of-Expr}
use Rattle.wf_ast.specs.declared.expr.Exprs.{Exprs}
use Rattle.wf_ast.specs.declared.template.Part.TheVariants as part
use Rattle.wf_ast.specs.declared.template.Part.{Part}
use Rattle.wf_ast.specs.declared.template.Parts.{Parts}
use Rattle.wf_ast.specs.declared.template.Template as template
use Rattle.wf_ast.specs.declared.template.Template.{Template, Row_of-Template, end_of-Template, more_of-Template}
use Rattle.wf_ast.specs.declared.template.Templates.{Templates}
use Rattle.wf_ast.specs.declared.template.NamedTemplate.{NamedTemplate}
use Rattle.wf_ast.specs.declared.template.NamedTemplates.{NamedTemplates, Row_of-NamedTemplate, end_of-NamedTemplate, more_of-NamedTemplate, NamedTemplates', out-NamedTemplates}
use Rattle.wf_ast.specs.declared.texts.Texts.{Texts}
use Rattle.wf_ast.specs.declared.entry.Target.{Target}
use Rattle.wf_ast.specs.declared.entry.Entry.{Entry}
use Rattle.wf_ast.specs.declared.entry.Entries.{Entries}
use Rattle.wf_ast.specs.declared.policy.Predicate.TheVariants as predicate
use Rattle.wf_ast.specs.declared.policy.Predicate.{Predicate}
use Rattle.wf_ast.specs.declared.policy.Policy.{Policy}
use Rattle.wf_ast.specs.declared.body.CallBody.{CallBody}
use Rattle.wf_ast.specs.declared.body.Over.TheVariants as over
use Rattle.wf_ast.specs.declared.body.Over.{Over}
use Rattle.wf_ast.specs.declared.body.Body as body
use Rattle.wf_ast.specs.declared.body.Body.{Body}
use Rattle.wf_ast.specs.declared.body.Work as work
use Rattle.wf_ast.specs.declared.body.Work.{Work}
use Rattle.wf_ast.specs.declared.body.Step.{Step}
use Rattle.wf_ast.specs.declared.body.StepList.{StepList, Row_of-Step, end_of-Step, more_of-Step, StepList', out-StepList}
use Rattle.wf_ast.specs.declared.body.Arm.{Arm}
use Rattle.wf_ast.specs.declared.body.Arms.{Arms, Row_of-Arm, end_of-Arm, more_of-Arm, Arms', out-Arms}
use Rattle.wf_ast.specs.declared.body.Branch.{Branch, Branch'}
use Rattle.wf_ast.specs.declared.body.Branches.{Branches, Row_of-Branch, end_of-Branch, more_of-Branch, Branches', out-Branches}
use Rattle.wf_ast.specs.declared.body.LoopBody.{LoopBody, LoopBody'}
use Rattle.wf_ast.specs.declared.body.TryBody.{TryBody, TryBody', Held-TryBody-except, None', Some'}
use Rattle.wf_ast.specs.declared.body.Except.{Except, Except'}
use Rattle.wf_ast.specs.declared.program.Param.{Param}
use Rattle.wf_ast.specs.declared.program.Params.{Params}
use Rattle.wf_ast.specs.declared.program.Flow.{Flow}
use Rattle.wf_ast.specs.declared.program.Flows.{Flows}
use Rattle.wf_ast.specs.declared.program.Program.{Program}

-- ## Expressions
abbrev mutual
  pub expr_view : Expr → t.Expr
  expr_view (e.Lit x) = t.Expr.Lit (plain x)
  expr_view (e.Name x) = t.Expr.Name x
  expr_view (e.Neg' p a) = t.Expr.Neg (expr_view a)
  expr_view (e.Not' p a) = t.Expr.Not (expr_view a)
  expr_view (e.And' p a q b) = t.Expr.And (expr_view a) (expr_view b)
  expr_view (e.Or' p a q b) = t.Expr.Or (expr_view a) (expr_view b)
  expr_view (e.Bin' o p a q b) = t.Expr.Bin o (expr_view a) (expr_view b)
  expr_view (e.Key' p a k) = t.Expr.Key (expr_view a) k
  expr_view (e.Index' p a q b) = t.Expr.Index (expr_view a) (expr_view b)
  expr_view (e.Call' f shape all) = t.Expr.Call f (expr_row all)

  pub expr_row : {m : _} → Row_of-Expr m → t.Exprs
  expr_row end_of-Expr = t.no_exprs
  expr_row (more_of-Expr e rest) = t.expr (expr_view e) (expr_row rest)

-- the expressions of a list, and what they are
abbrev pub expr_list : Exprs → List Expr
expr_list es = es.items.items

abbrev pub exprs_view : Exprs → List t.Expr
exprs_view es = map expr_view (expr_list es)

-- ## Templates
-- a part of a joined text
abbrev pub part_view : Part → t.Part
part_view (part.Text x) = t.Said x
part_view (part.Expr e) = t.Hole (expr_view e)

-- the parts of a list, and what they are
abbrev pub part_list : Parts → List Part
part_list ps = ps.items.items

abbrev pub parts_view : Parts → List t.Part
parts_view ps = map part_view (part_list ps)

abbrev mutual
  pub template_view : Template → t.Template
  template_view (template.Lit x) = t.Scalar (plain x)
  template_view (template.Expr e) = t.Whole (expr_view e.value)
  template_view (template.Join ps) = t.Joined (parts_view ps)
  template_view (template.List' shape all) = t.Listed (template_row all)
  template_view (template.Literals ds) = t.Listed (t.templates (map t.Scalar ds))
  template_view (template.Map ns) = t.Mapped (fields_in ns)

  pub fields_in : NamedTemplates → t.Fields
  fields_in (NamedTemplates' shape all) = field_row all

  pub template_row : {m : _} → Row_of-Template m → t.Templates
  template_row end_of-Template = t.no_templates
  template_row (more_of-Template x rest) = t.template (template_view x) (template_row rest)

  pub field_row : {m : _} → Row_of-NamedTemplate m → t.Fields
  field_row end_of-NamedTemplate = t.no_fields
  field_row (more_of-NamedTemplate n x rest) = t.field n (template_view x) (field_row rest)

-- the templates of a list, and what they are
abbrev pub template_list : Templates → List Template
template_list ts = ts.items.items

abbrev pub templates_view : Templates → List t.Template
templates_view ts = map template_view (template_list ts)

-- a key and its template
abbrev pub field_view : NamedTemplate → Text × t.Template
field_view n = (n.name, template_view n.template)

-- the named templates of a list, and what they are
abbrev pub field_list : NamedTemplates → List NamedTemplate
field_list ns = (out-NamedTemplates ns).items.items

abbrev pub fields_view : NamedTemplates → List (Text × t.Template)
fields_view ns = map field_view (field_list ns)

-- ## Parts of steps
-- the texts of a list
abbrev pub texts_view : Texts → List Text
texts_view xs = xs.items.items

-- a target
abbrev pub target_view : Target → t.Target
target_view x = record { name = x.name; places = t.exprs (exprs_view x.places); written = x.text }

-- an entry
abbrev pub entry_view : Entry → t.Entry
entry_view e = record { target = target_view e.target; value = template_view e.value }

-- the entries of a list, and what they are
abbrev pub entry_list : Entries → List Entry
entry_list es = es.items.items

abbrev pub entries_view : Entries → List t.Entry
entries_view es = map entry_view (entry_list es)

-- a call
abbrev pub call_view : CallBody → t.CallBody
call_view f = record { name = f.name; args = t.fields (fields_view f.args); result = f.result }

-- what a loop runs over
abbrev pub over_view : Over → t.Over
over_view (over.List x) = t.InList (template_view x)
over_view (over.Range x y) = t.InRange (template_view x) (template_view y)

-- which errors are tried again
abbrev pub predicate_view : Predicate → t.Predicate
predicate_view predicate.Always = t.Always
predicate_view predicate.Never = t.Never
predicate_view (predicate.Default d) = t.Predefined d
predicate_view (predicate.Flow f) = t.FlowNamed f

-- a policy
abbrev pub policy_view : Policy → t.Policy
policy_view p = record { predicate = predicate_view p.predicate; max_retries = p.max_retries; backoff = p.backoff }

-- a policy that may be absent
abbrev pub policy_option_view : Option Policy → Option t.Policy
policy_option_view None = None
policy_option_view (Some p) = Some (policy_view p)

-- ## Steps
abbrev mutual
  pub body_view : Body → t.Body
  body_view body.Nothing = t.Body.Nothing
  body_view (body.Assign es) = t.Body.Assign (entries_view es)
  body_view (body.Call f) = t.Body.Call (call_view f)
  body_view (body.Switch xs) = t.Body.Switch (arms_in xs)
  body_view (body.For l) = t.Body.For (loop_view l)
  body_view (body.Parallel' shared limit w) = t.Body.Parallel (t.parallel (texts_view shared) limit (work_view w))
  body_view (body.Block ss) = t.Body.Block (steps_in ss)
  body_view (body.Try x) = t.Body.Try (try_view x)
  body_view (body.Raise x) = t.Body.Raise (template_view x)
  body_view (body.Return x) = t.Body.Return (template_view x)

  pub work_view : Work → t.Work
  work_view (work.Branches bs) = t.OfBranches (branches_in bs)
  work_view (work.Loop l) = t.OfLoop (loop_view l)

  pub loop_view : LoopBody → t.LoopBody
  loop_view (LoopBody' value index over ss) = t.loop value index (over_view over) (steps_in ss)

  pub try_view : TryBody → t.TryBody
  try_view (TryBody' p x policy held) = t.try (body_view x) (policy_option_view policy) (held_view held)

  pub held_view : Held-TryBody-except → t.Except
  held_view None' = t.no_except
  held_view (Some' x) = except_view x

  pub except_view : Except → t.Except
  except_view (Except' name ss) = t.except name (steps_in ss)

  pub steps_in : StepList → t.Steps
  steps_in (StepList' shape all) = step_row all

  pub arms_in : Arms → t.Arms
  arms_in (Arms' shape all) = arm_row all

  pub branches_in : Branches → t.Branches
  branches_in (Branches' shape all) = branch_row all

  pub step_row : {m : _} → Row_of-Step m → t.Steps
  step_row end_of-Step = t.no_steps
  step_row (more_of-Step name b next rest) = t.more (t.step name (body_view b) next) (step_row rest)

  pub arm_row : {m : _} → Row_of-Arm m → t.Arms
  arm_row end_of-Arm = t.no_arms
  arm_row (more_of-Arm condition b next rest) = t.arm (template_view condition) (body_view b) next (arm_row rest)

  pub branch_row : {m : _} → Row_of-Branch m → t.Branches
  branch_row end_of-Branch = t.no_branches
  branch_row (more_of-Branch (Branch' name ss) rest) = t.branch name (steps_in ss) (branch_row rest)

-- the steps that take an error, where there are any
abbrev pub except_option_view : Option Except → t.Except
except_option_view None = t.no_except
except_option_view (Some x) = except_view x

-- a step, the steps of a list, and what they are
abbrev pub step_view : Step → t.Step
step_view s = t.step s.name (body_view s.body) s.next

-- the steps of a list, and what they are
abbrev pub step_list : StepList → List Step
step_list ss = (out-StepList ss).items.items

abbrev pub steps_view : StepList → List t.Step
steps_view ss = map step_view (step_list ss)

-- an arm stands in the tree as its parts
abbrev pub arm_view : Arm → t.Template × t.Body × Option Text
arm_view a = (template_view a.condition, body_view a.body, a.next)

-- the arms of a list, and what they are
abbrev pub arm_list : Arms → List Arm
arm_list xs = (out-Arms xs).items.items

abbrev pub arms_view : Arms → List (t.Template × t.Body × Option Text)
arms_view xs = map arm_view (arm_list xs)

-- a branch stands in the tree as its parts
abbrev pub branch_view : Branch → Text × t.Steps
branch_view (Branch' name ss) = (name, steps_in ss)

-- the branches of a list, and what they are
abbrev pub branch_list : Branches → List Branch
branch_list bs = (out-Branches bs).items.items

abbrev pub branches_view : Branches → List (Text × t.Steps)
branches_view bs = map branch_view (branch_list bs)

-- ## Programs
-- a default that may be absent
abbrev pub default_view : Option Value → Option Data
default_view None = None
default_view (Some x) = Some (plain x)

-- a parameter
abbrev pub param_view : Param → t.Param
param_view p = record { name = p.name; default = default_view p.default }

-- the parameters of a list, and what they are
abbrev pub param_list : Params → List Param
param_list ps = ps.items.items

abbrev pub params_view : Params → List t.Param
params_view ps = map param_view (param_list ps)

-- a workflow
abbrev pub flow_view : Flow → t.Flow
flow_view f = record { name = f.name; params = params_view f.params; steps = t.steps (steps_view f.steps) }

-- the workflows of a list, and what they are
abbrev pub flow_list : Flows → List Flow
flow_list fs = fs.items.items

abbrev pub flows_view : Flows → List t.Flow
flows_view fs = map flow_view (flow_list fs)

-- a program
abbrev pub program_view : Program → t.Program
program_view p = record { flows = flows_view p.flows }
