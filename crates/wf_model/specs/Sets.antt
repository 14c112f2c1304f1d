-- The trees of programs are sets: an equation between two of them has at most one proof.
-- Each family of types that hold one another has one copy, as `deriving` takes one type at a time, and is a retract of it.
use mathlib.Core.HLevel.{collapsible→set}
use mathlib.Core.List.{is_set}
use native.Mathlib.Nat.{ℕ_set}
use Rattle.std.specs.Prelude.{◌≡◌, ℕ, List, Option, Some, None}
use Rattle.std.proofs.Common.{refl, sym, ap, ◌∙◌}
use Rattle.std.specs.Coded.{Coded-set, codes}
use Rattle.wf_ast.specs.Tree as t
use Rattle.wf_ast.specs.declared.expr.Func.{Func}
use Rattle.wf_ast.specs.declared.expr.Op.{Op}
use Rattle.wf_model.specs.Spots.{Part, FlowAt, BodyAt, ArmAt, EntryAt, BranchAt, NoPart}
use Rattle.wf_value.specs.Code.{coded_data}
use Rattle.wf_value.specs.Data.{Data, null}
use Rattle.wf_value.specs.Pairs.{Text}
use Rattle.wf_value.specs.declared.Backoff.{Backoff}
use Rattle.wf_value.specs.declared.DefaultKind.{DefaultKind}

-- what maps into a set and back is a set
retract : {A B : Type 0} (to : A → B) (back : B → A) → ((a : A) → back (to a) ≡ a) → IsSet B → IsSet A
retract to back h set =
    collapsible→set (λ x y p. sym (h x) ∙ ap back (ap to p) ∙ h y) (λ x y p q. ap (λ (r : to x ≡ to y). sym (h x) ∙ ap back r ∙ h y) (set (to x) (to y) (ap to p) (ap to q)))

Data-set : IsSet Data
Data-set = Coded-set coded_data

Text-set : IsSet Text
Text-set = is_set ℕ_set

-- ## Options
data Maybe (A : Type 0) : Type 0 where
  no : Maybe A
  yes : A → Maybe A
  deriving IsSet as Maybe_set

abbrev to_maybe : {A : Type 0} → Option A → Maybe A
to_maybe None = no
to_maybe (Some x) = yes x

abbrev of_maybe : {A : Type 0} → Maybe A → Option A
of_maybe no = None
of_maybe (yes x) = Some x

maybe : {A : Type 0} (o : Option A) → of_maybe (to_maybe o) ≡ o
maybe None = refl
maybe (Some x) = refl

pub Option-set : {A : Type 0} → IsSet A → IsSet (Option A)
Option-set h = retract to_maybe of_maybe maybe (Maybe_set h)

-- ## Expressions
data Expr : Type 0 where
  lit : Data → Expr
  name : Text → Expr
  neg : Expr → Expr
  not : Expr → Expr
  and : Expr → Expr → Expr
  or : Expr → Expr → Expr
  bin : Op → Expr → Expr → Expr
  key : Expr → Text → Expr
  index : Expr → Expr → Expr
  call : Func → Expr → Expr
  no_exprs : Expr
  expr : Expr → Expr → Expr
  deriving IsSet as Expr_set

abbrev mutual
  to_expr : t.Expr → Expr
  to_expr (t.Expr.Lit v) = lit v
  to_expr (t.Expr.Name x) = name x
  to_expr (t.Expr.Neg a) = neg (to_expr a)
  to_expr (t.Expr.Not a) = not (to_expr a)
  to_expr (t.Expr.And a b) = and (to_expr a) (to_expr b)
  to_expr (t.Expr.Or a b) = or (to_expr a) (to_expr b)
  to_expr (t.Expr.Bin o a b) = bin o (to_expr a) (to_expr b)
  to_expr (t.Expr.Key a k) = key (to_expr a) k
  to_expr (t.Expr.Index a b) = index (to_expr a) (to_expr b)
  to_expr (t.Expr.Call f es) = call f (to_exprs es)

  to_exprs : t.Exprs → Expr
  to_exprs t.no_exprs = no_exprs
  to_exprs (t.expr e es) = expr (to_expr e) (to_exprs es)

-- the expression and the expressions that it is a copy of
abbrev of_expr : Expr → t.Expr × t.Exprs
of_expr (lit v) = (t.Expr.Lit v, t.no_exprs)
of_expr (name x) = (t.Expr.Name x, t.no_exprs)
of_expr (neg a) = (t.Expr.Neg (of_expr a).0, t.no_exprs)
of_expr (not a) = (t.Expr.Not (of_expr a).0, t.no_exprs)
of_expr (and a b) = (t.Expr.And (of_expr a).0 (of_expr b).0, t.no_exprs)
of_expr (or a b) = (t.Expr.Or (of_expr a).0 (of_expr b).0, t.no_exprs)
of_expr (bin o a b) = (t.Expr.Bin o (of_expr a).0 (of_expr b).0, t.no_exprs)
of_expr (key a k) = (t.Expr.Key (of_expr a).0 k, t.no_exprs)
of_expr (index a b) = (t.Expr.Index (of_expr a).0 (of_expr b).0, t.no_exprs)
of_expr (call f es) = (t.Expr.Call f (of_expr es).1, t.no_exprs)
of_expr no_exprs = (t.Expr.Lit null, t.no_exprs)
of_expr (expr e es) = (t.Expr.Lit null, t.expr (of_expr e).0 (of_expr es).1)

abbrev mutual
  expr_back : (e : t.Expr) → (of_expr (to_expr e)).0 ≡ e
  expr_back (t.Expr.Lit v) = refl
  expr_back (t.Expr.Name x) = refl
  expr_back (t.Expr.Neg a) = λ i. t.Expr.Neg (expr_back a i)
  expr_back (t.Expr.Not a) = λ i. t.Expr.Not (expr_back a i)
  expr_back (t.Expr.And a b) = λ i. t.Expr.And (expr_back a i) (expr_back b i)
  expr_back (t.Expr.Or a b) = λ i. t.Expr.Or (expr_back a i) (expr_back b i)
  expr_back (t.Expr.Bin o a b) = λ i. t.Expr.Bin o (expr_back a i) (expr_back b i)
  expr_back (t.Expr.Key a k) = λ i. t.Expr.Key (expr_back a i) k
  expr_back (t.Expr.Index a b) = λ i. t.Expr.Index (expr_back a i) (expr_back b i)
  expr_back (t.Expr.Call f es) = λ i. t.Expr.Call f (exprs_back es i)

  exprs_back : (es : t.Exprs) → (of_expr (to_exprs es)).1 ≡ es
  exprs_back t.no_exprs = refl
  exprs_back (t.expr e es) = λ i. t.expr (expr_back e i) (exprs_back es i)

Op-set : IsSet Op
Op-set = Coded-set (hlevel codes)

Func-set : IsSet Func
Func-set = Coded-set (hlevel codes)

trees-set : IsSet Expr
trees-set = Expr_set Data-set Text-set Op-set Func-set

Expr-set : IsSet t.Expr
Expr-set = retract to_expr (λ e. (of_expr e).0) expr_back trees-set

Exprs-set : IsSet t.Exprs
Exprs-set = retract to_exprs (λ e. (of_expr e).1) exprs_back trees-set

-- ## Templates
data Piece : Type 0 where
  said : Text → Piece
  hole : t.Expr → Piece
  deriving IsSet as Piece_set

abbrev to_piece : t.Part → Piece
to_piece (t.Said x) = said x
to_piece (t.Hole e) = hole e

abbrev of_piece : Piece → t.Part
of_piece (said x) = t.Said x
of_piece (hole e) = t.Hole e

piece_back : (p : t.Part) → of_piece (to_piece p) ≡ p
piece_back (t.Said x) = refl
piece_back (t.Hole e) = refl

TextPart-set : IsSet t.Part
TextPart-set = retract to_piece of_piece piece_back (Piece_set Text-set Expr-set)

data Template : Type 0 where
  scalar : Data → Template
  whole : t.Expr → Template
  joined : List t.Part → Template
  listed : Template → Template
  mapped : Template → Template
  ended : Template
  template : Template → Template → Template
  field : Text → Template → Template → Template
  deriving IsSet as Template_set

abbrev mutual
  to_template : t.Template → Template
  to_template (t.Scalar v) = scalar v
  to_template (t.Whole e) = whole e
  to_template (t.Joined ps) = joined ps
  to_template (t.Listed xs) = listed (to_templates xs)
  to_template (t.Mapped fs) = mapped (to_fields fs)

  to_templates : t.Templates → Template
  to_templates t.no_templates = ended
  to_templates (t.template x xs) = template (to_template x) (to_templates xs)

  to_fields : t.Fields → Template
  to_fields t.no_fields = ended
  to_fields (t.field k x fs) = field k (to_template x) (to_fields fs)

abbrev of_template : Template → t.Template × t.Templates × t.Fields
of_template (scalar v) = (t.Scalar v, t.no_templates, t.no_fields)
of_template (whole e) = (t.Whole e, t.no_templates, t.no_fields)
of_template (joined ps) = (t.Joined ps, t.no_templates, t.no_fields)
of_template (listed xs) = (t.Listed (of_template xs).1, t.no_templates, t.no_fields)
of_template (mapped fs) = (t.Mapped (of_template fs).2, t.no_templates, t.no_fields)
of_template ended = (t.Scalar null, t.no_templates, t.no_fields)
of_template (template x xs) = (t.Scalar null, t.template (of_template x).0 (of_template xs).1, t.no_fields)
of_template (field k x fs) = (t.Scalar null, t.no_templates, t.field k (of_template x).0 (of_template fs).2)

abbrev mutual
  template_back : (x : t.Template) → (of_template (to_template x)).0 ≡ x
  template_back (t.Scalar v) = refl
  template_back (t.Whole e) = refl
  template_back (t.Joined ps) = refl
  template_back (t.Listed xs) = λ i. t.Listed (templates_back xs i)
  template_back (t.Mapped fs) = λ i. t.Mapped (fields_back fs i)

  templates_back : (xs : t.Templates) → (of_template (to_templates xs)).1 ≡ xs
  templates_back t.no_templates = refl
  templates_back (t.template x xs) = λ i. t.template (template_back x i) (templates_back xs i)

  fields_back : (fs : t.Fields) → (of_template (to_fields fs)).2 ≡ fs
  fields_back t.no_fields = refl
  fields_back (t.field k x fs) = λ i. t.field k (template_back x i) (fields_back fs i)

template_trees-set : IsSet Template
template_trees-set = Template_set Data-set Expr-set (is_set TextPart-set) Text-set

Template-set : IsSet t.Template
Template-set = retract to_template (λ x. (of_template x).0) template_back template_trees-set

Fields-set : IsSet t.Fields
Fields-set = retract to_fields (λ x. (of_template x).2) fields_back template_trees-set

-- ## What steps hold besides steps
Entry-set : IsSet t.Entry
Entry-set = hlevel (Text-set, Exprs-set, Template-set)

CallBody-set : IsSet t.CallBody
CallBody-set = hlevel (Text-set, Fields-set, Option-set)

Param-set : IsSet t.Param
Param-set = hlevel (Text-set, Data-set, Option-set)

data Over : Type 0 where
  in_list : t.Template → Over
  in_range : t.Template → t.Template → Over
  deriving IsSet as Over_set

abbrev to_over : t.Over → Over
to_over (t.InList x) = in_list x
to_over (t.InRange x y) = in_range x y

abbrev of_over : Over → t.Over
of_over (in_list x) = t.InList x
of_over (in_range x y) = t.InRange x y

over_back : (o : t.Over) → of_over (to_over o) ≡ o
over_back (t.InList x) = refl
over_back (t.InRange x y) = refl

Over-set : IsSet t.Over
Over-set = retract to_over of_over over_back (Over_set Template-set)

data Predicate : Type 0 where
  always : Predicate
  never : Predicate
  predefined : DefaultKind → Predicate
  flow_named : Text → Predicate
  deriving IsSet as Predicate_set

abbrev to_predicate : t.Predicate → Predicate
to_predicate t.Always = always
to_predicate t.Never = never
to_predicate (t.Predefined k) = predefined k
to_predicate (t.FlowNamed x) = flow_named x

abbrev of_predicate : Predicate → t.Predicate
of_predicate always = t.Always
of_predicate never = t.Never
of_predicate (predefined k) = t.Predefined k
of_predicate (flow_named x) = t.FlowNamed x

predicate_back : (p : t.Predicate) → of_predicate (to_predicate p) ≡ p
predicate_back t.Always = refl
predicate_back t.Never = refl
predicate_back (t.Predefined k) = refl
predicate_back (t.FlowNamed x) = refl

DefaultKind-set : IsSet DefaultKind
DefaultKind-set = Coded-set (hlevel codes)

Backoff-set : IsSet Backoff
Backoff-set = Coded-set (hlevel codes)

Predicate-set : IsSet t.Predicate
Predicate-set = retract to_predicate of_predicate predicate_back (Predicate_set DefaultKind-set Text-set)

Policy-set : IsSet t.Policy
Policy-set = hlevel (Predicate-set, ℕ_set, Backoff-set)

-- ## Steps
-- a copy of what has but one form stands where it is held
data Step : Type 0 where
  nothing : Step
  assign : List t.Entry → Step
  called : t.CallBody → Step
  switch : Step → Step
  repeat : Text → Option Text → t.Over → Step → Step
  parallel : List Text → Option ℕ → Step → Step
  repeat_parallel : List Text → Option ℕ → Text → Option Text → t.Over → Step → Step
  block : Step → Step
  try : Step → Option t.Policy → Step → Step
  raise : t.Template → Step
  return : t.Template → Step
  stop : Step
  more : Text → Step → Option Text → Step → Step
  arm : t.Template → Step → Option Text → Step → Step
  branch : Text → Step → Step → Step
  except : Text → Step → Step
  deriving IsSet as Step_set

abbrev mutual
  to_body : t.Body → Step
  to_body t.Body.Nothing = nothing
  to_body (t.Body.Assign es) = assign es
  to_body (t.Body.Call f) = called f
  to_body (t.Body.Switch xs) = switch (to_arms xs)
  to_body (t.Body.For l) = to_loop l
  to_body (t.Body.Parallel p) = to_parallel p
  to_body (t.Body.Block ss) = block (to_steps ss)
  to_body (t.Body.Try x) = to_try x
  to_body (t.Body.Raise x) = raise x
  to_body (t.Body.Return x) = return x

  to_loop : t.LoopBody → Step
  to_loop (t.loop x i o ss) = repeat x i o (to_steps ss)

  to_parallel : t.ParallelBody → Step
  to_parallel (t.parallel shared limit w) = to_work shared limit w

  to_work : List Text → Option ℕ → t.Work → Step
  to_work shared limit (t.OfBranches bs) = parallel shared limit (to_branches bs)
  to_work shared limit (t.OfLoop l) = to_parallel_loop shared limit l

  to_parallel_loop : List Text → Option ℕ → t.LoopBody → Step
  to_parallel_loop shared limit (t.loop x i o ss) = repeat_parallel shared limit x i o (to_steps ss)

  to_try : t.TryBody → Step
  to_try (t.try body policy x) = try (to_body body) policy (to_except x)

  to_steps : t.Steps → Step
  to_steps t.no_steps = stop
  to_steps (t.more s ss) = to_more s (to_steps ss)

  to_more : t.Step → Step → Step
  to_more (t.step x body next) rest = more x (to_body body) next rest

  to_arms : t.Arms → Step
  to_arms t.no_arms = stop
  to_arms (t.arm x body next rest) = arm x (to_body body) next (to_arms rest)

  to_branches : t.Branches → Step
  to_branches t.no_branches = stop
  to_branches (t.branch x ss bs) = branch x (to_steps ss) (to_branches bs)

  to_except : t.Except → Step
  to_except t.no_except = stop
  to_except (t.except x ss) = except x (to_steps ss)

-- what it may be a copy of
record Copied : Type 0 where
  body : t.Body
  steps : t.Steps
  arms : t.Arms
  branches : t.Branches
  except : t.Except

abbrev none : Copied
none = record { body = t.Body.Nothing; steps = t.no_steps; arms = t.no_arms; branches = t.no_branches; except = t.no_except }

abbrev a_body : t.Body → Copied
a_body b = record none { body = b }

abbrev of_step : Step → Copied
of_step nothing = none
of_step (assign es) = a_body (t.Body.Assign es)
of_step (called f) = a_body (t.Body.Call f)
of_step (switch xs) = a_body (t.Body.Switch (of_step xs).arms)
of_step (repeat x i o ss) = a_body (t.Body.For (t.loop x i o (of_step ss).steps))
of_step (parallel shared limit bs) = a_body (t.Body.Parallel (t.parallel shared limit (t.OfBranches (of_step bs).branches)))
of_step (repeat_parallel shared limit x i o ss) = a_body (t.Body.Parallel (t.parallel shared limit (t.OfLoop (t.loop x i o (of_step ss).steps))))
of_step (block ss) = a_body (t.Body.Block (of_step ss).steps)
of_step (try body policy x) = a_body (t.Body.Try (t.try (of_step body).body policy (of_step x).except))
of_step (raise x) = a_body (t.Body.Raise x)
of_step (return x) = a_body (t.Body.Return x)
of_step stop = none
of_step (more x body next rest) = record none { steps = t.more (t.step x (of_step body).body next) (of_step rest).steps }
of_step (arm x body next rest) = record none { arms = t.arm x (of_step body).body next (of_step rest).arms }
of_step (branch x ss rest) = record none { branches = t.branch x (of_step ss).steps (of_step rest).branches }
of_step (except x ss) = record none { except = t.except x (of_step ss).steps }

abbrev mutual
  body_back : (b : t.Body) → (of_step (to_body b)).body ≡ b
  body_back t.Body.Nothing = refl
  body_back (t.Body.Assign es) = refl
  body_back (t.Body.Call f) = refl
  body_back (t.Body.Switch xs) = λ i. t.Body.Switch (arms_back xs i)
  body_back (t.Body.For (t.loop x k o ss)) = λ i. t.Body.For (t.loop x k o (steps_back ss i))
  body_back (t.Body.Parallel (t.parallel shared limit (t.OfBranches bs))) = λ i. t.Body.Parallel (t.parallel shared limit (t.OfBranches (branches_back bs i)))
  body_back (t.Body.Parallel (t.parallel shared limit (t.OfLoop (t.loop x k o ss)))) = λ i. t.Body.Parallel (t.parallel shared limit (t.OfLoop (t.loop x k o (steps_back ss i))))
  body_back (t.Body.Block ss) = λ i. t.Body.Block (steps_back ss i)
  body_back (t.Body.Try (t.try body policy x)) = λ i. t.Body.Try (t.try (body_back body i) policy (except_back x i))
  body_back (t.Body.Raise x) = refl
  body_back (t.Body.Return x) = refl

  steps_back : (ss : t.Steps) → (of_step (to_steps ss)).steps ≡ ss
  steps_back t.no_steps = refl
  steps_back (t.more (t.step x body next) ss) = λ i. t.more (t.step x (body_back body i) next) (steps_back ss i)

  arms_back : (xs : t.Arms) → (of_step (to_arms xs)).arms ≡ xs
  arms_back t.no_arms = refl
  arms_back (t.arm x body next rest) = λ i. t.arm x (body_back body i) next (arms_back rest i)

  branches_back : (bs : t.Branches) → (of_step (to_branches bs)).branches ≡ bs
  branches_back t.no_branches = refl
  branches_back (t.branch x ss bs) = λ i. t.branch x (steps_back ss i) (branches_back bs i)

  except_back : (x : t.Except) → (of_step (to_except x)).except ≡ x
  except_back t.no_except = refl
  except_back (t.except x ss) = λ i. t.except x (steps_back ss i)

step_trees-set : IsSet Step
step_trees-set = Step_set (is_set Entry-set) CallBody-set Text-set (Option-set Text-set) Over-set (is_set Text-set) (Option-set ℕ_set) (Option-set Policy-set) Template-set

Body-set : IsSet t.Body
Body-set = retract to_body (λ x. (of_step x).body) body_back step_trees-set

pub Steps-set : IsSet t.Steps
Steps-set = retract to_steps (λ x. (of_step x).steps) steps_back step_trees-set

Flow-set : IsSet t.Flow
Flow-set = hlevel (Text-set, is_set, Param-set, Steps-set)

-- ## Parts
data At : Type 0 where
  flow_at : t.Flow → At
  body_at : Text → t.Body → Option Text → At
  arm_at : t.Template → At
  entry_at : t.Entry → At
  branch_at : Text → t.Steps → At
  nowhere : At
  deriving IsSet as At_set

abbrev to_at : Part → At
to_at (FlowAt f) = flow_at f
to_at (BodyAt x body next) = body_at x body next
to_at (ArmAt x) = arm_at x
to_at (EntryAt e) = entry_at e
to_at (BranchAt x ss) = branch_at x ss
to_at NoPart = nowhere

abbrev of_at : At → Part
of_at (flow_at f) = FlowAt f
of_at (body_at x body next) = BodyAt x body next
of_at (arm_at x) = ArmAt x
of_at (entry_at e) = EntryAt e
of_at (branch_at x ss) = BranchAt x ss
of_at nowhere = NoPart

at_back : (p : Part) → of_at (to_at p) ≡ p
at_back (FlowAt f) = refl
at_back (BodyAt x body next) = refl
at_back (ArmAt x) = refl
at_back (EntryAt e) = refl
at_back (BranchAt x ss) = refl
at_back NoPart = refl

pub Part-set : IsSet Part
Part-set = retract to_at of_at at_back (At_set Flow-set Text-set Body-set (Option-set Text-set) Template-set Entry-set Steps-set)
