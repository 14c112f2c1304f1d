-- Which event a task's next step wants: one with a reading, one that makes a request, or neither. It is told by the text of what the
-- step's move carries out: one that names `sys.now` anywhere in it wants a reading, whether or not the evaluation comes there.
--     next_kind      by a task's control
--     body_kind      by a step's body
use Rattle.wf_ast.specs.declared.Func.TheVariants as func
use Rattle.std.specs.Prelude.{Bool, true, false, ◌||◌, List, [], ◌∷◌, Some, None, Option}
use Rattle.wf_ast.specs.Flows.{flow}
use Rattle.wf_ast.specs.declared.Func.{Func}
use Rattle.wf_ast.specs.Func.{Special, SysLog, SysSleep, SysSleepUntil, HttpCall, CreateEndpoint, AwaitCallback, Listing, SpecialListing, func_named, special_named}
use Rattle.wf_ast.specs.Tree.{Expr, Exprs, no_exprs, expr, Part, Said, Hole, Template, Scalar, Whole, Joined, Listed, Mapped, Templates, no_templates, template, Fields, no_fields, field, Entry, Over, InList, InRange, step, more, Body, Arms, no_arms, arm, loop, parallel, OfBranches, OfLoop, Flow, Program}
use Rattle.wf_model.specs.Config.{Item, Do, Entries}
use Rattle.wf_value.specs.Pairs.{Text}

-- a move, a move with a reading, or an issue
pub data NextKind : Type 0 where
  Plainly : NextKind
  ByClock : NextKind
  ByCall : NextKind

-- ## What names `sys.now`
abbrev pub is_now : Func → Bool
is_now func.SysNow = true
is_now f = false

abbrev mutual
  pub expr_now : Expr → Bool
  expr_now (Expr.Lit v) = false
  expr_now (Expr.Name x) = false
  expr_now (Expr.Neg a) = expr_now a
  expr_now (Expr.Not a) = expr_now a
  expr_now (Expr.And a b) = expr_now a || expr_now b
  expr_now (Expr.Or a b) = expr_now a || expr_now b
  expr_now (Expr.Bin o a b) = expr_now a || expr_now b
  expr_now (Expr.Key a k) = expr_now a
  expr_now (Expr.Index a b) = expr_now a || expr_now b
  expr_now (Expr.Call f es) = is_now f || exprs_now es

  pub exprs_now : Exprs → Bool
  exprs_now no_exprs = false
  exprs_now (expr e es) = expr_now e || exprs_now es

abbrev pub parts_now : List Part → Bool
parts_now [] = false
parts_now (Said t ∷ ps) = parts_now ps
parts_now (Hole e ∷ ps) = expr_now e || parts_now ps

abbrev mutual
  pub template_now : Template → Bool
  template_now (Scalar v) = false
  template_now (Whole e) = expr_now e
  template_now (Joined ps) = parts_now ps
  template_now (Listed ts) = templates_now ts
  template_now (Mapped fs) = fields_now fs

  pub templates_now : Templates → Bool
  templates_now no_templates = false
  templates_now (template t ts) = template_now t || templates_now ts

  pub fields_now : Fields → Bool
  fields_now no_fields = false
  fields_now (field k t fs) = template_now t || fields_now fs

-- with a reading, or without
abbrev pub by_clock : Bool → NextKind
by_clock true = ByClock
by_clock false = Plainly

-- the places of the target count too
abbrev pub entry_now : Entry → Bool
entry_now e = template_now e.value || exprs_now e.target.places

-- the conditions of all arms, and no body
abbrev pub arms_now : Arms → Bool
arms_now no_arms = false
arms_now (arm t body next rest) = template_now t || arms_now rest

abbrev pub over_now : Over → Bool
over_now (InList t) = template_now t
over_now (InRange t u) = template_now t || template_now u

-- ## Calls; `clock` says whether an argument names `sys.now`
-- sleeps and awaits take a reading, and calls of HTTP are issued
abbrev pub special_kind : Special → Bool → NextKind
special_kind SysLog clock = by_clock clock
special_kind SysSleep clock = ByClock
special_kind SysSleepUntil clock = ByClock
special_kind (HttpCall m) clock = ByCall
special_kind CreateEndpoint clock = by_clock clock
special_kind AwaitCallback clock = ByClock

abbrev pub listed_kind : Option Listing → Option SpecialListing → Bool → NextKind
listed_kind (Some e) g clock = by_clock (is_now e.func || clock)
listed_kind None (Some g) clock = special_kind g.special clock
listed_kind None None clock = by_clock clock

-- a name that is both is the workflow's
abbrev pub call_kind : Option Flow → Text → Bool → NextKind
call_kind (Some w) x clock = by_clock clock
call_kind None x clock = listed_kind (func_named x) (special_named x) clock

-- ## Steps
-- what counts is what the step's move may evaluate: of an assign its first entry, and of a loop what it goes over
abbrev pub body_kind : Program → Body → NextKind
body_kind p Body.Nothing = Plainly
body_kind p (Body.Assign []) = Plainly
body_kind p (Body.Assign (e ∷ es)) = by_clock (entry_now e)
body_kind p (Body.Call f) = call_kind (flow p.flows f.name) f.name (fields_now f.args)
body_kind p (Body.Switch arms) = by_clock (arms_now arms)
body_kind p (Body.For (loop x i o ss)) = by_clock (over_now o)
body_kind p (Body.Parallel (parallel names limit (OfBranches bs))) = Plainly
body_kind p (Body.Parallel (parallel names limit (OfLoop (loop x i o ss)))) = by_clock (over_now o)
body_kind p (Body.Block ss) = Plainly
body_kind p (Body.Try t) = Plainly
body_kind p (Body.Raise e) = by_clock (template_now e)
body_kind p (Body.Return e) = by_clock (template_now e)

-- a step, an entry of an assign, or another item, which a move without a reading ends
abbrev pub next_kind : Program → List Item → NextKind
next_kind p (Do block (more (step x body next) left) ∷ k) = body_kind p body
next_kind p (Entries (e ∷ es) ∷ k) = by_clock (entry_now e)
next_kind p k = Plainly
