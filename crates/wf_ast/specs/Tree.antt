-- The syntax tree as plain data: workflows of steps, whose bodies hold templates of expressions.
-- A list that may lead back to what holds it is a type of its own; each other list is a `List`.
use Rattle.std.specs.Prelude.{ℕ, List, [], ◌∷◌, Option}
use Rattle.wf_ast.specs.declared.expr.Func.{Func}
use Rattle.wf_value.specs.Data.{Data}
use Rattle.wf_value.specs.Pairs.{Text}
use Rattle.wf_value.specs.declared.DefaultKind.{DefaultKind}
use Rattle.wf_value.specs.declared.Backoff.{Backoff}
-- ## Expressions and templates
use Rattle.wf_ast.specs.declared.expr.Op.{Op}

mutual
  pub data Expr : Type 0 where
    Lit : Data → Expr
    Name : Text → Expr
    Neg : Expr → Expr
    Not : Expr → Expr
    And : Expr → Expr → Expr
    Or : Expr → Expr → Expr
    Bin : Op → Expr → Expr → Expr
    Key : Expr → Text → Expr
    Index : Expr → Expr → Expr
    Call : Func → Exprs → Expr

  pub data Exprs : Type 0 where
    no_exprs : Exprs
    expr : Expr → Exprs → Exprs

-- a part of a text that is joined from texts and expressions
pub data Part : Type 0 where
  Said : Text → Part
  Hole : Expr → Part

mutual
  pub data Template : Type 0 where
    Scalar : Data → Template
    Whole : Expr → Template
    Joined : List Part → Template
    Listed : Templates → Template
    Mapped : Fields → Template

  pub data Templates : Type 0 where
    no_templates : Templates
    template : Template → Templates → Templates

  -- named templates, in the order of the names
  pub data Fields : Type 0 where
    no_fields : Fields
    field : Text → Template → Fields → Fields

-- ## Steps
-- a variable, and the places below it that are written
pub record Target : Type 0 where
  pub name : Text
  pub places : Exprs
  -- the key as it stands in the source
  pub written : Text

-- one assignment
pub record Entry : Type 0 where
  pub target : Target
  pub value : Template

-- a call, with its arguments in the order of their names
pub record CallBody : Type 0 where
  pub name : Text
  pub args : Fields
  pub result : Option Text

-- what a loop runs over: the items of a list, or the whole numbers of a range with both ends
pub data Over : Type 0 where
  InList : Template → Over
  InRange : Template → Template → Over

-- which errors are tried again
pub data Predicate : Type 0 where
  Always : Predicate
  Never : Predicate
  Predefined : DefaultKind → Predicate
  FlowNamed : Text → Predicate

-- when and how often a failed body is tried again
pub record Policy : Type 0 where
  pub predicate : Predicate
  pub max_retries : ℕ
  pub backoff : Backoff

mutual
  -- a step without a name has the empty one: an arm, or a call under `try`
  pub data Step : Type 0 where
    step : (name : Text) → (body : Body) → (next : Option Text) → Step

  pub data Steps : Type 0 where
    no_steps : Steps
    more : Step → Steps → Steps

  pub data Body : Type 0 where
    Nothing : Body
    Assign : List Entry → Body
    Call : CallBody → Body
    Switch : Arms → Body
    For : LoopBody → Body
    Parallel : ParallelBody → Body
    Block : Steps → Body
    Try : TryBody → Body
    Raise : Template → Body
    Return : Template → Body

  pub data Arms : Type 0 where
    no_arms : Arms
    arm : (condition : Template) → (body : Body) → (next : Option Text) → Arms → Arms

  pub data LoopBody : Type 0 where
    loop : (value : Text) → (index : Option Text) → (over : Over) → (steps : Steps) → LoopBody

  -- with the limit on branches or iterations at once, where it has one
  pub data ParallelBody : Type 0 where
    parallel : (shared : List Text) → (limit : Option ℕ) → (work : Work) → ParallelBody

  pub data Work : Type 0 where
    OfBranches : Branches → Work
    OfLoop : LoopBody → Work

  pub data Branches : Type 0 where
    no_branches : Branches
    branch : (name : Text) → Steps → Branches → Branches

  -- the body is a `Call` or a `Block`
  pub data TryBody : Type 0 where
    try : (body : Body) → (policy : Option Policy) → (except : Except) → TryBody

  pub data Except : Type 0 where
    no_except : Except
    except : (name : Text) → Steps → Except

-- ## Programs
-- a parameter, with its default where it has one
pub record Param : Type 0 where
  pub name : Text
  pub default : Option Data

-- a workflow
pub record Flow : Type 0 where
  pub name : Text
  pub params : List Param
  pub steps : Steps

-- `main` first, then the others by name
pub record Program : Type 0 where
  pub flows : List Flow

-- ## Reading them
-- steps as the tree has them
abbrev pub steps : List Step → Steps
steps [] = no_steps
steps (s ∷ ss) = more s (steps ss)

-- named templates as the tree has them
abbrev pub fields : List (Text × Template) → Fields
fields [] = no_fields
fields (f ∷ fs) = field f.0 f.1 (fields fs)

-- templates as the tree has them
abbrev pub templates : List Template → Templates
templates [] = no_templates
templates (x ∷ xs) = template x (templates xs)

-- arms as the tree has them
abbrev pub arms : List (Template × Body × Option Text) → Arms
arms [] = no_arms
arms (a ∷ rest) = arm a.0 a.1 a.2 (arms rest)

-- branches as the tree has them
abbrev pub branches : List (Text × Steps) → Branches
branches [] = no_branches
branches (b ∷ bs) = branch b.0 b.1 (branches bs)

-- expressions as the tree has them
abbrev pub exprs : List Expr → Exprs
exprs [] = no_exprs
exprs (e ∷ es) = expr e (exprs es)

-- one step without a name
abbrev pub unnamed : Body → Option Text → Steps
unnamed b next = more (step [] b next) no_steps

-- the names of named templates
abbrev pub field_names : Fields → List Text
field_names no_fields = []
field_names (field k t fs) = k ∷ field_names fs
