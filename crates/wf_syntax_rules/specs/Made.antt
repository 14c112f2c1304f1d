-- The program of a source's tree as a function, where the tree has no fault. In a place where a tree is of no kind that may stand there it
-- gives what comes first: such a tree has a fault.
--     program_of     the program of a rooted tree
use Rattle.std.specs.Prelude.{ℕ, zero, suc, List, [], ◌∷◌, Option, Some, None, option_map, codes, if◌then◌else◌, Result, Ok, Err}
use Rattle.wf_ast.specs.Tree as t
use Rattle.wf_ast.specs.Tree.{Template, Scalar, Listed, Mapped, Templates, no_templates, template, Fields, no_fields, field as named}
use Rattle.wf_expr.specs.Parser.{parse_target}
use Rattle.wf_syntax_rules.specs.Meaning.{default_backoff, most_retries, others, policy_kind, predicate_of}
use Rattle.wf_syntax_words.specs.Names.{unmarked}
use Rattle.wf_syntax_words.specs.Numbers.{thousandths, whole_within}
use Rattle.wf_syntax_words.specs.Fields.{field, has}
use Rattle.wf_expr.specs.Templates.{template_of}
use Rattle.wf_tree.specs.Trees.{Tree, null, boolean, integer, text, list, map, Items, no_items, item, Pairs, no_pairs, pair, pairs_depth}
use Rattle.wf_value.specs.Data as values
use Rattle.wf_value.specs.Pairs.{Text}
use Rattle.wf_value.specs.declared.Backoff.{Backoff}

-- ## Kinds of trees
abbrev pub ok_or : {A E : Type 0} → A → Result A E → A
ok_or a (Ok x) = x
ok_or a (Err f) = a

abbrev pub some_or : {A : Type 0} → A → Option A → A
some_or a (Some x) = x
some_or a None = a

abbrev pub text_in : Tree → Text
text_in (text s) = s
text_in x = []

abbrev pub items_in : Tree → Items
items_in (list xs) = xs
items_in x = no_items

abbrev pub pairs_in : Tree → Pairs
pairs_in (map fs) = fs
pairs_in x = no_pairs

abbrev pub each_of : {A : Type 0} → (Tree → A) → Items → List A
each_of f no_items = []
each_of f (item x xs) = f x ∷ each_of f xs

-- the tree at a key that is there
abbrev pub get : Text → Pairs → Tree
get k fs = some_or null (field k fs)

-- the part at a key, or its default
abbrev pub else_of : {A : Type 0} → A → (Tree → A) → Text → Pairs → A
else_of default f k fs = some_or default (option_map f (field k fs))

abbrev pub maybe_of : {A : Type 0} → (Tree → A) → Text → Pairs → Option A
maybe_of f k fs = option_map f (field k fs)

-- ## Values
abbrev mutual
  -- a value with expressions in it
  pub value_of : Tree → Template
  value_of (text s) = ok_or (Scalar values.null) (template_of s)
  value_of (boolean b) = Scalar (values.boolean b)
  value_of (integer n) = Scalar (values.integer n)
  value_of (list xs) = Listed (values_of xs)
  value_of (map ps) = Mapped (named_of ps)
  value_of x = Scalar values.null

  pub values_of : Items → Templates
  values_of no_items = no_templates
  values_of (item x xs) = template (value_of x) (values_of xs)

  pub named_of : Pairs → Fields
  named_of no_pairs = no_fields
  named_of (pair k x ps) = named k (value_of x) (named_of ps)

abbrev mutual
  -- a value without expressions
  pub literal_of : Tree → values.Data
  literal_of (boolean b) = values.boolean b
  literal_of (integer n) = values.integer n
  literal_of (text s) = values.text s
  literal_of (list xs) = values.list (literals_of xs)
  literal_of (map ps) = values.map (named_literals_of ps)
  literal_of x = values.null

  pub literals_of : Items → values.Items
  literals_of no_items = values.no_items
  literals_of (item x xs) = values.item (literal_of x) (literals_of xs)

  pub named_literals_of : Pairs → values.Pairs
  named_literals_of no_pairs = values.no_pairs
  named_literals_of (pair k x ps) = values.pair k (literal_of x) (named_literals_of ps)

-- ## Assignments and calls
abbrev pub no_target : t.Target
no_target = record { name = []; places = t.no_exprs; written = [] }

abbrev pub entry_of : Tree → t.Entry
entry_of (map (pair k x no_pairs)) = record { target = ok_or no_target (parse_target k); value = value_of x }
entry_of x = record { target = no_target; value = Scalar values.null }

abbrev pub entries_of : Tree → List t.Entry
entries_of x = each_of entry_of (items_in x)

abbrev pub arguments_of : Tree → Fields
arguments_of x = named_of (pairs_in x)

abbrev pub call_of : Pairs → t.CallBody
call_of fs =
    record { name = text_in (get (codes "call") fs); args = else_of no_fields arguments_of (codes "args") fs; result = maybe_of text_in (codes "result") fs }

-- ## Policies
abbrev pub thousandths_of : Tree → ℕ
thousandths_of x = some_or 0 (thousandths x)

abbrev pub attempts_of : Tree → ℕ
attempts_of x = some_or 0 (whole_within 0 1000000 x)

abbrev pub backoff_of : Tree → Backoff
backoff_of x =
    record {
      initial = else_of default_backoff.initial thousandths_of (codes "initial_delay") (pairs_in x);
      max = else_of default_backoff.max thousandths_of (codes "max_delay") (pairs_in x);
      multiplier = else_of default_backoff.multiplier thousandths_of (codes "multiplier") (pairs_in x);
    }

abbrev pub predicate_in : Tree → t.Predicate
predicate_in x = predicate_of (unmarked (text_in x))

abbrev pub policy_of : Tree → t.Policy
policy_of (text s) = record { predicate = t.Predefined (policy_kind (unmarked s)); max_retries = most_retries; backoff = default_backoff }
policy_of x =
    record {
      predicate = else_of t.Always predicate_in (codes "predicate") (pairs_in x);
      max_retries = else_of most_retries attempts_of (codes "max_retries") (pairs_in x);
      backoff = else_of default_backoff backoff_of (codes "backoff") (pairs_in x);
    }

-- ## Steps, by what the bodies in them are
abbrev pub step_of : (Pairs → t.Body) → Tree → t.Step
step_of body (map (pair k y no_pairs)) = t.step k (body (pairs_in y)) (maybe_of text_in (codes "next") (pairs_in y))
step_of body x = t.step [] t.Body.Nothing None

abbrev pub steps_in : (Pairs → t.Body) → Items → t.Steps
steps_in body no_items = t.no_steps
steps_in body (item x xs) = t.more (step_of body x) (steps_in body xs)

-- the steps at the key `steps`
abbrev pub steps_at : (Pairs → t.Body) → Pairs → t.Steps
steps_at body fs = steps_in body (items_in (get (codes "steps") fs))

abbrev pub arms_in : (Pairs → t.Body) → Items → t.Arms
arms_in body no_items = t.no_arms
arms_in body (item x xs) = t.arm (value_of (get (codes "condition") (pairs_in x))) (body (pairs_in x)) (maybe_of text_in (codes "next") (pairs_in x)) (arms_in body xs)

-- ## Loops and parallel steps
abbrev pub range_of : Tree → t.Over
range_of (list (item x (item y no_items))) = t.InRange (value_of x) (value_of y)
range_of x = t.InList (Scalar values.null)

abbrev pub over_by : Option Tree → Pairs → t.Over
over_by (Some x) fs = range_of x
over_by None fs = t.InList (value_of (get (codes "in") fs))

abbrev pub loop_of : (Pairs → t.Body) → Pairs → t.LoopBody
loop_of body fs =
    t.loop (text_in (get (codes "value") fs)) (maybe_of text_in (codes "index") fs) (over_by (field (codes "range") fs) fs) (steps_at body fs)

abbrev pub branches_in : (Pairs → t.Body) → Items → t.Branches
branches_in body no_items = t.no_branches
branches_in body (item (map (pair k y no_pairs)) xs) = t.branch k (steps_at body (pairs_in y)) (branches_in body xs)
branches_in body (item x xs) = branches_in body xs

abbrev pub work_by : (Pairs → t.Body) → Option Tree → Pairs → t.Work
work_by body (Some x) fs = t.OfLoop (loop_of body (pairs_in x))
work_by body None fs = t.OfBranches (branches_in body (items_in (get (codes "branches") fs)))

abbrev pub texts_of : Tree → List Text
texts_of x = each_of text_in (items_in x)

abbrev pub limit_of : Tree → ℕ
limit_of x = some_or 0 (whole_within 1 1000 x)

abbrev pub parallel_of : (Pairs → t.Body) → Pairs → t.ParallelBody
parallel_of body fs =
    t.parallel (else_of [] texts_of (codes "shared") fs) (maybe_of limit_of (codes "concurrency_limit") fs) (work_by body (field (codes "for") fs) fs)

-- ## Tries
abbrev pub tried_of : (Pairs → t.Body) → Pairs → t.Body
tried_of body fs = if has (codes "call") fs then t.Body.Call (call_of fs) else t.Body.Block (steps_at body fs)

abbrev pub except_by : (Pairs → t.Body) → Option Tree → t.Except
except_by body None = t.no_except
except_by body (Some x) = t.except (text_in (get (codes "as") (pairs_in x))) (steps_at body (pairs_in x))

abbrev pub try_of : (Pairs → t.Body) → Pairs → t.TryBody
try_of body fs = t.try (tried_of body (pairs_in (get (codes "try") fs))) (maybe_of policy_of (codes "retry") fs) (except_by body (field (codes "except") fs))

-- ## Bodies
abbrev pub if_there : Option Tree → (Tree → t.Body) → t.Body → t.Body
if_there (Some x) f other = f x
if_there None f other = other

-- the form that is there
abbrev pub body_by : (Pairs → t.Body) → Pairs → t.Body
body_by body fs =
    if_there (field (codes "assign") fs) (λ x. t.Body.Assign (entries_of x))
    (if_there (field (codes "call") fs) (λ x. t.Body.Call (call_of fs))
    (if_there (field (codes "for") fs) (λ x. t.Body.For (loop_of body (pairs_in x)))
    (if_there (field (codes "parallel") fs) (λ x. t.Body.Parallel (parallel_of body (pairs_in x)))
    (if_there (field (codes "raise") fs) (λ x. t.Body.Raise (value_of x))
    (if_there (field (codes "return") fs) (λ x. t.Body.Return (value_of x))
    (if_there (field (codes "steps") fs) (λ x. t.Body.Block (steps_in body (items_in x)))
    (if_there (field (codes "switch") fs) (λ x. t.Body.Switch (arms_in body (items_in x)))
    (if_there (field (codes "try") fs) (λ x. t.Body.Try (try_of body fs)) t.Body.Nothing))))))))

-- What a body does. One in another is less deep, so a bound on the depth that is above its own doesn't matter.
unfoldable pub body_within : ℕ → Pairs → t.Body
body_within zero fs = t.Body.Nothing
body_within (suc n) fs = body_by (body_within n) fs

-- ## Workflows
abbrev pub param_of : Tree → t.Param
param_of (map (pair k x no_pairs)) = record { name = k; default = Some (literal_of x) }
param_of x = record { name = text_in x; default = None }

abbrev pub params_of : Tree → List t.Param
params_of x = each_of param_of (items_in x)

abbrev pub flow_of : Text → Tree → t.Flow
flow_of k x =
    record { name = k; params = else_of [] params_of (codes "params") (pairs_in x); steps = steps_at (body_within (pairs_depth (pairs_in x))) (pairs_in x) }

abbrev pub flows_of : Pairs → List t.Flow
flows_of no_pairs = []
flows_of (pair k x ps) = flow_of k x ∷ flows_of ps

-- `main` first, then the others
abbrev pub program_of : Tree → t.Program
program_of x = record { flows = flow_of (codes "main") (get (codes "main") (pairs_in x)) ∷ flows_of (others (pairs_in x)) }
