-- The rules of the syntax, as a table: for each thing that a tree may stand for, the fault of its node alone, and the parts that follow.
--     own       the fault of a node, the first rule that speaks
--     parts     what stands in a node, in the order of the tree
-- The texts of expressions are judged apart (Faults).
use Rattle.std.specs.Prelude.{ℕ, suc, ◌+◌, Bool, not, ◌&&◌, ◌||◌, List, [], ◌∷◌, ◌++◌, Option, Some, None, is_some, codes, bytes_eq, if◌then◌else◌}
use Rattle.wf_value.specs.HttpRequest.{is_among}
use Rattle.wf_syntax_words.specs.Fields.{body_fields, field, has, has_all, has_only, is_empty}
use Rattle.wf_syntax_words.specs.Names.{is_name, is_step_name, unmarked}
use Rattle.wf_syntax_words.specs.Numbers.{thousandths_to, whole_within}
use Rattle.wf_syntax_rules.specs.declared.fault.SyntaxKind.{SyntaxKind}
use Rattle.wf_syntax_rules.specs.declared.fault.SyntaxKind.TheVariants.{NotAStep, UnknownField, MissingField, WrongKind}
use Rattle.wf_expr.specs.Texts.{has_expressions}
use Rattle.wf_tree.specs.Trees.{Tree, decimal, text, list, map, Items, no_items, item, Pairs, no_pairs, pair}
use Rattle.wf_value.specs.Pairs.{Text}
use Rattle.wf_value.specs.declared.path.PathPart.{PathPart}
use Rattle.wf_value.specs.declared.path.PathPart.TheVariants.{Key, Index}

-- what a tree may stand for
pub data Role : Type 0 where
  -- all workflows by name, one of them by its name, its parameters, and a default
  Flows : Role
  Flow : Text → Role
  Parameters : Role
  Parameter : Role
  Literal : Role
  -- steps, one of them, and what one does; an arm of a switch is a body with a condition
  Steps : Role
  Step : Role
  Body : Role
  Arms : Role
  Arm : Role
  -- assignments; a target stands in the place of its key
  Entries : Role
  Entry : Role
  Target : Role
  -- a value with expressions in it, or several by name
  Value : Role
  Arguments : Role
  Range : Role
  -- texts
  AnyText : Role
  VariableName : Role
  Policy : Role
  -- loops and parallel steps
  Loop : Role
  Parallel : Role
  Limit : Role
  Shared : Role
  Branches : Role
  Branch : Role
  Block : Role
  -- tries
  Try : Role
  Retry : Role
  Predicate : Role
  Attempts : Role
  Backoff : Role
  Seconds : Role
  Factor : Role
  Except : Role

-- ## The first rule that speaks
abbrev pub unless : Bool → SyntaxKind → Option SyntaxKind → Option SyntaxKind
unless holds k more = if holds then more else Some k

abbrev pub demand : Bool → SyntaxKind → Option SyntaxKind
demand holds k = unless holds k None

-- a map with these keys and no others: those that it must have, and those that it may have
abbrev pub map_fault : List Text → List Text → Pairs → Option SyntaxKind
map_fault musts mays fs = unless (has_only (musts ++ mays) fs) UnknownField (demand (has_all musts fs) MissingField)

-- a map with one of two keys
abbrev pub choice_fault : Text → Text → List Text → List Text → Pairs → Option SyntaxKind
choice_fault a b musts mays fs =
    unless (has_only (a ∷ b ∷ (musts ++ mays)) fs && not (has a fs && has b fs)) UnknownField (demand ((has a fs || has b fs) && has_all musts fs) MissingField)

abbrev pub loop_fault : Pairs → Option SyntaxKind
loop_fault fs = choice_fault (codes "in") (codes "range") (codes "steps" ∷ codes "value" ∷ []) (codes "index" ∷ []) fs

abbrev pub parallel_fault : Pairs → Option SyntaxKind
parallel_fault fs = choice_fault (codes "branches") (codes "for") [] (codes "concurrency_limit" ∷ codes "exception_policy" ∷ codes "shared" ∷ []) fs

-- ## Bodies
-- a step has at least one field
abbrev pub step_fault : Pairs → Option SyntaxKind
step_fault fs = unless (has_only (body_fields fs) fs) UnknownField (demand (not (is_empty fs)) MissingField)

-- an arm has a condition besides
abbrev pub arm_fault : Pairs → Option SyntaxKind
arm_fault fs = unless (has_only (codes "condition" ∷ body_fields fs) fs) UnknownField (demand (has (codes "condition") fs) MissingField)

-- the body of a `try`
abbrev pub try_fault : Pairs → Option SyntaxKind
try_fault fs =
    if has (codes "call") fs then map_fault (codes "call" ∷ []) (codes "args" ∷ codes "result" ∷ []) fs
    else map_fault (codes "steps" ∷ []) [] fs

-- ## Words
abbrev pub policies : List Text
policies = codes "http.default_retry" ∷ codes "http.default_retry_non_idempotent" ∷ []

abbrev pub predicates : List Text
predicates = codes "http.default_retry_predicate" ∷ codes "http.default_retry_predicate_non_idempotent" ∷ codes "retry.always" ∷ codes "retry.never" ∷ []

-- ## The fault of a node alone
abbrev pub own : Role → Tree → Option SyntaxKind
own Flows (map fs) = demand (has (codes "main") fs) MissingField
own (Flow name) (map fs) =
    unless (has_only (codes "params" ∷ codes "steps" ∷ []) fs) UnknownField
    (unless (has (codes "steps") fs) MissingField (demand (is_name name) WrongKind))
own Parameters (list ts) = None
own Parameter (text x) = demand (is_name x) WrongKind
own Parameter (map (pair x t no_pairs)) = demand (is_name x) WrongKind
own Literal (decimal d) = Some WrongKind
own Literal (text s) = demand (not (has_expressions s)) WrongKind
own Literal t = None
own Steps (list ts) = None
own Step (map (pair x t no_pairs)) = demand (is_step_name x) NotAStep
own Step t = Some NotAStep
own Body (map fs) = step_fault fs
own Arms (list ts) = None
own Arm (map fs) = arm_fault fs
own Entries (list ts) = None
own Entry (map (pair x t no_pairs)) = None
own Target t = None
own Value (decimal d) = Some WrongKind
own Value t = None
own Arguments (map fs) = None
own Range (list (item a (item b no_items))) = None
own AnyText (text s) = None
own VariableName (text x) = demand (is_name x) WrongKind
own Policy (text s) = demand (bytes_eq s (codes "continueAll")) WrongKind
own Loop (map fs) = loop_fault fs
own Parallel (map fs) = parallel_fault fs
own Limit t = demand (is_some (whole_within 1 1000 t)) WrongKind
own Shared (list ts) = None
own Branches (list ts) = None
own Branch (map (pair x t no_pairs)) = None
own Branch t = Some NotAStep
own Block (map fs) = map_fault (codes "steps" ∷ []) [] fs
own Try (map fs) = try_fault fs
own Retry (text s) = demand (is_among (unmarked s) policies) WrongKind
own Retry (map fs) = map_fault [] (codes "backoff" ∷ codes "max_retries" ∷ codes "predicate" ∷ []) fs
own Predicate (text s) = demand (is_among (unmarked s) predicates || is_name (unmarked s)) WrongKind
own Attempts t = demand (is_some (whole_within 0 1000000 t)) WrongKind
own Backoff (map fs) = map_fault [] (codes "initial_delay" ∷ codes "max_delay" ∷ codes "multiplier" ∷ []) fs
own Seconds t = demand (is_some (thousandths_to 31536000000 t)) WrongKind
own Factor t = demand (is_some (thousandths_to 1000000 t)) WrongKind
own Except (map fs) = map_fault (codes "as" ∷ codes "steps" ∷ []) [] fs
own r t = Some WrongKind

-- ## The parts of a node
pub record Sub : Type 0 where
  pub part : PathPart
  pub role : Role
  pub tree : Tree

-- the items of a list, from an index on
abbrev pub each : Role → ℕ → Items → List Sub
each r i no_items = []
each r i (item t ts) = record { part = Index i; role = r; tree = t } ∷ each r (suc i) ts

-- the values of a map
abbrev pub every : (Text → Role) → Pairs → List Sub
every r no_pairs = []
every r (pair k t fs) = record { part = Key k; role = r k; tree = t } ∷ every r fs

abbrev pub there : Text → Role → Option Tree → List Sub
there k r None = []
there k r (Some t) = record { part = Key k; role = r; tree = t } ∷ []

-- the tree at a key, if there is one
abbrev pub at : Text → Role → Pairs → List Sub
at k r fs = there k r (field k fs)

-- the fields of all forms, in the order of their bytes
abbrev pub body_parts : Pairs → List Sub
body_parts fs =
    at (codes "args") Arguments fs ++ at (codes "assign") Entries fs ++ at (codes "call") AnyText fs ++ at (codes "condition") Value fs
    ++ at (codes "except") Except fs ++ at (codes "for") Loop fs ++ at (codes "next") AnyText fs ++ at (codes "parallel") Parallel fs
    ++ at (codes "raise") Value fs ++ at (codes "result") VariableName fs ++ at (codes "retry") Retry fs ++ at (codes "return") Value fs
    ++ at (codes "steps") Steps fs ++ at (codes "switch") Arms fs ++ at (codes "try") Try fs

abbrev pub parts : Role → Tree → List Sub
parts Flows (map fs) = every Flow fs
parts (Flow name) (map fs) = at (codes "params") Parameters fs ++ at (codes "steps") Steps fs
parts Parameters (list ts) = each Parameter 0 ts
parts Parameter (map fs) = every (λ x. Literal) fs
parts Literal (list ts) = each Literal 0 ts
parts Literal (map fs) = every (λ x. Literal) fs
parts Steps (list ts) = each Step 0 ts
parts Step (map fs) = every (λ x. Body) fs
parts Body (map fs) = body_parts fs
parts Arms (list ts) = each Arm 0 ts
parts Arm (map fs) = body_parts fs
parts Entries (list ts) = each Entry 0 ts
-- the target and the value of an entry have one path
parts Entry (map (pair x t no_pairs)) = record { part = Key x; role = Target; tree = text x } ∷ record { part = Key x; role = Value; tree = t } ∷ []
parts Value (list ts) = each Value 0 ts
parts Value (map fs) = every (λ x. Value) fs
parts Arguments (map fs) = every (λ x. Value) fs
parts Range (list ts) = each Value 0 ts
parts Loop (map fs) =
    at (codes "in") Value fs ++ at (codes "index") VariableName fs ++ at (codes "range") Range fs ++ at (codes "steps") Steps fs ++ at (codes "value") VariableName fs
parts Parallel (map fs) =
    at (codes "branches") Branches fs ++ at (codes "concurrency_limit") Limit fs ++ at (codes "exception_policy") Policy fs ++ at (codes "for") Loop fs
    ++ at (codes "shared") Shared fs
parts Shared (list ts) = each VariableName 0 ts
parts Branches (list ts) = each Branch 0 ts
parts Branch (map fs) = every (λ x. Block) fs
parts Block (map fs) = at (codes "steps") Steps fs
parts Try (map fs) = at (codes "args") Arguments fs ++ at (codes "call") AnyText fs ++ at (codes "result") VariableName fs ++ at (codes "steps") Steps fs
parts Retry (map fs) = at (codes "backoff") Backoff fs ++ at (codes "max_retries") Attempts fs ++ at (codes "predicate") Predicate fs
parts Backoff (map fs) = at (codes "initial_delay") Seconds fs ++ at (codes "max_delay") Seconds fs ++ at (codes "multiplier") Factor fs
parts Except (map fs) = at (codes "as") VariableName fs ++ at (codes "steps") Steps fs
parts r t = []
