-- The fault of a node alone is of no expression.
use Rattle.std.proofs.Common.{◌≡◌, ◌++◌, ◌&&◌, ◌||◌, if◌then◌else◌, not, Bool, true, false, List, [], ◌∷◌, Option, Some, is_some, bytes_eq, codes, subst}
use Rattle.wf_syntax_rules.specs.Faults.{IsOwn}
use Rattle.wf_syntax_words.specs.Names.{is_name, is_step_name, unmarked}
use Rattle.wf_syntax_words.specs.Numbers.{thousandths_to, whole_within}
use Rattle.wf_value.specs.HttpRequest.{is_among}
use Rattle.wf_expr.specs.Texts.{has_expressions}
use Rattle.wf_syntax_rules.specs.Rules.{Role, demand, own, unless}
use Rattle.wf_syntax_words.specs.Fields.{has, body_fields, has_all, has_only, is_empty}
use Rattle.wf_syntax_rules.specs.Rules as r
use Rattle.wf_syntax_rules.specs.declared.fault.SyntaxKind.{SyntaxKind}
use Rattle.wf_syntax_rules.specs.declared.fault.SyntaxKind.TheVariants.{NotAStep, UnknownField, MissingField, WrongKind, Expression}
use Rattle.wf_tree.specs.Trees.{Tree, decimal, text, list, map, no_items, item, Pairs, no_pairs, pair}
use Rattle.wf_value.specs.Pairs.{Text}

abbrev NoExpression : Option SyntaxKind → Type 0
NoExpression (Some (Expression f)) = ⊥
NoExpression o = Unit {0}

unless_none : (b : Bool) (k : SyntaxKind) (o : Option SyntaxKind) → NoExpression (Some k) → NoExpression o → NoExpression (unless b k o)
unless_none true k o h more = more
unless_none false k o h more = h

demand_none : (b : Bool) (k : SyntaxKind) → NoExpression (Some k) → NoExpression (demand b k)
demand_none true k h = tt
demand_none false k h = h

two_none : (a b : Bool) → NoExpression (unless a UnknownField (demand b MissingField))
two_none a b = unless_none a UnknownField (demand b MissingField) tt (demand_none b MissingField tt)

map_none : (musts mays : List Text) (fs : Pairs) → NoExpression (r.map_fault musts mays fs)
map_none musts mays fs = two_none (has_only (musts ++ mays) fs) (has_all musts fs)

choice_none : (a b : Text) (musts mays : List Text) (fs : Pairs) → NoExpression (r.choice_fault a b musts mays fs)
choice_none a b musts mays fs = two_none (has_only (a ∷ b ∷ (musts ++ mays)) fs && not (has a fs && has b fs)) ((has a fs || has b fs) && has_all musts fs)

either_none : (b : Bool) (x y : Option SyntaxKind) → NoExpression x → NoExpression y → NoExpression (if b then x else y)
either_none true x y h k = h
either_none false x y h k = k

try_none : (fs : Pairs) → NoExpression (r.try_fault fs)
try_none fs =
    either_none (has (codes "call") fs) (r.map_fault (codes "call" ∷ []) (codes "args" ∷ codes "result" ∷ []) fs) (r.map_fault (codes "steps" ∷ []) [] fs)
    (map_none (codes "call" ∷ []) (codes "args" ∷ codes "result" ∷ []) fs) (map_none (codes "steps" ∷ []) [] fs)

flow_none : (name : Text) (fs : Pairs) → NoExpression (own (r.Flow name) (map fs))
flow_none name fs =
    unless_none (has_only (codes "params" ∷ codes "steps" ∷ []) fs) UnknownField (unless (has (codes "steps") fs) MissingField (demand (is_name name) WrongKind)) tt
    (unless_none (has (codes "steps") fs) MissingField (demand (is_name name) WrongKind) tt (demand_none (is_name name) WrongKind tt))

own_none : (role : Role) (t : Tree) → NoExpression (own role t)
own_none r.Flows (map fs) = demand_none (has (codes "main") fs) MissingField tt
own_none (r.Flow name) (map fs) = flow_none name fs
own_none r.Parameters (list ts) = tt
own_none r.Parameter (text x) = demand_none (is_name x) WrongKind tt
own_none r.Parameter (map (pair x t no_pairs)) = demand_none (is_name x) WrongKind tt
own_none r.Literal (text s) = demand_none (not (has_expressions s)) WrongKind tt
own_none r.Steps (list ts) = tt
own_none r.Step (map (pair x t no_pairs)) = demand_none (is_step_name x) NotAStep tt
own_none r.Body (map fs) = two_none (has_only (body_fields fs) fs) (not (is_empty fs))
own_none r.Arms (list ts) = tt
own_none r.Arm (map fs) = two_none (has_only (codes "condition" ∷ body_fields fs) fs) (has (codes "condition") fs)
own_none r.Entries (list ts) = tt
own_none r.Entry (map (pair x t no_pairs)) = tt
own_none r.Target t = tt
own_none r.Value (decimal d) = tt
own_none r.Arguments (map fs) = tt
own_none r.Range (list (item a (item b no_items))) = tt
own_none r.AnyText (text s) = tt
own_none r.VariableName (text x) = demand_none (is_name x) WrongKind tt
own_none r.Policy (text s) = demand_none (bytes_eq s (codes "continueAll")) WrongKind tt
own_none r.Loop (map fs) = choice_none (codes "in") (codes "range") (codes "steps" ∷ codes "value" ∷ []) (codes "index" ∷ []) fs
own_none r.Parallel (map fs) =
    choice_none (codes "branches") (codes "for") [] (codes "concurrency_limit" ∷ codes "exception_policy" ∷ codes "shared" ∷ []) fs
own_none r.Limit t = demand_none (is_some (whole_within 1 1000 t)) WrongKind tt
own_none r.Shared (list ts) = tt
own_none r.Branches (list ts) = tt
own_none r.Branch (map (pair x t no_pairs)) = tt
own_none r.Block (map fs) = map_none (codes "steps" ∷ []) [] fs
own_none r.Try (map fs) = try_none fs
own_none r.Retry (text s) = demand_none (is_among (unmarked s) r.policies) WrongKind tt
own_none r.Retry (map fs) = map_none [] (codes "backoff" ∷ codes "max_retries" ∷ codes "predicate" ∷ []) fs
own_none r.Predicate (text s) = demand_none (is_among (unmarked s) r.predicates || is_name (unmarked s)) WrongKind tt
own_none r.Attempts t = demand_none (is_some (whole_within 0 1000000 t)) WrongKind tt
own_none r.Backoff (map fs) = map_none [] (codes "initial_delay" ∷ codes "max_delay" ∷ codes "multiplier" ∷ []) fs
own_none r.Seconds t = demand_none (is_some (thousandths_to 31536000000 t)) WrongKind tt
own_none r.Factor t = demand_none (is_some (thousandths_to 1000000 t)) WrongKind tt
own_none r.Except (map fs) = map_none (codes "as" ∷ codes "steps" ∷ []) [] fs
own_none role t = tt

pub own_is : (role : Role) (t : Tree) (k : SyntaxKind) → own role t ≡ Some k → IsOwn role t k
own_is role t NotAStep e = e
own_is role t UnknownField e = e
own_is role t MissingField e = e
own_is role t WrongKind e = e
own_is role t (Expression f) e = absurd (subst NoExpression e (own_none role t))
