-- Which programs the checker accepts: the rules, each of one node, and the first fault.
--     rules          what each rule says of a node, in the order of their numbers
--     fault          the rule of the lowest number that speaks at a node, with its place
--     first_fault    the first node in preorder at which a rule speaks
use Rattle.std.specs.Prelude.{◌≡◌, ℕ, suc, Bool, true, false, not, ◌&&◌, ◌||◌, List, [], ◌∷◌, length, is_none, if◌then◌else◌, nat_lt, nat_le, Some, None, codes, bytes_eq, Option, IsTrue}
use Rattle.std.specs.List.{list_all}
use Rattle.wf_ast.specs.Blocks.{first, at_if, rule_empty, rule_double, unknown_step, out_of_scope, outside_loop, rule_next, rule_return}
use Rattle.wf_ast.specs.Flows.{flow}
use Rattle.wf_ast.specs.Func.{Signature, call_signature, takes, call_takes}
use Rattle.wf_ast.specs.Nodes.{Path, Names, Around, NodePart, FlowPart, StepPart, ArmPart, BodyPart, EntryPart, BranchPart, part_body, Node, below, nth, param_names, nodes}
use Rattle.wf_ast.specs.Reads.{part_reads}
use Rattle.wf_ast.specs.Tree.{CallBody, FlowNamed, Policy, Body, Arms, no_arms, arm, LoopBody, loop, parallel, Work, OfBranches, OfLoop, Branches, no_branches, branch, try, Except, no_except, except, Param, Flow, Program, field_names}
use Rattle.wf_value.specs.HttpRequest.{is_among}
use Rattle.wf_value.specs.HttpUrl.{first_of_two}
use Rattle.wf_value.specs.Pairs.{Text}

-- the rules by name, in the order of their numbers 1 to 12
pub data Kind : Type 0 where
  EmptySteps : Kind
  DoubleStep : Kind
  UnknownStep : Kind
  JumpOutOfScope : Kind
  BreakOutsideLoop : Kind
  ReturnInBranch : Kind
  UndeclaredWrite : Kind
  UnknownShared : Kind
  UnknownName : Kind
  UnknownCall : Kind
  BadArgument : Kind
  TooMany : Kind

-- a rule that speaks, and where
pub record Fault : Type 0 where
  pub kind : Kind
  pub place : Path

-- ## 7 to 9: names
-- a layer has the name
abbrev pub has_name : Text → Names → Bool
has_name x l = is_among x l.binds || is_among x l.assigns

-- a visible layer has the name
abbrev pub is_visible : Text → List Names → Bool
is_visible x [] = false
is_visible x (l ∷ ls) = has_name x l || is_visible x ls

-- a write across the layer that a branch opens, to a name of a layer outside it, is to a shared name
abbrev pub may_cross : Text → Option (List Text) → List Names → Bool
may_cross x None outside = true
may_cross x (Some shared) outside = not (is_visible x outside) || is_among x shared

-- outward to the first layer that binds the name
abbrev pub may_write : Text → List Names → Bool
may_write x [] = true
may_write x (l ∷ ls) = if is_among x l.binds then true else (may_cross x l.shared ls && may_write x ls)

-- the call that a body is
abbrev pub call_of : Body → Option CallBody
call_of (Body.Call f) = Some f
call_of body = None

-- the variable that takes the result
abbrev pub result_of_call : Option CallBody → Option Text
result_of_call None = None
result_of_call (Some f) = f.result

-- where a write that may not be stands
abbrev pub write_fault : Around → Option Text → Path → Option Path
write_fault a None path = None
write_fault a (Some x) path = at_if (not (may_write x a.layers)) path

-- where rule 7 speaks
abbrev pub rule_write : Around → NodePart → Path → Option Path
rule_write a (EntryPart e) path = write_fault a (Some e.target.name) path
rule_write a part path = write_fault a (result_of_call (call_of (part_body part))) (below path (codes "result"))

-- the first shared name that is of no visible layer, from number i on
abbrev pub unknown_shared : List Names → List Text → Path → ℕ → Option Path
unknown_shared ls [] path i = None
unknown_shared ls (x ∷ xs) path i = if is_visible x ls then unknown_shared ls xs path (suc i) else Some (nth path i)

-- the shared names of a parallel step
abbrev pub shared_in : Body → List Text
shared_in (Body.Parallel (parallel shared limit w)) = shared
shared_in body = []

-- where rule 8 speaks
abbrev pub rule_shared : Around → NodePart → Path → Option Path
rule_shared a part path = unknown_shared a.layers (shared_in (part_body part)) (below (below path (codes "parallel")) (codes "shared")) 0

-- the first read of a name that no visible layer has
abbrev pub first_unseen : List Names → List (Path × Text) → Option Path
first_unseen ls [] = None
first_unseen ls (r ∷ rs) = if is_visible r.1 ls then first_unseen ls rs else Some r.0

-- where rule 9 speaks
abbrev pub rule_name : Around → NodePart → Path → Option Path
rule_name a part path = first_unseen a.layers (part_reads part path)

-- ## 10 and 11: calls
-- the name is of no workflow and no function that may be called
abbrev pub unknown_call : List Flow → Text → Bool
unknown_call fs x = is_none (flow fs x) && is_none (call_signature x)

-- the workflow that a retry asks
abbrev pub predicate_of : Body → Option Text
predicate_of (Body.Try (try body (Some p) x)) = elim p.predicate [ FlowNamed f ↦ Some f | q ↦ None ]
predicate_of body = None

-- the name is of no workflow that may be called
abbrev pub no_flow : List Flow → Option Text → Bool
no_flow fs None = false
no_flow fs (Some x) = is_none (flow fs x)

-- where rule 10 speaks
abbrev pub rule_call : List Flow → NodePart → Path → Option Path
rule_call fs part path = first (
    elim (call_of (part_body part)) [ None ↦ None | Some f ↦ at_if (unknown_call fs f.name) (below path (codes "call")) ]
    ∷ at_if (no_flow fs (predicate_of (part_body part))) (below (below path (codes "retry")) (codes "predicate")) ∷ [])

-- the names of the parameters without a default
abbrev pub required : List Param → List Text
required [] = []
required (x ∷ xs) = elim x.default [ None ↦ x.name ∷ required xs | Some v ↦ required xs ]

-- the arguments of a workflow are its parameters
abbrev pub flow_signature : List Param → Signature
flow_signature xs = record { needs = required xs; may = param_names xs }

-- the names of the arguments fit what is called; a workflow comes before a function of its name
abbrev pub call_fits : List Flow → CallBody → Bool
call_fits fs f = elim (flow fs f.name) [ Some w ↦ takes (flow_signature w.params) (field_names f.args) | None ↦ elim (call_signature f.name) [ Some g ↦ call_takes f.name g (field_names f.args) | None ↦ true ] ]

-- there is one parameter
abbrev pub has_one : List Param → Bool
has_one (x ∷ []) = true
has_one xs = false

-- the workflow that a retry asks has one parameter
abbrev pub predicate_fits : List Flow → Option Text → Bool
predicate_fits fs None = true
predicate_fits fs (Some x) = elim (flow fs x) [ Some w ↦ has_one w.params | None ↦ true ]

-- where rule 11 speaks
abbrev pub rule_argument : List Flow → NodePart → Path → Option Path
rule_argument fs part path = first (
    elim (call_of (part_body part)) [ None ↦ None | Some f ↦ at_if (not (call_fits fs f)) (below path (codes "args")) ]
    ∷ at_if (not (predicate_fits fs (predicate_of (part_body part)))) (below (below path (codes "retry")) (codes "predicate")) ∷ [])

-- ## 12: limits
-- the number of arms
abbrev pub arms_count : Arms → ℕ
arms_count no_arms = 0
arms_count (arm t body next rest) = suc (arms_count rest)

-- the number of branches
abbrev pub branches_count : Branches → ℕ
branches_count no_branches = 0
branches_count (branch x ss bs) = suc (branches_count bs)

-- a name of a step, a variable, a parameter or a workflow
abbrev pub long_name : Text → Path → Option Path
long_name x path = at_if (nat_lt 256 (length x)) path

-- a name that may be absent
abbrev pub long_maybe : Option Text → Path → Option Path
long_maybe None path = None
long_maybe (Some x) path = long_name x path

-- of a loop
abbrev pub loop_many : LoopBody → Path → Option Path
loop_many (loop x i o ss) path = first (long_maybe i (below path (codes "index")) ∷ long_name x (below path (codes "value")) ∷ [])

-- of what runs in parallel
abbrev pub work_many : Work → Path → Option Path
work_many (OfBranches bs) path = at_if (nat_lt 10 (branches_count bs)) (below path (codes "branches"))
work_many (OfLoop l) path = loop_many l (below path (codes "for"))

-- of an `except`
abbrev pub except_many : Except → Path → Option Path
except_many no_except path = None
except_many (except x ss) path = long_name x (below path (codes "as"))

-- of a body
abbrev pub body_many : Body → Path → Option Path
body_many (Body.Assign es) path = at_if (nat_lt 50 (length es)) (below path (codes "assign"))
body_many (Body.Call f) path = long_maybe f.result (below path (codes "result"))
body_many (Body.Switch arms) path = at_if (nat_lt 50 (arms_count arms)) (below path (codes "switch"))
body_many (Body.For l) path = loop_many l (below path (codes "for"))
body_many (Body.Parallel (parallel shared limit w)) path = work_many w (below path (codes "parallel"))
body_many (Body.Try (try body policy x)) path = except_many x (below path (codes "except"))
body_many body path = None

-- of parameters, from number i on
abbrev pub params_many : List Param → Path → ℕ → Option Path
params_many [] path i = None
params_many (x ∷ xs) path i = first_of_two (long_name x.name (nth path i)) (params_many xs path (suc i))

-- `main` has at most one parameter
abbrev pub flow_many : Flow → Path → Option Path
flow_many f path = first (
    long_name f.name path
    ∷ at_if (bytes_eq f.name (codes "main") && nat_lt 1 (length f.params)) (below path (codes "params"))
    ∷ params_many f.params (below path (codes "params")) 0 ∷ [])

-- names in `shared` and in expressions stand somewhere else too
abbrev pub part_many : NodePart → Path → Option Path
part_many (FlowPart f) path = flow_many f path
part_many (StepPart x body next) path = first_of_two (long_name x path) (body_many body path)
part_many (ArmPart t next) path = None
part_many (BodyPart body) path = body_many body path
part_many (EntryPart e) path = long_name e.target.name path
part_many (BranchPart before x ss) path = None

-- where rule 12 speaks: a limit is passed, or this is the first node past 1,000,000
abbrev pub rule_many : ℕ → NodePart → Path → Option Path
rule_many number part path = first_of_two (part_many part path) (at_if (nat_le 1000000 number) path)

-- ## The first fault
-- the fault of a kind where it speaks
abbrev pub as_fault : Kind → Option Path → Option Fault
as_fault k None = None
as_fault k (Some path) = Some (record { kind = k; place = path })

-- the rules at a node by its number, with the names of the steps before it in its workflow
unfoldable pub rules : List Flow → ℕ → List Text → Node → List (Option Fault)
rules fs number earlier v =
    as_fault EmptySteps (rule_empty v.part v.path)
    ∷ as_fault DoubleStep (rule_double earlier v.part v.path)
    ∷ as_fault UnknownStep (rule_next (unknown_step v.around) v.part v.path)
    ∷ as_fault JumpOutOfScope (rule_next (out_of_scope v.around) v.part v.path)
    ∷ as_fault BreakOutsideLoop (rule_next (outside_loop v.around.inside) v.part v.path)
    ∷ as_fault ReturnInBranch (rule_return v.around v.part v.path)
    ∷ as_fault UndeclaredWrite (rule_write v.around v.part v.path)
    ∷ as_fault UnknownShared (rule_shared v.around v.part v.path)
    ∷ as_fault UnknownName (rule_name v.around v.part v.path)
    ∷ as_fault UnknownCall (rule_call fs v.part v.path)
    ∷ as_fault BadArgument (rule_argument fs v.part v.path)
    ∷ as_fault TooMany (rule_many number v.part v.path) ∷ []

-- the rule of the lowest number that speaks at a node
unfoldable pub fault : List Flow → ℕ → List Text → Node → Option Fault
fault fs number earlier v = first (rules fs number earlier v)

-- the names of the steps before the next node
abbrev pub after_part : NodePart → List Text → List Text
after_part (FlowPart f) earlier = []
after_part (StepPart x body next) earlier = x ∷ earlier
after_part part earlier = earlier

-- the first fault of nodes, from a number on
abbrev pub first_among : List Flow → ℕ → List Text → List Node → Option Fault
first_among fs number earlier [] = None
first_among fs number earlier (v ∷ vs) =
    first_of_two (fault fs number earlier v) (first_among fs (suc number) (after_part v.part earlier) vs)

-- the first fault of a program
unfoldable pub first_fault : Program → Option Fault
first_fault p = first_among p.flows 0 [] (nodes p.flows)

-- no number of a backoff is over a year in milliseconds
-- no number of the policy is over that
abbrev pub is_small_backoff : Option Policy → Bool
is_small_backoff None = true
is_small_backoff (Some p) = list_all (λ n. nat_le n 31536000000) (p.backoff.initial ∷ p.backoff.max ∷ p.backoff.multiplier ∷ [])

-- no number of the node's policy is over that
abbrev pub small_backoff : Node → Bool
small_backoff v = elim (part_body v.part) [ Body.Try (try body policy x) ↦ is_small_backoff policy | body ↦ true ]

-- no rule speaks at any node, and no number of a backoff is over a year in milliseconds
abbrev pub Accept : Program → Type 0
Accept p = (first_fault p ≡ None) × IsTrue (list_all small_backoff (nodes p.flows))
