-- Tables whose steps are built.
--     is_table_built     no parallel step has a limit of its own, and each list that runs in parallel has a step
--     IsTableOf          such a table tells of a program's parts
--     AreTargets         what its calls name: workflows, functions, calls of HTTP, sleeps and the log; and the workflows of its predicates
use Rattle.std.specs.Prelude.{◌≡◌, ℕ, Bool, true, false, ◌&&◌, not, is_none, List, [], ◌∷◌, map, option_map, slice_get, is_some, Some, None, Option}
use Rattle.std.specs.List.{list_all}
use Rattle.wf_ast.specs.Flows.{flow}
use Rattle.wf_ast.specs.Func.{Listing, Special, SpecialListing, SysLog, SysSleep, SysSleepUntil, func_named, special_named}
use Rattle.wf_ast.specs.Tree.{Flow}
use Rattle.wf_ast.specs.declared.Func.{Func}
use Rattle.wf_ast.specs.declared.policy.Policy.{Policy}
use Rattle.wf_ast.specs.declared.policy.Predicate.TheVariants as predicate
use Rattle.wf_callbacks.specs.Plain.{plain_method}
use Rattle.wf_callbacks.specs.declared.method.Method.{Method}
use Rattle.wf_frames.specs.Fits.{has_next, view_at}
use Rattle.wf_ast.specs.declared.functions.Function.{Function}
use Rattle.wf_model.specs.Calls.{http_method}
use Rattle.wf_model.specs.Spots.{FlowAt, NoPart, Part, Spot, part_at, part_next}
use Rattle.wf_model.specs.Table.{Resolves}
use Rattle.wf_model.specs.declared.node.CallNode.{CallNode}
use Rattle.wf_model.specs.declared.node.Node.{Node}
use Rattle.wf_model.specs.declared.node.NodeKind.{NodeKind}
use Rattle.wf_model.specs.declared.node.NodeKind.TheVariants as kind
use Rattle.wf_model.specs.declared.node.TryNode.{TryNode}
use Rattle.wf_model.specs.declared.node.WorkNode.{WorkNode}
use Rattle.wf_model.specs.declared.node.WorkNode.TheVariants as work
use Rattle.wf_frames.specs.declared.target.Nap.{Nap}
use Rattle.wf_frames.specs.declared.target.Nap.TheVariants as nap
use Rattle.wf_frames.specs.declared.target.Target.{Target}
use Rattle.wf_frames.specs.declared.target.Target.TheVariants as target
use Rattle.wf_value.specs.Pairs.{Text}

-- ## Nodes
abbrev pub has_any : List ℕ → Bool
has_any [] = false
has_any (n ∷ ns) = true

-- the node of a number is a branch with a step
abbrev pub is_begun : NodeKind → Bool
is_begun (kind.Branch b) = has_any b.steps.items
is_begun k = false

abbrev pub is_begun_node : Option Node → Bool
is_begun_node None = false
is_begun_node (Some x) = is_begun x.kind

abbrev pub has_steps : List Node → ℕ → Bool
has_steps nodes n = is_begun_node (slice_get nodes n)

-- each list that runs in parallel has one
abbrev pub work_built : List Node → WorkNode → Bool
work_built nodes (work.Branches v) = list_all (has_steps nodes) v.items
work_built nodes (work.Loop l) = has_any l.block.steps.items

-- the body of a `try` says nothing of what is next
abbrev pub kind_built : List Node → NodeKind → Bool
kind_built nodes (kind.Try t) = not (has_next (view_at nodes t.body))
kind_built nodes (kind.Parallel p) = is_none p.limit && work_built nodes p.work
kind_built nodes k = true

abbrev pub is_node_built : List Node → Node → Bool
is_node_built nodes x = kind_built nodes x.kind

abbrev pub is_table_built : List Node → Bool
is_table_built nodes = list_all (is_node_built nodes) nodes

pub record IsTableOf (ns : List Spot) (nodes : List Node) : Type 0 where
  pub resolves : Resolves ns nodes
  pub nexts : (i : ℕ) (x : Node) → slice_get nodes i ≡ Some x → part_next (part_at ns i) ≡ x.next
  pub built : is_table_built nodes ≡ true

-- ## What is called
-- the part of a workflow
abbrev pub flow_part : Option Flow → Part
flow_part None = NoPart
flow_part (Some f) = FlowAt f

-- a function, and the names of its arguments: as the library has it, and as the code
abbrev pub listed : Listing → Func × (List Text × List Text)
listed e = (e.func, (e.signature.needs, e.signature.may))

abbrev pub function_parts : Function → Func × (List Text × List Text)
function_parts g = (g.func, (map (λ n. n.now) g.arguments.needs.now, map (λ n. n.now) g.arguments.may.now))

-- no workflow that may be called has this name, but a function
pub record IsFunction (fs : List Flow) (g : Function) (x : Text) : Type 0 where
  pub free : is_some (flow fs x) ≡ false
  pub named : option_map listed (func_named x) ≡ Some (function_parts g)

-- a workflow of this name may be called, and the number is that of its node
pub record IsWorkflow (fs : List Flow) (ns : List Spot) (n : ℕ) (x : Text) : Type 0 where
  pub named : is_some (flow fs x) ≡ true
  pub part : part_at ns n ≡ flow_part (flow fs x)

-- no workflow and no function of expressions that may be called has this name, but a call of HTTP whose name tells this method, or none
pub record IsHttp (fs : List Flow) (m : Option Method) (x : Text) : Type 0 where
  pub free : is_some (flow fs x) ≡ false
  pub unlisted : is_some (func_named x) ≡ false
  pub named : http_method (special_named x) ≡ Some (option_map plain_method m)

-- the function of call steps that a sleep is
abbrev pub nap_special : Nap → Special
nap_special nap.For = SysSleep
nap_special nap.Until = SysSleepUntil

-- a function of call steps is a sleep
abbrev pub is_sleep : Option SpecialListing → Bool
is_sleep None = false
is_sleep (Some g) = elim g.special [ SysSleep ↦ true | SysSleepUntil ↦ true | x ↦ false ]

-- nor has a workflow nor a function of expressions this name, but this sleep
pub record IsNap (fs : List Flow) (b : Nap) (x : Text) : Type 0 where
  pub free : is_some (flow fs x) ≡ false
  pub unlisted : is_some (func_named x) ≡ false
  pub named : option_map (λ e. e.special) (special_named x) ≡ Some (nap_special b)

-- nor has a workflow nor a function of expressions this name, but the log
pub record IsLog (fs : List Flow) (x : Text) : Type 0 where
  pub free : is_some (flow fs x) ≡ false
  pub unlisted : is_some (func_named x) ≡ false
  pub named : option_map (λ (e : SpecialListing). e.special) (special_named x) ≡ Some SysLog

-- a call of this name comes to this
abbrev pub IsTarget : List Flow → List Spot → Option Target → Text → Type 0
IsTarget fs ns None x = ⊥
IsTarget fs ns (Some (target.Flow n)) x = IsWorkflow fs ns n x
IsTarget fs ns (Some (target.Function g)) x = IsFunction fs g x
IsTarget fs ns (Some (target.Http m)) x = IsHttp fs m x
IsTarget fs ns (Some (target.Sleeps b)) x = IsNap fs b x
IsTarget fs ns (Some target.Log) x = IsLog fs x

-- a predicate of this name comes to this
abbrev pub IsAsked : List Flow → List Spot → Option Target → Text → Type 0
IsAsked fs ns (Some (target.Flow n)) x = IsWorkflow fs ns n x
IsAsked fs ns o x = ⊥

-- what each call names stands at the call's own number, and the workflow of a predicate at that of its `try`
pub record AreTargets (fs : List Flow) (ns : List Spot) (nodes : List Node) (targets : List Target) : Type 0 where
  pub calls : (i : ℕ) (x : Node) (f : CallNode) → slice_get nodes i ≡ Some x → x.kind ≡ kind.Call f → IsTarget fs ns (slice_get targets i) f.name
  pub asks : (i : ℕ) (x : Node) (t : TryNode) (p : Policy) (f : Text) → slice_get nodes i ≡ Some x → x.kind ≡ kind.Try t → t.policy ≡ Some p → p.predicate ≡ predicate.Flow f
      → IsAsked fs ns (slice_get targets i) f
