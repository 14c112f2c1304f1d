-- Where a machine stands, by the frames of its tasks, the store of their layers and what they wait for.
--     around        what stands around `main`
--     config_of     the configuration
--     HasStood ..   where it stands
use Rattle.std.specs.Prelude.{◌≡◌, ℕ, Bool, true, false, ◌&&◌, nat_eq, is_none, List, [], ◌∷◌, ◌++◌, None, Some, Option, is_some, option_map, slice_get}
use Rattle.std.specs.Coded.{Coded-set, codes, coded_bool, Π_prop, →_prop}
use Rattle.wf_ast.specs.Flows.{flow}
use Rattle.wf_ast.specs.Func.{SpecialListing, SysLog, func_named, special_named}
use Rattle.wf_ast.specs.Tree.{Flow, Program}
use Rattle.wf_ast.specs.declared.policy.Policy.{Policy}
use Rattle.wf_ast.specs.declared.policy.Predicate.TheVariants as predicate
use Rattle.wf_callbacks.specs.Plain.{plain_method}
use Rattle.wf_callbacks.specs.declared.method.Method.{Method}
use Rattle.wf_frames.specs.Owned.{Around, control_of}
use Rattle.wf_frames.specs.Standing.{Standing}
use Rattle.wf_http_ask.specs.View.{request_view}
use Rattle.wf_machine.specs.Facts.{facts_view}
use Rattle.wf_machine.specs.Entries.{entries_of}
use Rattle.wf_machine.specs.Log.{logged_at}
use Rattle.wf_machine.specs.State.{outcome_by}
use Rattle.wf_machine.specs.declared.ending.Ending.{Ending}
use Rattle.wf_machine.specs.declared.ending.Ending.TheVariants as ending
use Rattle.wf_value.specs.declared.value.Value.TheVariants as value
use Rattle.wf_machine.specs.declared.facts.Facts.{Facts}
use Rattle.wf_machine.specs.declared.log.Log.{Log}
use Rattle.wf_machine.specs.declared.machine.Tally.{Tally}
use Rattle.wf_branches.specs.Changes.{new_table}
use Rattle.wf_branches.specs.Seen.{table_of}
use Rattle.wf_branches.specs.Table.{Status, Table}
use Rattle.wf_branches.specs.declared.tasks.Tasks.{Tasks}
use Rattle.wf_model.specs.WaitLaws.{Sound}
use Rattle.wf_never_wrong.specs.Stands.{Stands}
use Rattle.wf_several.specs.Several.{tasks_view}
use Rattle.wf_model.specs.Calls.{http_method}
use Rattle.wf_model.specs.Config as model
use Rattle.wf_model.specs.Config.{Active, Call, Config, Do, Item, LogEntry, Open, Outcome, Raised, Returned, limits}
use Rattle.wf_model.specs.Local.{Local, settle}
use Rattle.wf_model.specs.Run.{main_local, main_steps}
use Rattle.wf_moves.specs.Waits.{CanGoOn, control_in, is_awake_in, task_local}
use Rattle.wf_moves.specs.declared.finish.End.{End}
use Rattle.wf_moves.specs.declared.finish.End.TheVariants as end
use Rattle.wf_moves.specs.declared.logging.Behind.{Behind}
use Rattle.wf_moves.specs.declared.logging.Behind.TheVariants as behind
use Rattle.wf_moves.specs.declared.task.Told.{Told}
use Rattle.wf_moves.specs.declared.task.Told.TheVariants as told
use Rattle.wf_moves.specs.declared.task.Task.{Task}
use Rattle.wf_value.specs.Data.{Data, depth}
use Rattle.wf_value.specs.Pairs.{Text}
use Rattle.wf_value.specs.Plain.{plain}
use Rattle.wf_model.specs.Sets.{Part-set}
use Rattle.wf_ast.specs.declared.functions.Function.{Function}
use Rattle.wf_model.specs.Spots.{Spot, part_at, spots}
use Rattle.wf_model.specs.declared.node.CallNode.{CallNode}
use Rattle.wf_model.specs.declared.node.Node.{Node}
use Rattle.wf_model.specs.declared.node.NodeKind.TheVariants as kind
use Rattle.wf_model.specs.declared.node.TryNode.{TryNode}
use Rattle.wf_scope.specs.declared.scopes.Scopes.{Scopes}
use Rattle.wf_frames.specs.Built.{AreTargets, IsAsked, IsFunction, IsHttp, IsLog, IsNap, IsTarget, IsWorkflow, flow_part, function_parts, listed, nap_special}
use Rattle.wf_frames.specs.declared.target.Nap.{Nap}
use Rattle.wf_frames.specs.declared.target.Target.{Target}
use Rattle.wf_frames.specs.declared.target.Target.TheVariants as target

-- the workflows of its program and their parts, no layer outside, and the limit of the first rules
abbrev pub around : Program → Around
around p = record { flows = p.flows; spots = spots p.flows; keys = []; limit = (limits 1).variables; rest = []; others = 0 }

-- what each call names stands at the call's own number, and the workflow of each predicate at that of its `try`
abbrev pub Aims : Program → List Node → List Target → Type 0
Aims p nodes targets = AreTargets p.flows (spots p.flows) nodes targets

IsWorkflow-prop : (fs : List Flow) (ns : List Spot) (n : ℕ) (x : Text) → IsProp (IsWorkflow fs ns n x)
IsWorkflow-prop fs ns n x = λ g h i. record {
  named = Coded-set coded_bool (is_some (flow fs x)) true g.named h.named i;
  part = Part-set (part_at ns n) (flow_part (flow fs x)) g.part h.part i;
}

IsFunction-prop : (fs : List Flow) (f : Function) (x : Text) → IsProp (IsFunction fs f x)
IsFunction-prop fs f x = λ g h i. record {
  free = Coded-set coded_bool (is_some (flow fs x)) false g.free h.free i;
  named = Coded-set (hlevel codes) (option_map listed (func_named x)) (Some (function_parts f)) g.named h.named i;
}

IsHttp-prop : (fs : List Flow) (m : Option Method) (x : Text) → IsProp (IsHttp fs m x)
IsHttp-prop fs m x = λ g h i. record {
  free = Coded-set coded_bool (is_some (flow fs x)) false g.free h.free i;
  unlisted = Coded-set coded_bool (is_some (func_named x)) false g.unlisted h.unlisted i;
  named = Coded-set (hlevel codes) (http_method (special_named x)) (Some (option_map plain_method m)) g.named h.named i;
}

IsNap-prop : (fs : List Flow) (b : Nap) (x : Text) → IsProp (IsNap fs b x)
IsNap-prop fs b x = λ g h i. record {
  free = Coded-set coded_bool (is_some (flow fs x)) false g.free h.free i;
  unlisted = Coded-set coded_bool (is_some (func_named x)) false g.unlisted h.unlisted i;
  named = Coded-set (hlevel codes) (option_map (λ e. e.special) (special_named x)) (Some (nap_special b)) g.named h.named i;
}

IsLog-prop : (fs : List Flow) (x : Text) → IsProp (IsLog fs x)
IsLog-prop fs x = λ g h i. record {
  free = Coded-set coded_bool (is_some (flow fs x)) false g.free h.free i;
  unlisted = Coded-set coded_bool (is_some (func_named x)) false g.unlisted h.unlisted i;
  named = Coded-set (hlevel codes) (option_map (λ (e : SpecialListing). e.special) (special_named x)) (Some SysLog) g.named h.named i;
}

IsTarget-prop : (fs : List Flow) (ns : List Spot) (o : Option Target) (x : Text) → IsProp (IsTarget fs ns o x)
IsTarget-prop fs ns None x = λ g h. absurd g
IsTarget-prop fs ns (Some (target.Flow n)) x = IsWorkflow-prop fs ns n x
IsTarget-prop fs ns (Some (target.Function f)) x = IsFunction-prop fs f x
IsTarget-prop fs ns (Some (target.Http m)) x = IsHttp-prop fs m x
IsTarget-prop fs ns (Some (target.Sleeps b)) x = IsNap-prop fs b x
IsTarget-prop fs ns (Some target.Log) x = IsLog-prop fs x

IsAsked-prop : (fs : List Flow) (ns : List Spot) (o : Option Target) (x : Text) → IsProp (IsAsked fs ns o x)
IsAsked-prop fs ns None x = λ g h. absurd g
IsAsked-prop fs ns (Some (target.Flow n)) x = IsWorkflow-prop fs ns n x
IsAsked-prop fs ns (Some (target.Function f)) x = λ g h. absurd g
IsAsked-prop fs ns (Some (target.Http m)) x = λ g h. absurd g
IsAsked-prop fs ns (Some (target.Sleeps b)) x = λ g h. absurd g
IsAsked-prop fs ns (Some target.Log) x = λ g h. absurd g

pub Aims-prop : (p : Program) (nodes : List Node) (targets : List Target) → IsProp (Aims p nodes targets)
Aims-prop p nodes targets = λ g h i. record {
  calls = Π_prop (λ n. Π_prop (λ x. Π_prop (λ f. →_prop (→_prop (IsTarget-prop p.flows (spots p.flows) (slice_get targets n) f.name))))) g.calls h.calls i;
  asks = Π_prop (λ n. Π_prop (λ x. Π_prop (λ t. Π_prop (λ y. Π_prop (λ f. →_prop (→_prop (→_prop (→_prop (IsAsked-prop p.flows (spots p.flows) (slice_get targets n) f))))))))) g.asks h.asks i;
}

-- what a node calls is this, and so is what its predicate asks
pub record Says (fs : List Flow) (ns : List Spot) (x : Node) (t : Target) : Type 0 where
  pub call : (f : CallNode) → x.kind ≡ kind.Call f → IsTarget fs ns (Some t) f.name
  pub ask : (y : TryNode) (p : Policy) (f : Text) → x.kind ≡ kind.Try y → y.policy ≡ Some p → p.predicate ≡ predicate.Flow f → IsAsked fs ns (Some t) f

-- ## The configuration
-- a broken machine shows no tasks
abbrev pub shown_tasks : Bool → Program → List (ℕ × Status) → List Task → Scopes → List (ℕ × model.Task)
shown_tasks true p es ts x = []
shown_tasks false p es ts x = tasks_view p es ts x

abbrev pub config_of : Bool → Program → Facts → Tally → Table → List Task → Scopes → List Call → Log → Ending → Config
config_of broken p f y tb ts x calls log e = record {
  facts = facts_view f;
  tasks = shown_tasks broken p tb.live ts x;
  made = tb.made;
  calls = calls;
  endpoints = [];
  log = entries_of log;
  moves = y.moves;
  bodies = y.bodies;
  last = y.last;
  outcome = outcome_by e;
}

-- what a task has still to do
abbrev pub task_control : Program → Task → List Item
task_control p t = control_in (spots p.flows) t.wait (control_of (around p) t.frames)

-- ## Where it stands
-- `main` alone is live, in no parallel step, or no task is; so far no branch begins
abbrev pub is_lone : List (ℕ × Status) → Bool
is_lone [] = true
is_lone (e ∷ []) = nat_eq e.0 0 && (is_none e.1.parent && is_none e.1.join)
is_lone (e ∷ f ∷ es) = false

-- all live tasks stand where an accepted program has places for them, and their calls are awaited
abbrev pub HasStood : Program → Config → Type 0
HasStood p c = Stands p c × Sound c

-- `main` where it begins
abbrev pub IsStandingFirst : Program → List Node → Option Task → Scopes → Type 0
IsStandingFirst p nodes None x = Unit {0}
IsStandingFirst p nodes (Some t) x = Standing (around p) nodes t.frames x × CanGoOn nodes t

-- and which tasks are live then, with the ending
abbrev pub Lives : Option Task → Tasks → List Task → Ending → Type 0
Lives None tb ts e = (table_of tb ≡ record new_table { live = [] }) × (ts ≡ []) × (e ≡ ending.Returned value.Null)
Lives (Some t) tb ts e = (table_of tb ≡ new_table) × (ts ≡ t ∷ []) × (e ≡ ending.Running)

-- ## Where it begins, and what it leaves
-- before the steps of `main`, settled
abbrev pub first_local : Program → Data → Local
first_local p v = settle (Do (main_steps p.flows) (main_steps p.flows) ∷ []) (main_local p v)

abbrev pub Begins : Program → Data → Option Task → Scopes → Type 0
Begins p v None x = (first_local p v).control ≡ []
Begins p v (Some t) x = (first_local p v ≡ task_local (around p) t x) × (is_awake_in t.wait ≡ true)

-- the outcome behind an end of `main`, and behind what it has done; the calls; and the log
abbrev pub outcome_at : End → Outcome
outcome_at (end.Value v) = Returned (plain v)
outcome_at (end.Error e) = Raised (plain e)

abbrev pub outcome_then : Behind → Outcome
outcome_then behind.Goes = Active
outcome_then (behind.Ended e) = outcome_at e

abbrev pub outcome_behind : Option Told → Outcome
outcome_behind None = Active
outcome_behind (Some (told.Ended e)) = outcome_at e
outcome_behind (Some (told.Sent x)) = Active
outcome_behind (Some (told.Logged x w)) = outcome_then w
outcome_behind (Some (told.Forked f)) = Active

-- whether it stands in a parallel step then
abbrev pub is_forked : Option Told → Bool
is_forked (Some (told.Forked f)) = true
is_forked m = false

abbrev pub calls_behind : ℕ → Option Told → List Call → List Call
calls_behind b (Some (told.Sent x)) calls = calls ++ Open b (request_view x.value.request) x.value.due ∷ []
calls_behind b m calls = calls

abbrev pub log_behind : ℕ → Option Told → List LogEntry → List LogEntry
log_behind reading (Some (told.Logged x w)) log = log ++ logged_at reading x.value ∷ []
log_behind reading m log = log

-- how deep nests what it has logged
abbrev pub logged_depth : Option Told → ℕ
logged_depth (Some (told.Logged x w)) = depth (plain x.value.value)
logged_depth m = 0
