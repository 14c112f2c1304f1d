-- A task taken out of a configuration for its move, and put back.
--     scene, local      what a move reads
--     merged            what it comes to in the configuration
--     by_itself         one task's move as a whole
use Rattle.std.specs.Prelude.{ℕ, zero, suc, ◌+◌, ◌-◌, List, [], ◌∷◌, ◌++◌, length, drop, if◌then◌else◌, nat_eq, nat_lt, Some, None, Option}
use Rattle.wf_ast.specs.Tree.{parallel, OfLoop, Program}
use Rattle.wf_model.specs.Config.{Layer, Item, Task, Open, LogEntry, Outcome, Returned, Raised, Config, After, To, Wrong, NotNow, drop_in, task, with_task}
use Rattle.wf_model.specs.Local.{Outer, Local, Root, Main, Branch, Iteration, Scene, End, Gives, Fails, Effect, Sends, Creates, Takes, Logs, Moved, Goes, Ends, Does, Breaks, Not, layers_total, outers_total}
use Rattle.wf_model.specs.Move.{due}
use Rattle.wf_value.specs.Data.{Data, size}
use Rattle.wf_value.specs.Events.{Visitor}
use Rattle.wf_value.specs.Pairs.{Text}
use Rattle.wf_value.specs.Queues.{with_queue, queue_of}

-- ## A task taken out of a configuration
-- the names that the parallel step shares in which the task stands
abbrev pub step_shares : List Item → List Text
step_shares (Item.Join (parallel names limit b) w n r es ∷ k) = names
step_shares k = []

-- a task's layers as another one sees them: to the innermost that a call opened, and past them where there is none
abbrev pub outers : ℕ → ℕ → List Layer → List (List Text) → List Outer → List Outer
outers b n [] shared rest = rest
outers b n (l ∷ ls) shared rest =
    record { task = b; above = n; layer = l; shared = shared } ∷ (if l.by_call then [] else outers b (suc n) ls shared rest)

-- what a task sees outside. A parent has a smaller number, so there are at most as many as the task's number says
abbrev pub outside : ℕ → Config → Option (ℕ × ℕ) → List (List Text) → List Outer
outside zero c parent shared = []
outside (suc n) c None shared = []
outside (suc n) c (Some p) shared =
    elim (task c p.0) [ None ↦ [] | Some t ↦ outers p.0 0 t.layers (step_shares t.control ∷ shared) (outside n c t.parent (step_shares t.control ∷ shared)) ]

-- the task by itself
abbrev pub local : Config → ℕ → Task → Local
local c b t = record { control = t.control; layers = t.layers; outer = outside b c t.parent []; wait = t.wait }

-- a parallel step's task is a branch or an iteration
abbrev pub root_in : List Item → Root
root_in (Item.Join (parallel names limit (OfLoop l)) w n r es ∷ k) = Iteration
root_in k = Branch

abbrev pub root : Config → Option (ℕ × ℕ) → Root
root c None = Main
root c (Some p) = elim (task c p.0) [ None ↦ Branch | Some t ↦ root_in t.control ]

-- how many parallel steps the task stands in, which is the number of its parents
abbrev pub nesting : ℕ → Config → Option (ℕ × ℕ) → ℕ
nesting zero c parent = 0
nesting (suc n) c None = 0
nesting (suc n) c (Some p) = elim (task c p.0) [ None ↦ 1 | Some t ↦ suc (nesting n c t.parent) ]

-- the total of the variables in the layers of these tasks
abbrev pub tasks_total : List (ℕ × Task) → ℕ
tasks_total [] = 0
tasks_total (t ∷ ts) = layers_total t.1.layers + tasks_total ts

-- the size of all logged values
abbrev pub log_total : List LogEntry → ℕ
log_total [] = 0
log_total (e ∷ es) = size e.value + log_total es

-- the oldest request of a queue
abbrev pub first_visitor : List Visitor → Option Visitor
first_visitor [] = None
first_visitor (v ∷ vs) = Some v

-- what the move of task b reads beside the task
abbrev pub scene : Program → Config → ℕ → Task → ℕ → Scene
scene p c b t now = record {
  program = p;
  facts = c.facts;
  calls = length c.calls;
  endpoints = length c.endpoints;
  logged = log_total c.log;
  oldest = λ n. first_visitor (queue_of c.endpoints n);
  root = root c t.parent;
  nesting = nesting b c t.parent;
  others = tasks_total c.tasks - (layers_total t.layers + outers_total (outside b c t.parent []));
  last = c.last;
  now = now;
}

-- ## And put back
-- with this layer in place of the one that stands so many further out
abbrev pub layer_at : ℕ → Layer → List Layer → List Layer
layer_at n x [] = []
layer_at zero x (l ∷ ls) = x ∷ ls
layer_at (suc n) x (l ∷ ls) = l ∷ layer_at n x ls

-- the layers outside go back to their tasks
abbrev pub put_outer : List Outer → Config → Config
put_outer [] c = c
put_outer (o ∷ os) c =
    elim (task c o.task) [ None ↦ put_outer os c | Some t ↦ put_outer os (with_task o.task (record t { layers = layer_at o.above o.layer t.layers }) c) ]

-- the task and the layers that it sees go back
abbrev pub put_back : ℕ → Local → Config → Config
put_back b l c =
    elim (task c b) [ None ↦ c | Some t ↦ put_outer l.outer (with_task b (record t { control = l.control; layers = l.layers; wait = l.wait }) c) ]

-- without this number
abbrev pub drop_number : ℕ → List ℕ → List ℕ
drop_number b [] = []
drop_number b (n ∷ ns) = if nat_eq b n then ns else n ∷ drop_number b ns

-- with this error of branch n, by rising numbers
abbrev pub put_error : ℕ → Data → List (ℕ × Data) → List (ℕ × Data)
put_error n e [] = (n, e) ∷ []
put_error n e (x ∷ xs) = if nat_lt n x.0 then (n, e) ∷ x ∷ xs else x ∷ put_error n e xs

-- a branch's value is dropped, and its error is kept
abbrev pub kept_error : ℕ → End → List (ℕ × Data) → List (ℕ × Data)
kept_error n (Gives v) es = es
kept_error n (Fails e) es = put_error n e es

-- a branch counts as ended in the parallel step in which its parent stands
abbrev pub joined : ℕ → ℕ → End → List Item → List Item
joined b n e (Item.Join body w m running errors ∷ k) = Item.Join body w m (drop_number b running) (kept_error n e errors) ∷ k
joined b n e k = k

-- without a live task
abbrev pub without_task : ℕ → Config → Config
without_task b c = record c { tasks = drop_in b c.tasks }

-- what the end of task 0 is to the execution
abbrev pub outcome_of : End → Outcome
outcome_of (Gives v) = Returned v
outcome_of (Fails e) = Raised e

-- an ended task leaves with its layers
abbrev pub finish : ℕ → Option (ℕ × ℕ) → End → Config → Config
finish b None e c = record (without_task b c) { outcome = outcome_of e }
finish b (Some p) e c =
    elim (task c p.0) [ None ↦ without_task b c | Some t ↦ with_task p.0 (record t { control = joined b p.1 e t.control }) (without_task b c) ]

-- what a move does beside the task
abbrev pub done : ℕ → Effect → Config → Config
done b (Sends q due) c = record c { calls = c.calls ++ Open b q due ∷ [] }
done b (Creates m) c = record c { endpoints = c.endpoints ++ record { method = m; queue = [] } ∷ [] }
done b (Takes n) c = record c { endpoints = with_queue n (drop 1 (queue_of c.endpoints n)) c.endpoints }
done b (Logs severity v) c = record c { log = c.log ++ record { reading = c.last; severity = severity; value = v } ∷ [] }

-- what a move comes to in the configuration
abbrev pub merged : ℕ → Option (ℕ × ℕ) → Moved → Config → After
merged b parent (Goes l) c = To (put_back b l c)
merged b parent (Ends e l) c = To (finish b parent e (put_outer l.outer c))
merged b parent (Does x m) c = merged b parent m (done b x c)
merged b parent (Breaks kind) c = Wrong kind
merged b parent Not c = NotNow

-- the task goes on by itself, and what it comes to is put back
abbrev pub by_itself : Program → ℕ → ℕ → (Scene → Local → Moved) → Config → After
by_itself p b now f c =
    elim (task c b) [ None ↦ NotNow | Some t ↦ merged b t.parent (f (scene p c b t now) (local c b t)) c ]
