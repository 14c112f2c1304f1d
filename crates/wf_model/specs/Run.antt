-- Runs: the first configuration, and what a list of events leads to.
--     initial, run, Run      from an execution's start
--     run_on                 from anywhere
--     config_at              after the turns of a journal up to a session and its waits
use Rattle.std.specs.Prelude.{◌≡◌, ℕ, Bool, false, ◌&&◌, ◌||◌, List, [], ◌∷◌, ◌++◌, if◌then◌else◌, nat_eq, nat_lt, nat_le, None, unwrap_or}
use Rattle.wf_ast.specs.Tree.{Steps, no_steps, Param, Flow, Program}
use Rattle.wf_model.specs.Config.{Do, Awake, Task, Active, Config, After, To, Wrong, NotNow}
use Rattle.wf_model.specs.Local.{Local, goes, waits}
use Rattle.wf_model.specs.Step.{next}
use Rattle.wf_model.specs.Taken.{merged}
use Rattle.wf_value.specs.Data.{Data, null, Pairs, no_pairs, pair}
use Rattle.wf_value.specs.Decode.{json_value}
use Rattle.wf_value.specs.Events.{Event, Turn, Start}

-- the steps of `main`, which is the first workflow
abbrev pub main_steps : List Flow → Steps
main_steps [] = no_steps
main_steps (f ∷ fs) = f.steps

-- `main`'s parameter is bound to the argument; without one the argument is ignored
abbrev pub argument_in : List Param → Data → Pairs
argument_in [] v = no_pairs
argument_in (x ∷ xs) v = pair x.name v no_pairs

-- the variables of `main`'s layer
abbrev pub main_vars : List Flow → Data → Pairs
main_vars [] v = no_pairs
main_vars (f ∷ fs) v = argument_in f.params v

-- task 0 before it stands anywhere
abbrev pub main_task : Task
main_task = record { parent = None; control = []; layers = []; wait = Awake }

-- with the one layer of `main`, which no call opened
abbrev pub main_local : Program → Data → Local
main_local p argument = record {
  control = [];
  layers = record { vars = main_vars p.flows argument; by_call = false } ∷ [];
  outer = [];
  wait = Awake;
}

-- what the start tells, before task 0 stands anywhere
abbrev pub empty : Start → Config
empty s = record {
  facts = record { id = s.id; routes = s.routes; env = s.env; base = s.base; rules = s.rules };
  tasks = (0, main_task) ∷ [];
  made = 1;
  calls = [];
  endpoints = [];
  log = [];
  moves = 0;
  bodies = 0;
  last = s.reading;
  outcome = Active;
}

-- task 0 stands before `main`'s steps, settled: a `main` without steps has ended at once
abbrev pub initial : Program → Start → After
initial p s = merged 0 None (goes (Do (main_steps p.flows) (main_steps p.flows) ∷ []) (main_local p (unwrap_or (json_value s.argument) null))) (empty s)

-- where a list of events leads
abbrev pub run_on : Program → After → List Event → After
run_on p a [] = a
run_on p (To c) (e ∷ es) = run_on p (next p c e) es
run_on p (Wrong k) (e ∷ es) = NotNow
run_on p NotNow (e ∷ es) = NotNow

-- the same from the start of an execution
abbrev pub run : Program → Start → List Event → After
run p s es = run_on p (initial p s) es

-- the events lead from the start to the configuration, each by a step
abbrev pub Run : Program → Start → List Event → Config → Type 0
Run p s es c = run p s es ≡ To c

-- ## The configuration after the turns of a journal up to a session and its waits
-- a turn of an earlier session, or of this one with at most so many waits
abbrev pub is_before : ℕ → ℕ → Turn → Bool
is_before session waits t = nat_lt t.session session || (nat_eq t.session session && nat_le t.waits waits)

-- the events of these turns, in order
abbrev pub events_to : ℕ → ℕ → List Turn → List Event
events_to session waits [] = []
events_to session waits (t ∷ ts) =
    if is_before session waits t then t.events ++ events_to session waits ts else events_to session waits ts

-- where they lead
abbrev pub config_at : Program → Start → List Turn → ℕ → ℕ → After
config_at p s ts session waits = run p s (events_to session waits ts)
