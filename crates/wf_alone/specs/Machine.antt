-- A configuration in which `main` is the only task.
--     Rest                     what it has beside its tasks and its outcome
--     main_task, main_local    the task, at a control, with layers of its own and a wait
--     config_by, main_at       a configuration of some live tasks, and of that one
--     facts_of, argument_of    what a start tells
use Rattle.std.specs.Prelude.{ℕ, List, [], ◌∷◌, None, unwrap_or}
use Rattle.wf_model.specs.Config.{Active, Call, Config, Facts, Item, Layer, LogEntry, Outcome, Wait}
use Rattle.wf_model.specs.Config as model
use Rattle.wf_model.specs.Local.{Local}
use Rattle.wf_value.specs.Events.{Start}
use Rattle.wf_value.specs.Data.{Data, null}
use Rattle.wf_value.specs.Decode.{json_value}

-- what a configuration has beside its tasks and its outcome, where one task alone was made, and nothing was awaited
pub record Rest : Type 0 where
  pub facts : Facts
  pub last : ℕ
  pub calls : List Call
  pub log : List LogEntry
  pub moves : ℕ
  pub bodies : ℕ

-- `main`'s task
abbrev pub main_task : List Item → List Layer → Wait → model.Task
main_task control layers wait = record { parent = None; control = control; layers = layers; wait = wait }

-- a configuration of these live tasks
abbrev pub config_by : Rest → List (ℕ × model.Task) → Outcome → Config
config_by rest tasks outcome = record {
  facts = rest.facts;
  tasks = tasks;
  made = 1;
  calls = rest.calls;
  endpoints = [];
  log = rest.log;
  moves = rest.moves;
  bodies = rest.bodies;
  last = rest.last;
  outcome = outcome;
}

-- `main` alone is live
abbrev pub main_by : Rest → List Item → List Layer → Wait → Outcome → Config
main_by rest control layers wait outcome = config_by rest ((0, main_task control layers wait) ∷ []) outcome

-- `main` stands at this control, with these layers, and waits so
abbrev pub main_at : Rest → List Item → List Layer → Wait → Config
main_at rest control layers wait = main_by rest control layers wait Active

-- the task by itself, which sees no layer but its own
abbrev pub main_local : List Item → List Layer → Wait → Local
main_local control layers wait = record { control = control; layers = layers; outer = []; wait = wait }

-- ## From a start
-- what no event changes
abbrev pub facts_of : Start → Facts
facts_of s = record { id = s.id; routes = s.routes; env = s.env; base = s.base; rules = s.rules }

-- before the first event
abbrev pub rest_of : Start → Rest
rest_of s = record { facts = facts_of s; last = s.reading; calls = []; log = []; moves = 0; bodies = 0 }

-- what `main` is given
abbrev pub argument_of : Start → Data
argument_of s = unwrap_or (json_value s.argument) null
