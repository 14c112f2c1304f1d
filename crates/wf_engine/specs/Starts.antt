-- What a `run` starts an execution with.
--     said_argument    the value that the word of `--args` says
--     HasArgument      it says one, within the limit
--     kept_routes      the routes that its words of `--route` say; its environment is `env_of`
--     start_of         the start of a line, of a source and of a reading
use Rattle.std.specs.Prelude.{◌≡◌, ◌<◌, ◌≤◌, ℕ, List, [], ◌∷◌, length, map, Option, Some, unwrap_or, decimal}
use Rattle.std.specs.Option.{option_map_or}
use Rattle.wf_alone.specs.Machine.{argument_of}
use Rattle.wf_args.specs.Lines.{PlainLine, PlainRoute, env_of, routes_of, word_of}
use Rattle.wf_args.specs.declared.option.OptionName.TheVariants.{Args, Id}
use Rattle.wf_events.specs.Spelling.{IsArgument}
use Rattle.wf_value.specs.Events.{Address, Routes, Start}
use Rattle.wf_value.specs.Data.{Data, null, size}
use Rattle.wf_value.specs.Decode.{json_value}
use Rattle.wf_value.specs.Json.{json_text}

-- ## The argument
-- the value that the word of `--args` says, and null without the option; none where the word is no JSON of a value
abbrev pub said_argument : PlainLine → Option Data
said_argument l = option_map_or json_value (word_of Args l) (Some null)

-- there is such a value, and it counts at most 32,768
abbrev pub HasArgument : PlainLine → Type 0
HasArgument l = (v : Data) × (said_argument l ≡ Some v) × (size v ≤ 32768)

-- what JSON writes of it
abbrev pub argument_text : PlainLine → List ℕ
argument_text l = json_text (unwrap_or (said_argument l) null)

-- ## The routes
-- a host, and the address to which its calls are sent
abbrev pub kept_route : PlainRoute → List ℕ × Address
kept_route r = (r.host, record { name = r.name; port = r.port })

-- those of a line, in order
abbrev pub kept_routes : PlainLine → Routes
kept_routes l = map kept_route (routes_of l)

-- ## The start
-- the line's id, or else `w` and the first reading; its argument, its routes and its environment; and no address for callbacks yet
abbrev pub start_of : PlainLine → List ℕ → ℕ → Start
start_of l source reading = record {
  rules = 1;
  id = unwrap_or (word_of Id l) (119 ∷ decimal reading);
  source = source;
  argument = argument_text l;
  routes = kept_routes l;
  env = env_of l;
  base = [];
  reading = reading;
}

-- ## Laws
-- the value that an execution is started with is the one that the word says
abbrev pub ArgumentComesBack : Type 0
ArgumentComesBack = (l : PlainLine) (source : List ℕ) (reading : ℕ) → argument_of (start_of l source reading) ≡ unwrap_or (said_argument l) null

-- the text of such an argument may stand in a record, and is short
abbrev pub ArgumentIsSpelled : Type 0
ArgumentIsSpelled = (l : PlainLine) → HasArgument l → IsArgument (argument_text l) × (length (argument_text l) < 196608)
