-- Command lines: the line that some words are, and the number of the word at which they begin none.
use Rattle.std.specs.Prelude.{ℕ, suc, Bool, true, not, ◌&&◌, ◌||◌, nat_lt, nat_le, ◌==◌, if◌then◌else◌, List, [], ◌∷◌, ◌++◌, length, map, find, count_by, Option, Some, None, is_some, unwrap_or, Result, Ok, Err, codes, option_and_then, String, string_bytes, bytes_eq, slice_index}
use Rattle.std.specs.List.{list_all, list_any, cons_option, filter_map, before_first, after_first}
use Rattle.std.specs.Option.{option_map, option_map_or}
use Rattle.std.specs.Str.{all_ascii_digits}
use Rattle.std.specs.Str.Parse.{digits_value}
use Rattle.std.specs.declared.alloc.Global.{Global}
use Rattle.wf_args.specs.declared.command.Command.{Command}
use Rattle.wf_args.specs.declared.command.Command.TheVariants.{Check, Format, Run, Resume, Show, At, Log, Help, Version}
use Rattle.wf_args.specs.declared.option.OptionName.{OptionName}
use Rattle.wf_args.specs.declared.option.OptionName.TheVariants.{Source, Journal, Args, Id, Route, Env, Waits, Turn, Grep}

-- words as their bytes
abbrev pub words_view : List (String Global) → List (List ℕ)
words_view words = map string_bytes words

-- a line as contracts see it: its command, and its options with their words, in order
pub record PlainLine : Type 0 where
  pub command : Command
  pub options : List (OptionName × List ℕ)

-- ## The tables

-- the commands, and the word of each
abbrev pub commands : List Command
commands = Check ∷ Format ∷ Run ∷ Resume ∷ Show ∷ At ∷ Log ∷ Help ∷ Version ∷ []

abbrev pub command_word : Command → List ℕ
command_word Check = codes "check"
command_word Format = codes "format"
command_word Run = codes "run"
command_word Resume = codes "resume"
command_word Show = codes "show"
command_word At = codes "at"
command_word Log = codes "log"
command_word Help = codes "--help"
command_word Version = codes "--version"

-- the options, and the name of each
abbrev pub names : List OptionName
names = Source ∷ Journal ∷ Args ∷ Id ∷ Route ∷ Env ∷ Waits ∷ Turn ∷ Grep ∷ []

abbrev pub name_word : OptionName → List ℕ
name_word Source = codes "--source"
name_word Journal = codes "--journal"
name_word Args = codes "--args"
name_word Id = codes "--id"
name_word Route = codes "--route"
name_word Env = codes "--env"
name_word Waits = codes "--waits"
name_word Turn = codes "--turn"
name_word Grep = codes "--grep"

-- the options that a command takes
abbrev pub options_of : Command → List OptionName
options_of Check = Source ∷ []
options_of Format = Source ∷ []
options_of Run = Source ∷ Journal ∷ Args ∷ Id ∷ Route ∷ Env ∷ Waits ∷ []
options_of Resume = Journal ∷ Waits ∷ []
options_of Show = Journal ∷ []
options_of At = Journal ∷ Turn ∷ []
options_of Log = Journal ∷ Grep ∷ []
options_of Help = []
options_of Version = []

-- the options that it can't do without
abbrev pub required : Command → List OptionName
required At = Turn ∷ []
required c = []

-- how often an option may stand
abbrev pub most : OptionName → ℕ
most Route = 20
most Env = 20
most n = 1

-- a letter, a digit, `.`, `_` or `-`
abbrev pub is_id_byte : ℕ → Bool
is_id_byte b = (nat_le 48 b && nat_le b 57) || (nat_le 65 b && nat_le b 90) || (nat_le 97 b && nat_le b 122) || b == 46 || b == 95 || b == 45

-- the most bytes of a path, of the word of a route or of the environment, and of a text to be found
abbrev pub longest_word : ℕ
longest_word = 65536

-- a path
abbrev pub is_path : List ℕ → Bool
is_path word = nat_lt 0 (length word) && nat_le (length word) longest_word

-- the number that decimal digits write, of which the first isn't 0, where it is at most so large
abbrev pub number_to : ℕ → List ℕ → Option ℕ
number_to greatest word =
    if all_ascii_digits word && nat_lt 48 (slice_index word 0) && nat_le (digits_value 10 word) greatest then Some (digits_value 10 word) else None

-- the number that the word of `--waits` says: 1 to 1,000,000,000
abbrev pub waits_in : List ℕ → Option ℕ
waits_in word = number_to 1000000000 word

-- the number that the word of `--turn` says: 0 to 4,294,967,295
abbrev pub turn_in : List ℕ → Option ℕ
turn_in word = if bytes_eq word (codes "0") then Some 0 else number_to 4294967295 word

-- a route: calls for this host are sent to this name and port
pub record PlainRoute : Type 0 where
  pub host : List ℕ
  pub name : List ℕ
  pub port : ℕ

-- the parts of HOST=NAME:PORT: HOST goes up to the first `=`, NAME from there up to the next `:`, and the rest is PORT
abbrev pub is_equals : ℕ → Bool
is_equals b = b == 61

abbrev pub is_colon : ℕ → Bool
is_colon b = b == 58

abbrev pub host_in : List ℕ → List ℕ
host_in word = before_first is_equals word

abbrev pub name_in : List ℕ → List ℕ
name_in word = before_first is_colon (after_first is_equals word)

abbrev pub port_in : List ℕ → List ℕ
port_in word = after_first is_colon (after_first is_equals word)

-- neither HOST nor NAME is empty, and NAME has no `=`
abbrev pub has_names : List ℕ → Bool
has_names word = nat_lt 0 (length (host_in word)) && nat_lt 0 (length (name_in word)) && list_all (λ b. not (is_equals b)) (name_in word)

-- the route that the word of `--route` says: such a HOST and NAME, and 1 to 65,535 as PORT
abbrev pub route_in : List ℕ → Option PlainRoute
route_in word =
    if nat_le (length word) longest_word && has_names word
    then option_map (λ port. record { host = host_in word; name = name_in word; port = port }) (number_to 65535 (port_in word)) else None

-- a pair of the environment: KEY goes up to the first `=`, and VALUE is the rest
abbrev pub key_in : List ℕ → List ℕ
key_in word = before_first is_equals word

abbrev pub value_in : List ℕ → List ℕ
value_in word = after_first is_equals word

-- the pair that the word of `--env` says: there is a `=`, and KEY isn't empty
abbrev pub env_in : List ℕ → Option (List ℕ × List ℕ)
env_in word =
    if list_any is_equals word && nat_le (length word) longest_word && nat_lt 0 (length (key_in word)) then Some (key_in word, value_in word) else None

-- the words that may stand behind an option's name
abbrev pub is_word : OptionName → List ℕ → Bool
is_word Source word = is_path word
is_word Journal word = is_path word
is_word Args word = nat_le (length word) longest_word
is_word Id word = nat_lt 0 (length word) && nat_le (length word) 64 && list_all is_id_byte word
is_word Route word = is_some (route_in word)
is_word Env word = is_some (env_in word)
is_word Waits word = is_some (waits_in word)
is_word Turn word = is_some (turn_in word)
is_word Grep word = nat_le (length word) longest_word

-- ## Reading

-- the command that a word names, and the option
abbrev pub command_of : List ℕ → Option Command
command_of word = find (λ c. bytes_eq word (command_word c)) commands

abbrev pub name_of : List ℕ → Option OptionName
name_of word = find (λ n. bytes_eq word (name_word n)) names

abbrev pub same_name : OptionName → OptionName → Bool
same_name m n = bytes_eq (name_word m) (name_word n)

-- how often an option stands among these
abbrev pub count : OptionName → List (OptionName × List ℕ) → ℕ
count n options = count_by (λ o. same_name o.0 n) options

-- an option of the command that doesn't stand as often as it may yet
abbrev pub may_stand : Command → List (OptionName × List ℕ) → OptionName → Bool
may_stand c options n = list_any (same_name n) (options_of c) && nat_lt (count n options) (most n)

-- none of those that the command can't do without is missing
abbrev pub is_complete : Command → List (OptionName × List ℕ) → Bool
is_complete c options = list_all (λ n. nat_lt 0 (count n options)) (required c)

-- the option that a word names, where it may stand behind these
abbrev pub next_name : Command → List (OptionName × List ℕ) → List ℕ → Option OptionName
next_name c options word = option_and_then (λ n. if may_stand c options n then Some n else None) (name_of word)

-- the line of a command and the options so far, going on with these words, of which the first has number n
abbrev pub options_at : Command → ℕ → List (OptionName × List ℕ) → List (List ℕ) → Result PlainLine ℕ
options_at c n options [] = if is_complete c options then Ok (record { command = c; options = options }) else Err n
options_at c n options (name ∷ []) = option_map_or (λ o. Err (suc n)) (next_name c options name) (Err n)
options_at c n options (name ∷ word ∷ words) =
    option_map_or (λ o. if is_word o word then options_at c (suc (suc n)) (options ++ (o, word) ∷ []) words else Err (suc n)) (next_name c options name) (Err n)

-- the line that some words are, or the number of the word at which they begin none
unfoldable pub line_of : List (List ℕ) → Result PlainLine ℕ
line_of [] = Err 0
line_of (word ∷ words) = option_map_or (λ c. options_at c 1 [] words) (command_of word) (Err 0)

-- ## The words of options

-- the word of the first option of this name
abbrev pub first_word : OptionName → List (OptionName × List ℕ) → Option (List ℕ)
first_word n options = option_and_then (λ o. Some o.1) (find (λ o. same_name o.0 n) options)

abbrev pub word_of : OptionName → PlainLine → Option (List ℕ)
word_of n l = first_word n l.options

-- all words of the options of this name, in order
abbrev pub all_words : OptionName → List (OptionName × List ℕ) → List (List ℕ)
all_words n options = filter_map (λ o. if same_name o.0 n then Some o.1 else None) options

-- the routes of a line, in order
abbrev pub routes_of : PlainLine → List PlainRoute
routes_of l = filter_map route_in (all_words Route l.options)

-- the pairs of the environment of a line, in order
abbrev pub env_of : PlainLine → List (List ℕ × List ℕ)
env_of l = filter_map env_in (all_words Env l.options)

-- after how many turns: as `--turn` says, or else 0
abbrev pub turn_of : PlainLine → ℕ
turn_of l = unwrap_or (option_and_then turn_in (word_of Turn l)) 0

-- how often a command may wait: as often as `--waits` says, or else 1,000,000 times
abbrev pub waits_of : PlainLine → ℕ
waits_of l = unwrap_or (option_and_then waits_in (word_of Waits l)) 1000000

-- the options of words that stand in pairs, a name and its word
abbrev pub options_in : List (List ℕ) → List (OptionName × List ℕ)
options_in [] = []
options_in (name ∷ []) = []
options_in (name ∷ word ∷ words) = cons_option (option_and_then (λ n. Some (n, word)) (name_of name)) (options_in words)

-- of words that stand in pairs, the second of each pair whose first word is this one
abbrev pub words_after : List ℕ → List (List ℕ) → List (List ℕ)
words_after name [] = []
words_after name (option ∷ []) = []
words_after name (option ∷ word ∷ words) = if bytes_eq option name then word ∷ words_after name words else words_after name words

-- of words that stand in pairs, the second of the first pair whose first word is this one
abbrev pub word_after : List ℕ → List (List ℕ) → Option (List ℕ)
word_after name [] = None
word_after name (option ∷ []) = None
word_after name (option ∷ word ∷ words) = if bytes_eq option name then Some word else word_after name words

-- the same of the words behind a command
abbrev pub word_behind : List ℕ → List (List ℕ) → Option (List ℕ)
word_behind name [] = None
word_behind name (command ∷ words) = word_after name words
