-- Lines carried out by the check.
use Rattle.std.specs.Prelude.{◌≡◌, ℕ, List, [], ◌∷◌, Ok, Err, Some, None, codes}
use Rattle.wf_args.specs.declared.command.Command.{Command}
use Rattle.wf_args.specs.declared.command.Command.TheVariants.{Check, Run, Resume, Show, At, Log, Help}
use Rattle.wf_args.specs.declared.option.OptionName.{OptionName}
use Rattle.wf_args.specs.declared.option.OptionName.TheVariants.{Source, Journal, Args, Route, Env, Waits, Turn, Grep}
use Rattle.wf_args.specs.Lines.{env_in, line_of, route_in, turn_in, waits_in}

-- the words are this line
abbrev pub IsLineOf : List (List ℕ) → Command → List (OptionName × List ℕ) → Type 0
IsLineOf words command options = line_of words ≡ Ok (record { command = command; options = options })

-- the words are bad at the word with this number
abbrev pub IsBadAt : List (List ℕ) → ℕ → Type 0
IsBadAt words n = line_of words ≡ Err n

pub record WorkedLines : Type 0 where
  pub check : IsLineOf (codes "check" ∷ codes "--source" ∷ codes "s" ∷ []) Check ((Source, codes "s") ∷ [])
  pub check_without_a_journal : IsBadAt (codes "check" ∷ codes "--journal" ∷ codes "j" ∷ []) 1
  pub run : IsLineOf (codes "run" ∷ []) Run []
  pub any_order : IsLineOf (codes "run" ∷ codes "--journal" ∷ codes "j" ∷ codes "--source" ∷ codes "s" ∷ []) Run ((Journal, codes "j") ∷ (Source, codes "s") ∷ [])
  pub any_argument : IsLineOf (codes "run" ∷ codes "--args" ∷ codes "{" ∷ []) Run ((Args, codes "{") ∷ [])
  pub empty_argument : IsLineOf (codes "run" ∷ codes "--args" ∷ codes "" ∷ []) Run ((Args, codes "") ∷ [])
  pub resume_from_memory : IsLineOf (codes "resume" ∷ []) Resume []
  pub help : IsLineOf (codes "--help" ∷ []) Help []
  pub nothing : IsBadAt [] 0
  pub further_word : IsBadAt (codes "run" ∷ codes "x" ∷ []) 1
  pub name_alone : IsBadAt (codes "run" ∷ codes "--source" ∷ []) 2
  pub twice : IsBadAt (codes "run" ∷ codes "--source" ∷ codes "a" ∷ codes "--source" ∷ codes "b" ∷ []) 3
  pub empty_path : IsBadAt (codes "run" ∷ codes "--source" ∷ codes "" ∷ []) 2
  pub id_with_a_slash : IsBadAt (codes "run" ∷ codes "--id" ∷ codes "a/b" ∷ []) 2
  pub two_arguments : IsBadAt (codes "run" ∷ codes "--args" ∷ codes "1" ∷ codes "--args" ∷ codes "1" ∷ []) 3
  pub argument_of_another_command : IsBadAt (codes "resume" ∷ codes "--args" ∷ codes "null" ∷ []) 1
  pub option_of_another_command : IsBadAt (codes "resume" ∷ codes "--source" ∷ codes "a" ∷ []) 1
  pub no_command : IsBadAt (codes "go" ∷ []) 0
  pub help_with_more : IsBadAt (codes "--help" ∷ codes "run" ∷ []) 1
  pub help_is_no_option : IsBadAt (codes "run" ∷ codes "--help" ∷ []) 1
  pub waits : IsLineOf (codes "resume" ∷ codes "--waits" ∷ codes "3" ∷ []) Resume ((Waits, codes "3") ∷ [])
  pub most_waits : IsLineOf (codes "run" ∷ codes "--waits" ∷ codes "1000000000" ∷ []) Run ((Waits, codes "1000000000") ∷ [])
  pub no_waits : IsBadAt (codes "run" ∷ codes "--waits" ∷ codes "0" ∷ []) 2
  pub too_many_waits : IsBadAt (codes "run" ∷ codes "--waits" ∷ codes "1000000001" ∷ []) 2
  pub waits_with_a_zero_in_front : IsBadAt (codes "run" ∷ codes "--waits" ∷ codes "03" ∷ []) 2
  pub waits_alone : IsBadAt (codes "run" ∷ codes "--waits" ∷ []) 2
  pub waits_twice : IsBadAt (codes "run" ∷ codes "--waits" ∷ codes "3" ∷ codes "--waits" ∷ codes "3" ∷ []) 3
  pub two_routes : IsLineOf (codes "run" ∷ codes "--route" ∷ codes "a=b:1" ∷ codes "--route" ∷ codes "a=b:1" ∷ []) Run ((Route, codes "a=b:1") ∷ (Route, codes "a=b:1") ∷ [])
  pub route_without_a_port : IsBadAt (codes "run" ∷ codes "--route" ∷ codes "a=b" ∷ []) 2
  pub route_of_resume : IsBadAt (codes "resume" ∷ codes "--route" ∷ codes "a=b:1" ∷ []) 1
  pub equal_keys : IsLineOf (codes "run" ∷ codes "--env" ∷ codes "a=1" ∷ codes "--env" ∷ codes "a=2" ∷ []) Run ((Env, codes "a=1") ∷ (Env, codes "a=2") ∷ [])
  pub key_without_a_value : IsBadAt (codes "run" ∷ codes "--env" ∷ codes "a" ∷ []) 2
  pub environment_of_resume : IsBadAt (codes "resume" ∷ codes "--env" ∷ codes "a=1" ∷ []) 1
  pub show : IsLineOf (codes "show" ∷ codes "--journal" ∷ codes "j" ∷ []) Show ((Journal, codes "j") ∷ [])
  pub turn_of_show : IsBadAt (codes "show" ∷ codes "--turn" ∷ codes "1" ∷ []) 1
  pub at_turn_0 : IsLineOf (codes "at" ∷ codes "--turn" ∷ codes "0" ∷ []) At ((Turn, codes "0") ∷ [])
  pub at_without_a_turn : IsBadAt (codes "at" ∷ codes "--journal" ∷ codes "j" ∷ []) 3
  pub two_turns : IsBadAt (codes "at" ∷ codes "--turn" ∷ codes "1" ∷ codes "--turn" ∷ codes "2" ∷ []) 3
  pub log : IsLineOf (codes "log" ∷ codes "--grep" ∷ codes "" ∷ []) Log ((Grep, codes "") ∷ [])

-- the word is this route
abbrev pub IsRouteOf : List ℕ → List ℕ → List ℕ → ℕ → Type 0
IsRouteOf word host name port = route_in word ≡ Some (record { host = host; name = name; port = port })

abbrev pub IsNoRoute : List ℕ → Type 0
IsNoRoute word = route_in word ≡ None

pub record WorkedWords : Type 0 where
  pub to_numbers : IsRouteOf (codes "api.test=127.0.0.1:9000") (codes "api.test") (codes "127.0.0.1") 9000
  pub host_with_a_port : IsRouteOf (codes "a:80=b:65535") (codes "a:80") (codes "b") 65535
  pub no_host : IsNoRoute (codes "=b:1")
  pub no_name : IsNoRoute (codes "a=:1")
  pub no_port : IsNoRoute (codes "a=b:")
  pub no_equals : IsNoRoute (codes "a:1")
  pub second_equals : IsNoRoute (codes "a=b=c:1")
  pub in_brackets : IsNoRoute (codes "a=[::1]:80")
  pub port_0 : IsNoRoute (codes "a=b:0")
  pub port_65536 : IsNoRoute (codes "a=b:65536")
  pub zero_in_front : IsNoRoute (codes "a=b:080")
  pub plus_in_front : IsNoRoute (codes "a=b:+80")
  pub one_wait : waits_in (codes "1") ≡ Some 1
  pub most_waits : waits_in (codes "1000000000") ≡ Some 1000000000
  pub signed_waits : waits_in (codes "+1") ≡ None
  pub waits_without_digits : waits_in [] ≡ None
  pub turn_0 : turn_in (codes "0") ≡ Some 0
  pub last_turn : turn_in (codes "4294967295") ≡ Some 4294967295
  pub turn_too_late : turn_in (codes "4294967296") ≡ None
  pub turn_with_a_zero_in_front : turn_in (codes "01") ≡ None
  pub pair : env_in (codes "a=b") ≡ Some (codes "a", codes "b")
  pub pair_without_a_value : env_in (codes "a=") ≡ Some (codes "a", codes "")
  pub value_with_equals : env_in (codes "a=b=c") ≡ Some (codes "a", codes "b=c")
  pub pair_without_a_key : env_in (codes "=b") ≡ None
  pub pair_without_equals : env_in (codes "a") ≡ None
