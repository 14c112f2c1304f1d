-- What the program prints of itself.
--     help, version     the texts
--     IsHelp            what the help lists
use Rattle.std.specs.Prelude.{◌≤◌, ℕ, Bool, ◌&&◌, ◌||◌, nat_eq, nat_le, List, [], ◌∷◌, ◌++◌, length, IsTrue, codes}
use Rattle.std.specs.List.{list_all, list_any, starts_with}
use Rattle.std.specs.Str.Lines.{lines}
use Rattle.wf_args.specs.declared.command.Command.{Command}
use Rattle.wf_args.specs.Lines.{commands, command_word, options_of, name_word}

-- a word stands in these bytes
abbrev pub stands_in : List ℕ → List ℕ → Bool
stands_in word [] = starts_with nat_eq [] word
stands_in word (b ∷ bs) = starts_with nat_eq (b ∷ bs) word || stands_in word bs

-- a line of this command: it begins with its word, and has the name of each of its options
abbrev pub is_of : Command → List ℕ → Bool
is_of c line = starts_with nat_eq line (command_word c) && list_all (λ n. stands_in (name_word n) line) (options_of c)

-- at most 21 lines of at most 80 bytes, with a line of each command
pub record IsHelp (text : List ℕ) : Type 0 where
  pub few : length (lines text) ≤ 21
  pub narrow : IsTrue (list_all (λ line. nat_le (length line) 80) (lines text))
  pub whole : IsTrue (list_all (λ c. list_any (is_of c) (lines text)) commands)

-- a line with its end
abbrev pub line : List ℕ → List ℕ
line text = text ++ codes "\n"

unfoldable pub help : List ℕ
help =
    line (codes "workflow COMMAND [--OPTION WORD ..]")
    ++ line (codes "check      tells whether a source is accepted: --source")
    ++ line (codes "format     prints the tree of a source: --source")
    ++ line (codes "run        runs it: --source, --journal, --args, --id, --route, --env, --waits")
    ++ line (codes "resume     goes on with an execution: --journal, --waits")
    ++ line (codes "show       shows what an execution has come to: --journal")
    ++ line (codes "at         shows what it had come to after some turns: --journal, --turn")
    ++ line (codes "log        prints what an execution has logged: --journal, --grep")
    ++ line (codes "--help     prints this text")
    ++ line (codes "--version  prints the program's name and version")
    ++ line (codes "Options follow in any order, each once; --route and --env up to 20 times.")
    ++ line (codes "--source PATH: the file of the source; without it standard input is read.")
    ++ line (codes "--journal PATH: the file of the journal; without it that is kept in memory.")
    ++ line (codes "--args JSON: the argument of main; without it that is null.")
    ++ line (codes "--id ID: 1 to 64 letters, digits, dots, underscores and hyphens.")
    ++ line (codes "--route HOST=NAME:PORT: calls for HOST are sent to NAME and PORT.")
    ++ line (codes "--env KEY=VALUE: sys.get_env of KEY gives VALUE; of equal keys the first counts.")
    ++ line (codes "--turn N: after so many turns, 0 to 4294967295, or all where there are fewer.")
    ++ line (codes "--grep TEXT: only the lines whose JSON holds the text.")
    ++ line (codes "--waits N: the command waits at most N times, 1 to 1000000000; else 1000000.")

unfoldable pub version : List ℕ
version = codes "workflow 0.1.0\n"
