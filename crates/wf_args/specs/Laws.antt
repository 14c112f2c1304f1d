-- Laws of command lines.
use Rattle.std.specs.Prelude.{◌≡◌, ◌<◌, ◌≤◌, ◌+◌, ◌⊎◌, ◌↔◌, ℕ, suc, Bool, not, ◌==◌, List, [], ◌∷◌, ◌++◌, length, take, flat_map, IsTrue, Some, Result, Ok, Err, codes, decimal, ◌^◌}
use Rattle.std.specs.List.{list_all, list_any}
use Rattle.wf_args.specs.declared.option.OptionName.{OptionName}
use Rattle.wf_args.specs.Lines.{PlainLine, PlainRoute, line_of, command_word, name_word, options_of, most, is_word, same_name, count, is_complete, word_of, word_behind, longest_word, env_in, number_to, route_in, turn_in}

-- the words are a line
pub data Reads : Result PlainLine ℕ → Type 0 where
  reads : (l : PlainLine) → Reads (Ok l)

-- some line begins with these words
abbrev pub Begins : List (List ℕ) → Type 0
Begins words = (more : List (List ℕ)) × Reads (line_of (words ++ more))

-- the number of a bad line is the least index such that the words up to it begin no line, or the count of the words where these only begin one
abbrev pub IsLeastBadWord : Type 0
IsLeastBadWord =
    (words : List (List ℕ)) (n : ℕ) → line_of words ≡ Err n
    → ((n < length words) × Begins (take n words) × ¬ Begins (take (suc n) words)) ⊎ ((n ≡ length words) × Begins words)

-- where the words are a line, the word that is looked up behind an option's name is the one that the line has for this option
abbrev pub OptionsAreFound : Type 0
OptionsAreFound =
    (words : List (List ℕ)) (l : PlainLine) (n : OptionName) → line_of words ≡ Ok l
    → word_behind (name_word n) words ≡ word_of n l

-- none of the bytes is this one
abbrev pub has_no : ℕ → List ℕ → Bool
has_no c bytes = list_all (λ b. not (b == c)) bytes

-- a line as words: its command, and of each option the name and the word
abbrev pub spelling : PlainLine → List (List ℕ)
spelling l = command_word l.command ∷ flat_map (λ o. name_word o.0 ∷ o.1 ∷ []) l.options

-- a command with options that it takes, each with a word that fits it and none more often than it may stand, and with those that it can't do without
pub record IsLine (l : PlainLine) : Type 0 where
  pub taken : IsTrue (list_all (λ o. list_any (same_name o.0) (options_of l.command)) l.options)
  pub fit : IsTrue (list_all (λ o. is_word o.0 o.1) l.options)
  pub within : (n : OptionName) → count n l.options ≤ most n
  pub complete : IsTrue (is_complete l.command l.options)

-- words are read as a line exactly where they spell it and it is one
abbrev pub LinesAreSpelled : Type 0
LinesAreSpelled = (words : List (List ℕ)) (l : PlainLine) → (line_of words ≡ Ok l) ↔ ((words ≡ spelling l) × IsLine l)

-- a route of a line: HOST and NAME aren't empty and have no `=`, NAME has no `:`, PORT is 1 to 65,535, and both fit into a word
pub record IsRoute (r : PlainRoute) : Type 0 where
  pub host : (0 < length r.host) × IsTrue (has_no 61 r.host)
  pub name : (0 < length r.name) × IsTrue (has_no 61 r.name) × IsTrue (has_no 58 r.name)
  pub port : (1 ≤ r.port) × (r.port ≤ 65535)
  pub short : length r.host + length r.name < longest_word

-- a pair of a line: KEY isn't empty and has no `=`, and both fit into a word
pub record IsEnv (p : List ℕ × List ℕ) : Type 0 where
  pub key : (0 < length p.0) × IsTrue (has_no 61 p.0)
  pub short : length p.0 + length p.1 < longest_word

-- a word is read as a number exactly where it is this number in decimal
abbrev pub NumbersAreSpelled : Type 0
NumbersAreSpelled =
    (greatest : ℕ) → greatest < 2 ^ 32 → (word : List ℕ) (n : ℕ)
    → (number_to greatest word ≡ Some n) ↔ ((word ≡ decimal n) × (1 ≤ n) × (n ≤ greatest))

-- and as a route exactly where it spells it, and it is one
abbrev pub route_word : PlainRoute → List ℕ
route_word r = r.host ++ codes "=" ++ r.name ++ codes ":" ++ decimal r.port

abbrev pub RoutesAreSpelled : Type 0
RoutesAreSpelled =
    (word : List ℕ) (r : PlainRoute)
    → (route_in word ≡ Some r) ↔ ((word ≡ route_word r) × IsRoute r × (length word ≤ longest_word))

-- as a pair exactly where it is KEY, `=` and VALUE
abbrev pub env_word : List ℕ × List ℕ → List ℕ
env_word p = p.0 ++ codes "=" ++ p.1

abbrev pub EnvsAreSpelled : Type 0
EnvsAreSpelled = (word : List ℕ) (p : List ℕ × List ℕ) → (env_in word ≡ Some p) ↔ ((word ≡ env_word p) × IsEnv p)

-- and as a count of turns exactly where it is this number in decimal
abbrev pub TurnsAreSpelled : Type 0
TurnsAreSpelled = (word : List ℕ) (n : ℕ) → (turn_in word ≡ Some n) ↔ ((word ≡ decimal n) × (n ≤ 4294967295))
