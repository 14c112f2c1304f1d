-- The number of a bad line is the least.
use Rattle.std.proofs.Common.{◌≡◌, ◌+◌, ◌<◌, ◌≤◌, ◌⊎◌, inl, inr, ℕ, suc, Bool, true, false, cond, List, [], ◌∷◌, ◌++◌, length, take, Option, Some, None, Result, Err, refl, sym, ap, ◌∙◌, subst, arith}
use Rattle.std.specs.Prelude.{nat_lt, ◌&&◌, codes}
use Rattle.std.specs.List.{list_any, list_all}
use Rattle.std.specs.Option.{option_map_or}
use Rattle.std.proofs.lemmas.Bool.{ltb-true, ltb-false, lt-ltb, and_from, and_parts}
use Rattle.wf_lemmas.proofs.Bools.{by_test}
use Rattle.wf_args.specs.declared.command.Command.{Command}
use Rattle.wf_args.specs.declared.command.Command.TheVariants.{Check, Format, Run, Resume, Show, At, Log, Help, Version}
use Rattle.wf_args.specs.declared.option.OptionName.{OptionName}
use Rattle.wf_args.specs.declared.option.OptionName.TheVariants.{Source, Journal, Args, Id, Route, Env, Waits, Turn, Grep}
use Rattle.wf_args.specs.Lines.{PlainLine, command_of, name_word, options_of, required, most, is_word, same_name, count, may_stand, is_complete, next_name, options_at, line_of}
use Rattle.wf_args.specs.Laws.{Reads, reads, Begins, IsLeastBadWord}
use Rattle.wf_args.proofs.Names.{name_of_word, same_name-refl, count_more}
use Rattle.wf_args.proofs.Reading.{by_end, by_last, by_pair, next_pair, unknown_name, unfit_word, named_next}

-- a bad line is no line
pub not_read : (r : Result PlainLine ℕ) (n : ℕ) → r ≡ Err n → Reads r → ⊥
not_read r n is (reads l) = grind (arith, is)

-- some words behind these make a line of them
abbrev pub BeginsAt : Command → ℕ → List (OptionName × List ℕ) → List (List ℕ) → Type 0
BeginsAt c n options words = (more : List (List ℕ)) × Reads (options_at c n options (words ++ more))

-- ## Each beginning can be completed

-- a word that an option may have
example : OptionName → List ℕ
example Route = codes "a=b:1"
example Env = codes "a=b"
example Waits = codes "1"
example Turn = codes "1"
example n = codes "a"

example_fits : (n : OptionName) → is_word n (example n) ≡ true
unfolding example
example_fits Source = refl
example_fits Journal = refl
example_fits Args = refl
example_fits Id = refl
example_fits Route = refl
example_fits Env = refl
example_fits Waits = refl
example_fits Turn = refl
example_fits Grep = refl

-- a command takes the options that it requires
takes_one : Command → OptionName → Bool
takes_one c n = list_any (same_name n) (options_of c) && nat_lt 0 (most n)

takes_required : (c : Command) → list_all (takes_one c) (required c) ≡ true
unfolding takes_one
takes_required Check = refl
takes_required Format = refl
takes_required Run = refl
takes_required Resume = refl
takes_required Show = refl
takes_required At = refl
takes_required Log = refl
takes_required Help = refl
takes_required Version = refl

-- it may stand where it doesn't stand yet
may_be_added : (c : Command) (options : List (OptionName × List ℕ)) (n : OptionName) → takes_one c n ≡ true → nat_lt 0 (count n options) ≡ false → may_stand c options n ≡ true
unfolding takes_one
may_be_added c options n takes missing =
    let parts = and_parts (list_any (same_name n) (options_of c)) (nat_lt 0 (most n)) takes in
    let none = ltb-false 0 (count n options) missing in
    let some = ltb-true 0 (most n) parts.1 in
    and_from (list_any (same_name n) (options_of c)) (nat_lt (count n options) (most n)) parts.0 (lt-ltb (count n options) (most n) (omega (arith, none, some)))

-- reading on behind a pair
pub pair_begins : (c : Command) (n : ℕ) (options : List (OptionName × List ℕ)) (name word : List ℕ) (o : OptionName) (words : List (List ℕ)) → next_name c options name ≡ Some o → is_word o word ≡ true → BeginsAt c (suc (suc n)) (options ++ (o, word) ∷ []) words → BeginsAt c n options (name ∷ word ∷ words)
pair_begins c n options name word o words known fits b =
    (b.0, subst Reads (sym (next_pair c n options name word (words ++ b.0) o known fits)) b.1)

-- what doesn't stand yet of these is added, one by one
complete : (names : List OptionName) (c : Command) (n : ℕ) (options : List (OptionName × List ℕ)) → list_all (takes_one c) names ≡ true
    → ((more : List (OptionName × List ℕ)) → ((m : OptionName) → count m options ≤ count m more) → list_all (λ m. nat_lt 0 (count m more)) names ≡ true → is_complete c more ≡ true)
    → BeginsAt c n options []
complete [] c n options takes done =
    ([], by_end (λ r. Reads r) c n options (λ missing. absurd (grind (arith, missing, done options (λ m. omega arith) refl))) (λ all. reads (record { command = c; options = options })))
complete (m ∷ names) c n options takes done =
    let parts = and_parts (takes_one c m) (list_all (takes_one c) names) takes in
    by_test {P = BeginsAt c n options []} (nat_lt 0 (count m options))
    (λ stands. complete names c n options parts.1 (λ more grows all.
    let below = ltb-true 0 (count m options) stands in
    done more grows (and_from (nat_lt 0 (count m more)) (list_all (λ k. nat_lt 0 (count k more)) names) (lt-ltb 0 (count m more) (omega (arith, below, grows m))) all)))
    (λ missing.
    let known = named_next c options (name_word m) m (name_of_word m) (may_be_added c options m parts.0 missing) in
    let one = count_more m options (m, example m) ∙ ap (λ b. count m options + cond b 1 0) (same_name-refl m) in
    let b = complete names c (suc (suc n)) (options ++ (m, example m) ∷ []) parts.1 (λ more grows all.
    done more (λ k. let added = count_more k options (m, example m) in omega (arith, added, grows k))
    (and_from (nat_lt 0 (count m more)) (list_all (λ k. nat_lt 0 (count k more)) names) (lt-ltb 0 (count m more) (omega (arith, one, grows m))) all)) in
    let begins = pair_begins c n options (name_word m) (example m) m [] known (example_fits m) b in
    (name_word m ∷ example m ∷ begins.0, begins.1))

pub completes : (c : Command) (n : ℕ) (options : List (OptionName × List ℕ)) → BeginsAt c n options []
completes c n options = complete (required c) c n options (takes_required c) (λ more grows all. all)

-- and so can one with the name of an option more
pub name_begins : (c : Command) (n : ℕ) (options : List (OptionName × List ℕ)) (name : List ℕ) (o : OptionName) → next_name c options name ≡ Some o → BeginsAt c n options (name ∷ [])
name_begins c n options name o known =
    let b = pair_begins c n options name (example o) o [] known (example_fits o) (completes c (suc (suc n)) (options ++ (o, example o) ∷ [])) in
    (example o ∷ b.0, b.1)

-- ## The least word

-- the same of the options of a line, of which the first word has number n
abbrev pub IsLeastAt : Command → ℕ → List (OptionName × List ℕ) → List (List ℕ) → ℕ → Type 0
IsLeastAt c n options words m =
    (k : ℕ) × (m ≡ n + k)
    × (((k < length words) × BeginsAt c n options (take k words) × ¬ BeginsAt c n options (take (suc k) words)) ⊎ ((k ≡ length words) × BeginsAt c n options words))

unknown_is_least : (c : Command) (n : ℕ) (options : List (OptionName × List ℕ)) (name : List ℕ) (words : List (List ℕ)) (m : ℕ) → next_name c options name ≡ None → n ≡ m → IsLeastAt c n options (name ∷ words) m
unknown_is_least c n options name words m unknown same =
    (0, omega (arith, same), inl (omega arith, completes c n options, λ b. not_read (options_at c n options (name ∷ b.0)) n (unknown_name c n options name b.0 unknown) b.1))

further_is_least : (c : Command) (n : ℕ) (options : List (OptionName × List ℕ)) (name word : List ℕ) (words : List (List ℕ)) (m : ℕ) (o : OptionName) → next_name c options name ≡ Some o → is_word o word ≡ true → IsLeastAt c (suc (suc n)) (options ++ (o, word) ∷ []) words m → IsLeastAt c n options (name ∷ word ∷ words) m
further_is_least c n options name word words m o known fits (k, is, inl (below, begins, none)) =
    (suc (suc k), omega (arith, is), inl (omega (arith, below), pair_begins c n options name word o (take k words) known fits begins, λ b. none (b.0, subst Reads (next_pair c n options name word (take (suc k) words ++ b.0) o known fits) b.1)))
further_is_least c n options name word words m o known fits (k, is, inr (all, begins)) =
    (suc (suc k), omega (arith, is), inr (omega (arith, all), pair_begins c n options name word o words known fits begins))

pub least_at : (c : Command) (n : ℕ) (options : List (OptionName × List ℕ)) (words : List (List ℕ)) (m : ℕ) → options_at c n options words ≡ Err m → IsLeastAt c n options words m
least_at c n options [] m =
    by_end (λ r. r ≡ Err m → IsLeastAt c n options [] m) c n options
    (λ missing is. let same : n ≡ m = grind (arith, is) in (0, omega (arith, same), inr (refl, completes c n options)))
    (λ all is. absurd (grind (arith, is)))
least_at c n options (name ∷ []) m =
    by_last (λ r. r ≡ Err m → IsLeastAt c n options (name ∷ []) m) c n options name
    (λ unknown is. unknown_is_least c n options name [] m unknown (grind (arith, is)))
    (λ o known is. let same : suc n ≡ m = grind (arith, is) in (1, omega (arith, same), inr (refl, name_begins c n options name o known)))
least_at c n options (name ∷ word ∷ words) m =
    by_pair (λ r. r ≡ Err m → IsLeastAt c n options (name ∷ word ∷ words) m) c n options name word words
    (λ unknown is. unknown_is_least c n options name (word ∷ words) m unknown (grind (arith, is)))
    (λ o known unfit is.
    let same : suc n ≡ m = grind (arith, is) in
    (1, omega (arith, same), inl (omega arith, name_begins c n options name o known, λ b. not_read (options_at c n options (name ∷ word ∷ b.0)) (suc n) (unfit_word c n options name word b.0 o known unfit) b.1)))
    (λ o known fits is. further_is_least c n options name word words m o known fits (least_at c (suc (suc n)) (options ++ (o, word) ∷ []) words m is))

-- ## The law

-- what the law says of some words and a number
abbrev pub IsLeast : List (List ℕ) → ℕ → Type 0
IsLeast words n = ((n < length words) × Begins (take n words) × ¬ Begins (take (suc n) words)) ⊎ ((n ≡ length words) × Begins words)

-- a line begins with no words
pub begins_nothing : Begins []
unfolding line_of
begins_nothing = let b = completes Run 1 [] in (codes "run" ∷ b.0, b.1)

-- a first word that names no command is bad
bad_command : (w : List ℕ) (ws : List (List ℕ)) → command_of w ≡ None → IsLeast (w ∷ ws) 0
unfolding line_of
bad_command w ws named =
    inl (omega arith, begins_nothing, λ b. not_read (line_of (w ∷ b.0)) 0 (ap (λ (o : Option Command). option_map_or (λ c. options_at c 1 [] b.0) o (Err 0)) named) b.1)

-- behind one that names a command its options decide
command_begins : (w : List ℕ) (c : Command) (ws : List (List ℕ)) → command_of w ≡ Some c → BeginsAt c 1 [] ws → Begins (w ∷ ws)
unfolding line_of
command_begins w c ws named b =
    (b.0, subst (λ (o : Option Command). Reads (option_map_or (λ c. options_at c 1 [] (ws ++ b.0)) o (Err 0))) (sym named) b.1)

begins_command : (w : List ℕ) (c : Command) (ws : List (List ℕ)) → command_of w ≡ Some c → Begins (w ∷ ws) → BeginsAt c 1 [] ws
unfolding line_of
begins_command w c ws named b =
    (b.0, subst (λ (o : Option Command). Reads (option_map_or (λ c. options_at c 1 [] (ws ++ b.0)) o (Err 0))) named b.1)

bad_options : (w : List ℕ) (ws : List (List ℕ)) (n : ℕ) (c : Command) → command_of w ≡ Some c → IsLeastAt c 1 [] ws n → IsLeast (w ∷ ws) n
bad_options w ws n c named (k, is, inl (below, begins, none)) =
    let next : suc k ≡ n = omega (arith, is) in
    subst (λ m. IsLeast (w ∷ ws) m) next (inl (omega (arith, below), command_begins w c (take k ws) named begins, λ b. none (begins_command w c (take (suc k) ws) named b)))
bad_options w ws n c named (k, is, inr (all, begins)) =
    inr (omega (arith, is, all), command_begins w c ws named begins)

least_behind : (w : List ℕ) (ws : List (List ℕ)) (n : ℕ) (o : Option Command) → command_of w ≡ o → option_map_or (λ c. options_at c 1 [] ws) o (Err 0) ≡ Err n → IsLeast (w ∷ ws) n
least_behind w ws n None named is =
    let first : 0 ≡ n = grind (arith, is) in
    subst (λ m. IsLeast (w ∷ ws) m) first (bad_command w ws named)
least_behind w ws n (Some c) named is = bad_options w ws n c named (least_at c 1 [] ws n is)

pub least : IsLeastBadWord
unfolding line_of
least [] n is = inr (grind (arith, is), begins_nothing)
least (w ∷ ws) n is = least_behind w ws n (command_of w) refl is
