-- Words are read as a line exactly where they spell it.
use Rattle.std.proofs.Common.{◌≡◌, ◌+◌, ◌≤◌, ℕ, suc, Bool, true, cond, List, [], ◌∷◌, ◌++◌, Option, Some, None, Result, Ok, Err, refl, sym, ap, ◌∙◌, subst, arith, append_assoc, append-nil}
use Rattle.std.specs.Prelude.{nat_lt, ◌&&◌, bytes_eq, flat_map, option_and_then, is_ok, if◌then◌else◌}
use Rattle.std.specs.List.{list_any, list_all, cons_option}
use Rattle.std.specs.Option.{option_map_or}
use Rattle.std.proofs.lemmas.Bool.{lt-ltb, and_from, and_parts}
use Rattle.std.proofs.lemmas.List.Folds.{list_all-append}
use Rattle.std.proofs.lemmas.List.Sums.{sum_by-append}
use Rattle.std.proofs.lemmas.Slice.Eq.{bytes_eq-Decides}
use Rattle.wf_args.specs.declared.command.Command.{Command}
use Rattle.wf_args.specs.declared.command.Command.TheVariants.{Check, Format, Run, Resume, Show, At, Log, Help, Version}
use Rattle.wf_args.specs.declared.option.OptionName.{OptionName}
use Rattle.wf_args.specs.Lines.{PlainLine, commands, command_of, command_word, name_of, name_word, options_of, most, is_word, same_name, count, is_complete, next_name, options_at, options_in, line_of}
use Rattle.wf_args.specs.Laws.{spelling, IsLine, LinesAreSpelled}
use Rattle.wf_args.proofs.Names.{find_passes, name_of_word, named_word, same_name-refl}
use Rattle.wf_args.proofs.Reading.{by_end, by_last, by_pair, next_pair, next_named, named_next, read_options, ok_is}
use Rattle.wf_args.proofs.Counts.{none_within, more_within, count-cons}

-- options as words
abbrev pub spelled : List (OptionName × List ℕ) → List (List ℕ)
spelled options = flat_map (λ o. name_word o.0 ∷ o.1 ∷ []) options

abbrev pub is_taken : Command → OptionName × List ℕ → Bool
is_taken c o = list_any (same_name o.0) (options_of c)

abbrev pub is_fit : OptionName × List ℕ → Bool
is_fit o = is_word o.0 o.1

-- what holds of the options that were read
pub record AreRead (c : Command) (options : List (OptionName × List ℕ)) : Type 0 where
  pub taken : list_all (is_taken c) options ≡ true
  pub fit : list_all is_fit options ≡ true
  pub within : (n : OptionName) → count n options ≤ most n

none_read : (c : Command) → AreRead c []
none_read c = record { taken = refl; fit = refl; within = none_within }

one_passes : {X : Type 0} (p : X → Bool) (xs : List X) (x : X) → list_all p xs ≡ true → p x ≡ true → list_all p (xs ++ x ∷ []) ≡ true
one_passes p xs x before it = list_all-append p xs (x ∷ []) ∙ and_from (list_all p xs) (p x && true) before (and_from (p x) true it refl)

more_read : (c : Command) (options : List (OptionName × List ℕ)) (name word : List ℕ) (o : OptionName) → next_name c options name ≡ Some o → is_word o word ≡ true → AreRead c options → AreRead c (options ++ (o, word) ∷ [])
more_read c options name word o known fits r =
    let stands = (next_named c options name o known).1 in
    record {
      taken = one_passes (is_taken c) options (o, word) r.taken (and_parts (list_any (same_name o) (options_of c)) (nat_lt (count o options) (most o)) stands).0;
      fit = one_passes is_fit options (o, word) r.fit fits;
      within = more_within c options o word stands r.within;
    }

-- ## What is read is spelled so, and is a line

spelled_by : (o : OptionName) (name word : List ℕ) (words : List (List ℕ)) → name_of name ≡ Some o → words ≡ spelled (options_in words) → name ∷ word ∷ words ≡ spelled (options_in (name ∷ word ∷ words))
spelled_by o name word words named rest =
    (λ i. named_word name o named i ∷ word ∷ rest i)
    ∙ ap (λ (x : Option OptionName). spelled (cons_option (option_and_then (λ m. Some (m, word)) x) (options_in words))) (sym named)

read_spelled : (c : Command) (n : ℕ) (options : List (OptionName × List ℕ)) (words : List (List ℕ)) (l : PlainLine) → AreRead c options → options_at c n options words ≡ Ok l → (words ≡ spelled (options_in words)) × IsLine l
read_spelled c n options [] l r =
    by_end (λ x. x ≡ Ok l → ([] ≡ spelled []) × IsLine l) c n options
    (λ missing is. absurd (grind (arith, is)))
    (λ complete is. (refl, subst IsLine (ok_is (record { command = c; options = options }) l is) (record { taken = r.taken; fit = r.fit; within = r.within; complete = complete })))
read_spelled c n options (name ∷ []) l r =
    by_last (λ x. x ≡ Ok l → (name ∷ [] ≡ spelled []) × IsLine l) c n options name
    (λ unknown is. absurd (grind (arith, is)))
    (λ o known is. absurd (grind (arith, is)))
read_spelled c n options (name ∷ word ∷ words) l r =
    by_pair (λ x. x ≡ Ok l → (name ∷ word ∷ words ≡ spelled (options_in (name ∷ word ∷ words))) × IsLine l) c n options name word words
    (λ unknown is. absurd (grind (arith, is)))
    (λ o known unfit is. absurd (grind (arith, is)))
    (λ o known fits is.
    let rest = read_spelled c (suc (suc n)) (options ++ (o, word) ∷ []) words l (more_read c options name word o known fits r) is in
    (spelled_by o name word words (next_named c options name o known).0 rest.0, rest.1))

-- so where some are read there is a line
line_by : (c : Command) (words : List (List ℕ)) (r : Result PlainLine ℕ) → options_at c 1 [] words ≡ r → is_ok r ≡ true → IsLine (record { command = c; options = options_in words })
line_by c words (Err n) is ok = absurd (grind (arith, ok))
line_by c words (Ok l) is ok = subst IsLine (read_options c 1 [] words l is) (read_spelled c 1 [] words l (none_read c) is).1

pub reads_line : (c : Command) (words : List (List ℕ)) → is_ok (options_at c 1 [] words) ≡ true → IsLine (record { command = c; options = options_in words })
reads_line c words ok = line_by c words (options_at c 1 [] words) refl ok

-- a command's word names it
command_of_word : (c : Command) → command_of (command_word c) ≡ Some c
command_of_word Check = refl
command_of_word Format = refl
command_of_word Run = refl
command_of_word Resume = refl
command_of_word Show = refl
command_of_word At = refl
command_of_word Log = refl
command_of_word Help = refl
command_of_word Version = refl

commanded_word : (word : List ℕ) (c : Command) → command_of word ≡ Some c → word ≡ command_word c
commanded_word word c named = (bytes_eq-Decides word (command_word c)).0 (find_passes (λ d. bytes_eq word (command_word d)) commands c named)

spelled_behind : (word : List ℕ) (words : List (List ℕ)) (l : PlainLine) (o : Option Command) → command_of word ≡ o → option_map_or (λ c. options_at c 1 [] words) o (Err 0) ≡ Ok l → (word ∷ words ≡ spelling l) × IsLine l
spelled_behind word words l None named is = absurd (grind (arith, is))
spelled_behind word words l (Some c) named is =
    let read = read_spelled c 1 [] words l (none_read c) is in
    ((λ i. commanded_word word c named i ∷ read.0 i) ∙ ap spelling (sym (read_options c 1 [] words l is)), read.1)

pub read_is_spelled : (words : List (List ℕ)) (l : PlainLine) → line_of words ≡ Ok l → (words ≡ spelling l) × IsLine l
unfolding line_of
read_is_spelled [] l is = absurd (grind (arith, is))
read_is_spelled (word ∷ words) l is = spelled_behind word words l (command_of word) refl is

-- ## A line that is spelled is read

last_part : {X : Type 0} (p : X → Bool) (xs : List X) (x : X) (ys : List X) → list_all p (xs ++ x ∷ ys) ≡ true → p x ≡ true
last_part p xs x ys all =
    (and_parts (p x) (list_all p ys) (and_parts (list_all p xs) (list_all p (x ∷ ys)) (sym (list_all-append p xs (x ∷ ys)) ∙ all)).1).0

read_back : (c : Command) (n : ℕ) (options rest : List (OptionName × List ℕ)) → IsLine (record { command = c; options = options ++ rest }) → options_at c n options (spelled rest) ≡ Ok (record { command = c; options = options ++ rest })
read_back c n options [] line =
    ap (λ (b : Bool). if b then Ok (record { command = c; options = options }) else Err n) (ap (is_complete c) (sym (append-nil options)) ∙ line.complete)
    ∙ ap (λ (os : List (OptionName × List ℕ)). Ok (record { command = c; options = os })) (sym (append-nil options))
read_back c n options ((o, word) ∷ rest) line =
    let taken = last_part (is_taken c) options (o, word) rest line.taken in
    let fits = last_part is_fit options (o, word) rest line.fit in
    let parts = sum_by-append (λ (p : OptionName × List ℕ). cond (same_name p.0 o) 1 0) options ((o, word) ∷ rest) in
    let one = count-cons o (o, word) rest ∙ ap (λ b. cond b 1 0 + count o rest) (same_name-refl o) in
    let below = lt-ltb (count o options) (most o) (omega (arith, parts, one, line.within o)) in
    let known = named_next c options (name_word o) o (name_of_word o) (and_from (list_any (same_name o) (options_of c)) (nat_lt (count o options) (most o)) taken below) in
    let all : (options ++ (o, word) ∷ []) ++ rest ≡ options ++ (o, word) ∷ rest = append_assoc options ((o, word) ∷ []) rest in
    next_pair c n options (name_word o) word (spelled rest) o known fits
    ∙ read_back c (suc (suc n)) (options ++ (o, word) ∷ []) rest (subst (λ os. IsLine (record { command = c; options = os })) (sym all) line)
    ∙ ap (λ (os : List (OptionName × List ℕ)). Ok (record { command = c; options = os })) all

pub spelled_is_read : (words : List (List ℕ)) (l : PlainLine) → words ≡ spelling l → IsLine l → line_of words ≡ Ok l
unfolding line_of
spelled_is_read words l is line =
    ap line_of is
    ∙ ap (λ (o : Option Command). option_map_or (λ c. options_at c 1 [] (spelled l.options)) o (Err 0)) (command_of_word l.command)
    ∙ read_back l.command 1 [] l.options line

pub lines_are_spelled : LinesAreSpelled
lines_are_spelled words l = (read_is_spelled words l, λ h. spelled_is_read words l h.0 h.1)
