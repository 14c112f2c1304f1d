-- How reading goes on, pair by pair.
use Rattle.std.proofs.Common.{◌≡◌, ℕ, suc, Bool, true, false, cond, List, [], ◌∷◌, ◌++◌, Option, Some, None, Result, Ok, Err, refl, sym, ap, ◌∙◌, arith, subst, append_assoc, append-nil, Bor}
use Rattle.std.specs.Prelude.{bytes_eq, option_and_then, is_ok, if◌then◌else◌}
use Rattle.std.specs.List.{cons_option}
use Rattle.std.specs.Option.{option_map_or, option_copied, IfSome}
use Rattle.std.proofs.lemmas.Slice.Eq.{bytes_eq-Decides}
use Rattle.wf_args.specs.declared.command.Command.{Command}
use Rattle.wf_args.specs.declared.option.OptionName.{OptionName}
use Rattle.wf_args.specs.Lines.{PlainLine, name_of, name_word, may_stand, is_complete, is_word, next_name, options_at, options_in, word_after}
use Rattle.wf_args.proofs.Names.{name_of_word}

-- what reading does with two words, of which the first names this option or none
abbrev pub at_pair : Command → ℕ → List (OptionName × List ℕ) → List ℕ → List (List ℕ) → Option OptionName → Result PlainLine ℕ
at_pair c n options word words o =
    option_map_or (λ o. if is_word o word then options_at c (suc (suc n)) (options ++ (o, word) ∷ []) words else Err (suc n)) o (Err n)

-- what holds of each way of reading on holds of reading two words
pair_if : (P : Result PlainLine ℕ → Type 0) (b : Bool) (x y : Result PlainLine ℕ) → (b ≡ false → P y) → (b ≡ true → P x) → P (if b then x else y)
pair_if P true x y unfit on = on refl
pair_if P false x y unfit on = unfit refl

pair_by : (P : Result PlainLine ℕ → Type 0) (c : Command) (n : ℕ) (options : List (OptionName × List ℕ)) (name word : List ℕ) (words : List (List ℕ)) (o : Option OptionName) → next_name c options name ≡ o
    → (next_name c options name ≡ None → P (Err n))
    → ((o : OptionName) → next_name c options name ≡ Some o → is_word o word ≡ false → P (Err (suc n)))
    → ((o : OptionName) → next_name c options name ≡ Some o → is_word o word ≡ true → P (options_at c (suc (suc n)) (options ++ (o, word) ∷ []) words))
    → P (at_pair c n options word words o)
pair_by P c n options name word words None next unknown unfit on = unknown next
pair_by P c n options name word words (Some o) next unknown unfit on =
    pair_if P (is_word o word) (options_at c (suc (suc n)) (options ++ (o, word) ∷ []) words) (Err (suc n)) (unfit o next) (on o next)

pub by_pair : (P : Result PlainLine ℕ → Type 0) (c : Command) (n : ℕ) (options : List (OptionName × List ℕ)) (name word : List ℕ) (words : List (List ℕ))
    → (next_name c options name ≡ None → P (Err n))
    → ((o : OptionName) → next_name c options name ≡ Some o → is_word o word ≡ false → P (Err (suc n)))
    → ((o : OptionName) → next_name c options name ≡ Some o → is_word o word ≡ true → P (options_at c (suc (suc n)) (options ++ (o, word) ∷ []) words))
    → P (options_at c n options (name ∷ word ∷ words))
by_pair P c n options name word words unknown unfit on = pair_by P c n options name word words (next_name c options name) refl unknown unfit on

-- the same of a name that is the last word
last_by : (P : Result PlainLine ℕ → Type 0) (c : Command) (n : ℕ) (options : List (OptionName × List ℕ)) (name : List ℕ) (o : Option OptionName) → next_name c options name ≡ o
    → (next_name c options name ≡ None → P (Err n))
    → ((o : OptionName) → next_name c options name ≡ Some o → P (Err (suc n)))
    → P (option_map_or (λ _. Err (suc n)) o (Err n))
last_by P c n options name None next unknown known = unknown next
last_by P c n options name (Some o) next unknown known = known o next

pub by_last : (P : Result PlainLine ℕ → Type 0) (c : Command) (n : ℕ) (options : List (OptionName × List ℕ)) (name : List ℕ)
    → (next_name c options name ≡ None → P (Err n))
    → ((o : OptionName) → next_name c options name ≡ Some o → P (Err (suc n)))
    → P (options_at c n options (name ∷ []))
by_last P c n options name unknown known = last_by P c n options name (next_name c options name) refl unknown known

-- reading two words, by what the first names
pub pair_named : (c : Command) (n : ℕ) (options : List (OptionName × List ℕ)) (name word : List ℕ) (words : List (List ℕ)) (o : Option OptionName) → next_name c options name ≡ o → options_at c n options (name ∷ word ∷ words) ≡ at_pair c n options word words o
pair_named c n options name word words o next = ap (at_pair c n options word words) next

pub last_named : (c : Command) (n : ℕ) (options : List (OptionName × List ℕ)) (name : List ℕ) (o : Option OptionName) → next_name c options name ≡ o → options_at c n options (name ∷ []) ≡ option_map_or (λ _. Err (suc n)) o (Err n)
last_named c n options name o next = ap (λ (x : Option OptionName). option_map_or (λ _. Err (suc n)) x (Err n)) next

-- an unknown name is bad
pub unknown_name : (c : Command) (n : ℕ) (options : List (OptionName × List ℕ)) (name : List ℕ) (words : List (List ℕ)) → next_name c options name ≡ None → options_at c n options (name ∷ words) ≡ Err n
unknown_name c n options name [] next = last_named c n options name None next
unknown_name c n options name (word ∷ words) next = pair_named c n options name word words None next

-- a word that doesn't fit is bad
pub unfit_word : (c : Command) (n : ℕ) (options : List (OptionName × List ℕ)) (name word : List ℕ) (words : List (List ℕ)) (o : OptionName) → next_name c options name ≡ Some o → is_word o word ≡ false → options_at c n options (name ∷ word ∷ words) ≡ Err (suc n)
unfit_word c n options name word words o next fits =
    pair_named c n options name word words (Some o) next ∙ ap (λ (b : Bool). if b then options_at c (suc (suc n)) (options ++ (o, word) ∷ []) words else Err (suc n)) fits

-- another pair is read on
pub next_pair : (c : Command) (n : ℕ) (options : List (OptionName × List ℕ)) (name word : List ℕ) (words : List (List ℕ)) (o : OptionName) → next_name c options name ≡ Some o → is_word o word ≡ true → options_at c n options (name ∷ word ∷ words) ≡ options_at c (suc (suc n)) (options ++ (o, word) ∷ []) words
next_pair c n options name word words o next fits =
    pair_named c n options name word words (Some o) next ∙ ap (λ (b : Bool). if b then options_at c (suc (suc n)) (options ++ (o, word) ∷ []) words else Err (suc n)) fits

-- what names an option that may stand
stands_by : (b : Bool) (m n : OptionName) → (if b then Some m else None) ≡ Some n → (b ≡ true) × (m ≡ n)
stands_by true m n is = (refl, grind (arith, is))
stands_by false m n is = absurd (grind (arith, is))

next_by : (c : Command) (options : List (OptionName × List ℕ)) (o : Option OptionName) (n : OptionName) → option_and_then (λ m. if may_stand c options m then Some m else None) o ≡ Some n → (o ≡ Some n) × (may_stand c options n ≡ true)
next_by c options None n next = absurd (grind (arith, next))
next_by c options (Some m) n next =
    let stands = stands_by (may_stand c options m) m n next in
    (ap Some stands.1, ap (may_stand c options) (sym stands.1) ∙ stands.0)

pub next_named : (c : Command) (options : List (OptionName × List ℕ)) (word : List ℕ) (n : OptionName) → next_name c options word ≡ Some n → (name_of word ≡ Some n) × (may_stand c options n ≡ true)
next_named c options word n next = next_by c options (name_of word) n next

pub named_next : (c : Command) (options : List (OptionName × List ℕ)) (word : List ℕ) (n : OptionName) → name_of word ≡ Some n → may_stand c options n ≡ true → next_name c options word ≡ Some n
named_next c options word n named stands =
    ap (λ (o : Option OptionName). option_and_then (λ m. if may_stand c options m then Some m else None) o) named ∙ ap (λ (b : Bool). if b then Some n else None) stands

-- where the words end
pub by_end : (P : Result PlainLine ℕ → Type 0) (c : Command) (n : ℕ) (options : List (OptionName × List ℕ)) → (is_complete c options ≡ false → P (Err n)) → (is_complete c options ≡ true → P (Ok (record { command = c; options = options }))) → P (options_at c n options [])
by_end P c n options missing complete = pair_if P (is_complete c options) (Ok (record { command = c; options = options })) (Err n) missing complete

-- a line that is read has the options of its words, behind those that stand already
pub ok_is : (l m : PlainLine) → ◌≡◌ {A = Result PlainLine ℕ} (Ok l) (Ok m) → l ≡ m
ok_is l m is = grind (arith, is)

pub read_options : (c : Command) (n : ℕ) (options : List (OptionName × List ℕ)) (words : List (List ℕ)) (l : PlainLine) → options_at c n options words ≡ Ok l → l ≡ record { command = c; options = options ++ options_in words }
read_options c n options [] l =
    by_end (λ r. r ≡ Ok l → l ≡ record { command = c; options = options ++ [] }) c n options
    (λ missing is. absurd (grind (arith, is)))
    (λ complete is. sym (ok_is (record { command = c; options = options }) l is) ∙ ap (λ (o : List (OptionName × List ℕ)). record { command = c; options = o }) (sym (append-nil options)))
read_options c n options (name ∷ []) l =
    by_last (λ r. r ≡ Ok l → l ≡ record { command = c; options = options ++ [] }) c n options name (λ unknown is. absurd (grind (arith, is))) (λ o known is. absurd (grind (arith, is)))
read_options c n options (name ∷ word ∷ words) l =
    by_pair (λ r. r ≡ Ok l → l ≡ record { command = c; options = options ++ options_in (name ∷ word ∷ words) }) c n options name word words
    (λ unknown is. absurd (grind (arith, is)))
    (λ o known unfit is. absurd (grind (arith, is)))
    (λ o known fits is.
    read_options c (suc (suc n)) (options ++ (o, word) ∷ []) words l is
    ∙ ap (λ (p : List (OptionName × List ℕ)). record { command = c; options = p })
    (append_assoc options ((o, word) ∷ []) (options_in words)
    ∙ ap (λ (x : Option OptionName). options ++ cons_option (option_and_then (λ m. Some (m, word)) x) (options_in words)) (sym (next_named c options name o known).0)))

-- what a line has behind the name of an option fits it
pub fits_by : (b : Bool) (m n : OptionName) (word : List ℕ) (r : Option (List ℕ)) → (b ≡ true → m ≡ n) → is_word m word ≡ true → IfSome r (λ w. is_word n w ≡ true) → IfSome (cond b (Some word) r) (λ w. is_word n w ≡ true)
fits_by true m n word r same fits rest = ap (λ (k : OptionName). is_word k word) (sym (same refl)) ∙ fits
fits_by false m n word r same fits rest = rest

pub words_fit : (c : Command) (k : ℕ) (options : List (OptionName × List ℕ)) (words : List (List ℕ)) (n : OptionName) → is_ok (options_at c k options words) ≡ true → IfSome (word_after (name_word n) words) (λ w. is_word n w ≡ true)
words_fit c k options [] n is = tt
words_fit c k options (name ∷ []) n is = tt
words_fit c k options (name ∷ word ∷ words) n is =
    by_pair (λ r. is_ok r ≡ true → IfSome (word_after (name_word n) (name ∷ word ∷ words)) (λ w. is_word n w ≡ true)) c k options name word words
    (λ unknown is. absurd (grind (arith, is)))
    (λ o known unfit is. absurd (grind (arith, is)))
    (λ o known fits is.
    let named : Some o ≡ name_of name = sym (next_named c options name o known).0 in
    fits_by (bytes_eq name (name_word n)) o n word (word_after (name_word n) words)
    (λ same.
    let alike : Some o ≡ Some n = named ∙ ap name_of ((bytes_eq-Decides name (name_word n)).0 same) ∙ name_of_word n in
    grind (arith, alike))
    fits
    (words_fit c (suc (suc k)) (options ++ (o, word) ∷ []) words n is))
    is

-- the same of what a lookup gives
pub copied_fits : (r : Option (Bor (List ℕ))) (o : Option (List ℕ)) (n : OptionName) → option_copied r ≡ o → IfSome o (λ w. is_word n w ≡ true) → IfSome r (λ w. is_word n w.now ≡ true)
copied_fits r o n is fits = copied r n (subst (λ x. IfSome x (λ w. is_word n w ≡ true)) (sym is) fits)
  where
    copied : (r : Option (Bor (List ℕ))) (n : OptionName) → IfSome (option_copied r) (λ w. is_word n w ≡ true) → IfSome r (λ w. is_word n w.now ≡ true)
    copied None n fits = fits
    copied (Some w) n fits = fits
