-- The loop that reads the options of a line.
use Rattle.std.proofs.Common.{◌≡◌, ◌+◌, ◌<◌, ◌≤◌, ℕ, suc, List, [], ◌∷◌, ◌++◌, length, take, drop, get_or, Option, Some, None, Result, Ok, Err, Bool, sym, ap, ◌∙◌, arith, append_assoc, drop-cons, String, Global, true, false}
use Rattle.std.specs.Prelude.{string_bytes, option_and_then, if◌then◌else◌}
use Rattle.std.specs.List.{cons_option}
use Rattle.std.proofs.lemmas.List.{map-append, take_more, take_all, drop_all}
use Rattle.wf_args.specs.declared.command.Command.{Command}
use Rattle.wf_args.specs.declared.option.OptionName.{OptionName}
use Rattle.wf_args.specs.Lines.{PlainLine, words_view, name_of, is_complete, is_word, next_name, options_at, options_in}
use Rattle.wf_args.proofs.Reading.{unknown_name, last_named, unfit_word, next_pair, next_named}

-- the options of the words so far
abbrev pub so_far : List (String Global) → ℕ → List (OptionName × List ℕ)
so_far xs at = options_in (words_view (take at xs))

-- the words so far stand in pairs
abbrev pub Pairs : List (String Global) → ℕ → Type 0
Pairs xs at = (more : List (List ℕ)) → options_in (words_view (take at xs) ++ more) ≡ so_far xs at ++ options_in more

-- and reading goes on behind them
abbrev pub GoesOn : Command → List (String Global) → ℕ → Type 0
GoesOn c xs at = options_at c 1 [] (words_view xs) ≡ options_at c (suc at) (so_far xs at) (words_view (drop at xs))

-- how far the loop has come
abbrev pub Along : Command → List (String Global) → ℕ → Type 0
Along c xs at = record { within : at ≤ length xs; pairs : Pairs xs at; goes_on : GoesOn c xs at }

pub ends_unknown : (c : Command) (xs : List (String Global)) (at : ℕ) (s : String Global) → at < length xs → s ≡ get_or xs at s → next_name c (so_far xs at) (string_bytes s) ≡ None → GoesOn c xs at → options_at c 1 [] (words_view xs) ≡ Err (suc at)
ends_unknown c xs at s within is unknown on =
    on ∙ ap (λ ws. options_at c (suc at) (so_far xs at) (words_view ws)) (drop-cons xs at s within ∙ ap (λ (y : String Global). y ∷ drop (suc at) xs) (sym is))
    ∙ unknown_name c (suc at) (so_far xs at) (string_bytes s) (words_view (drop (suc at) xs)) unknown

pub ends_incomplete : (c : Command) (xs : List (String Global)) (at : ℕ) (s : String Global) (o : OptionName) → suc at ≡ length xs → s ≡ get_or xs at s → next_name c (so_far xs at) (string_bytes s) ≡ Some o → GoesOn c xs at → options_at c 1 [] (words_view xs) ≡ Err (suc (suc at))
ends_incomplete c xs at s o last is known on =
    on ∙ ap (λ ws. options_at c (suc at) (so_far xs at) (words_view ws)) (drop-cons xs at s (omega (arith, last)) ∙ (λ i. sym is i ∷ drop_all (suc at) xs (omega (arith, last)) i))
    ∙ last_named c (suc at) (so_far xs at) (string_bytes s) (Some o) known

-- two words more
pub two : (xs : List (String Global)) (at : ℕ) (s t : String Global) → suc at < length xs → s ≡ get_or xs at s → t ≡ get_or xs (suc at) t → drop at xs ≡ s ∷ t ∷ drop (suc (suc at)) xs
two xs at s t within is it =
    drop-cons xs at s (omega (arith, within)) ∙ (λ i. sym is i ∷ (drop-cons xs (suc at) t within ∙ ap (λ (y : String Global). y ∷ drop (suc (suc at)) xs) (sym it)) i)

pub take_two : (xs : List (String Global)) (at : ℕ) (s t : String Global) → suc at < length xs → s ≡ get_or xs at s → t ≡ get_or xs (suc at) t → take (suc (suc at)) xs ≡ take at xs ++ s ∷ t ∷ []
take_two xs at s t within is it =
    ap (λ k. take k xs) (let e : suc (suc at) ≡ suc at + 1 = omega arith in e)
    ∙ take_more xs (suc at) t within
    ∙ (λ i. (ap (λ k. take k xs) (let e : suc at ≡ at + 1 = omega arith in e) ∙ take_more xs at s (omega (arith, within)) ∙ ap (λ (y : String Global). take at xs ++ y ∷ []) (sym is)) i ++ sym it i ∷ [])
    ∙ append_assoc (take at xs) (s ∷ []) (t ∷ [])

pub ends_unfit : (c : Command) (xs : List (String Global)) (at : ℕ) (s t : String Global) (o : OptionName) → suc at < length xs → s ≡ get_or xs at s → t ≡ get_or xs (suc at) t → next_name c (so_far xs at) (string_bytes s) ≡ Some o → is_word o (string_bytes t) ≡ false → GoesOn c xs at → options_at c 1 [] (words_view xs) ≡ Err (suc (suc at))
ends_unfit c xs at s t o within is it known unfit on =
    on ∙ ap (λ ws. options_at c (suc at) (so_far xs at) (words_view ws)) (two xs at s t within is it)
    ∙ unfit_word c (suc at) (so_far xs at) (string_bytes s) (string_bytes t) (words_view (drop (suc (suc at)) xs)) o known unfit

-- the options of the words so far and two more
view_two : (xs : List (String Global)) (at : ℕ) (s t : String Global) → suc at < length xs → s ≡ get_or xs at s → t ≡ get_or xs (suc at) t → words_view (take (suc (suc at)) xs) ≡ words_view (take at xs) ++ string_bytes s ∷ string_bytes t ∷ []
view_two xs at s t within is it = ap words_view (take_two xs at s t within is it) ∙ map-append string_bytes (take at xs) (s ∷ t ∷ [])

one_more : (xs : List (String Global)) (at : ℕ) (name word : List ℕ) (o : OptionName) (more : List (List ℕ)) → Pairs xs at → name_of name ≡ Some o → options_in (words_view (take at xs) ++ name ∷ word ∷ more) ≡ so_far xs at ++ (o, word) ∷ options_in more
one_more xs at name word o more pairs named =
    pairs (name ∷ word ∷ more) ∙ ap (λ (x : Option OptionName). so_far xs at ++ cons_option (option_and_then (λ m. Some (m, word)) x) (options_in more)) named

pub more_so_far : (xs : List (String Global)) (at : ℕ) (s t : String Global) (o : OptionName) → suc at < length xs → s ≡ get_or xs at s → t ≡ get_or xs (suc at) t → Pairs xs at → name_of (string_bytes s) ≡ Some o → so_far xs (suc (suc at)) ≡ so_far xs at ++ (o, string_bytes t) ∷ []
more_so_far xs at s t o within is it pairs named =
    ap options_in (view_two xs at s t within is it) ∙ one_more xs at (string_bytes s) (string_bytes t) o [] pairs named

pub more_pairs : (xs : List (String Global)) (at : ℕ) (s t : String Global) (o : OptionName) → suc at < length xs → s ≡ get_or xs at s → t ≡ get_or xs (suc at) t → Pairs xs at → name_of (string_bytes s) ≡ Some o → Pairs xs (suc (suc at))
more_pairs xs at s t o within is it pairs named more =
    ap (λ ws. options_in (ws ++ more)) (view_two xs at s t within is it)
    ∙ ap options_in (append_assoc (words_view (take at xs)) (string_bytes s ∷ string_bytes t ∷ []) more)
    ∙ one_more xs at (string_bytes s) (string_bytes t) o more pairs named
    ∙ sym (append_assoc (so_far xs at) ((o, string_bytes t) ∷ []) (options_in more))
    ∙ ap (λ os. os ++ options_in more) (sym (more_so_far xs at s t o within is it pairs named))

pub more_goes_on : (c : Command) (xs : List (String Global)) (at : ℕ) (s t : String Global) (o : OptionName) → suc at < length xs → s ≡ get_or xs at s → t ≡ get_or xs (suc at) t → Pairs xs at → next_name c (so_far xs at) (string_bytes s) ≡ Some o → is_word o (string_bytes t) ≡ true → GoesOn c xs at → GoesOn c xs (suc (suc at))
more_goes_on c xs at s t o within is it pairs known fits on =
    on ∙ ap (λ ws. options_at c (suc at) (so_far xs at) (words_view ws)) (two xs at s t within is it)
    ∙ next_pair c (suc at) (so_far xs at) (string_bytes s) (string_bytes t) (words_view (drop (suc (suc at)) xs)) o known fits
    ∙ ap (λ os. options_at c (suc (suc (suc at))) os (words_view (drop (suc (suc at)) xs))) (sym (more_so_far xs at s t o within is it pairs (next_named c (so_far xs at) (string_bytes s) o known).0))

-- all words are read: they are a line, or an option is missing
abbrev whole : Command → List (String Global) → ℕ → Bool → Result PlainLine ℕ
whole c xs at b = if b then Ok (record { command = c; options = options_in (words_view xs) }) else Err (suc at)

all_read : (c : Command) (xs : List (String Global)) (at : ℕ) → length xs ≤ at → GoesOn c xs at → options_at c 1 [] (words_view xs) ≡ whole c xs at (is_complete c (options_in (words_view xs)))
all_read c xs at all on =
    on ∙ (λ i. options_at c (suc at) (options_in (words_view (take_all at xs all i))) (words_view (drop_all at xs all i)))

pub ends : (c : Command) (xs : List (String Global)) (at : ℕ) → length xs ≤ at → GoesOn c xs at → is_complete c (options_in (words_view xs)) ≡ true → options_at c 1 [] (words_view xs) ≡ Ok (record { command = c; options = options_in (words_view xs) })
ends c xs at all on complete = all_read c xs at all on ∙ ap (whole c xs at) complete

pub ends_missing : (c : Command) (xs : List (String Global)) (at : ℕ) → length xs ≤ at → GoesOn c xs at → is_complete c (options_in (words_view xs)) ≡ false → options_at c 1 [] (words_view xs) ≡ Err (suc at)
ends_missing c xs at all on missing = all_read c xs at all on ∙ ap (whole c xs at) missing
