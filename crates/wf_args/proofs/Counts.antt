-- How often options stand, and how many words are read at most.
use Rattle.std.proofs.Common.{◌≡◌, ◌+◌, ◌*◌, ◌<◌, ◌≤◌, ℕ, suc, Bool, true, false, cond, List, [], ◌∷◌, ◌++◌, length, Err, refl, sym, ap, ◌∙◌, arith, length-append}
use Rattle.std.specs.Prelude.{nat_lt}
use Rattle.std.specs.List.{list_any}
use Rattle.std.proofs.lemmas.Bool.{ltb-true, and_parts}
use Rattle.std.proofs.lemmas.List.Sums.{sum_by-cons}
use Rattle.wf_args.specs.declared.command.Command.{Command}
use Rattle.wf_args.specs.declared.option.OptionName.{OptionName}
use Rattle.wf_args.specs.declared.option.OptionName.TheVariants.{Source, Journal, Args, Id, Route, Env, Waits, Turn, Grep}
use Rattle.wf_args.specs.Lines.{names, same_name, count, most, may_stand, options_of, options_at}
use Rattle.wf_args.proofs.Names.{same_name-is, count_more}
use Rattle.wf_args.proofs.Reading.{by_end, by_last, by_pair, next_named}

-- none stands more often than it may
abbrev pub Within : List (OptionName × List ℕ) → Type 0
Within options = (n : OptionName) → count n options ≤ most n

pub none_within : Within []
none_within n = omega arith

-- nor does one more that may stand
more_by : (b : Bool) (m n : OptionName) (k more : ℕ) → same_name m n ≡ b → more ≡ k + cond (same_name m n) 1 0 → k ≤ most n → (m ≡ n → k < most n) → more ≤ most n
more_by true m n k more same is within below =
    let one = ap (λ b. k + cond b 1 0) same in
    omega (arith, is, one, below (same_name-is m n same))
more_by false m n k more same is within below =
    let none = ap (λ b. k + cond b 1 0) same in
    omega (arith, is, none, within)

pub more_within : (c : Command) (options : List (OptionName × List ℕ)) (o : OptionName) (word : List ℕ) → may_stand c options o ≡ true → Within options → Within (options ++ (o, word) ∷ [])
more_within c options o word stands within n =
    more_by (same_name o n) o n (count n options) (count n (options ++ (o, word) ∷ [])) refl (count_more n options (o, word)) (within n)
    (λ same. ltb-true (count n options) (most n) (ap (λ (m : OptionName). nat_lt (count m options) (most m)) (sym same) ∙ (and_parts (list_any (same_name o) (options_of c)) (nat_lt (count o options) (most o)) stands).1))

-- each option is one of these
pub count-cons : (n : OptionName) (o : OptionName × List ℕ) (options : List (OptionName × List ℕ)) → count n (o ∷ options) ≡ cond (same_name o.0 n) 1 0 + count n options
count-cons n o options = sum_by-cons (λ (o : OptionName × List ℕ). cond (same_name o.0 n) 1 0) o options

-- a sum over some names
abbrev pub total : (OptionName → ℕ) → List OptionName → ℕ
total f [] = 0
total f (n ∷ ns) = f n + total f ns

total-sum : (f g h : OptionName → ℕ) (ns : List OptionName) → ((n : OptionName) → h n ≡ f n + g n) → total h ns ≡ total f ns + total g ns
total-sum f g h [] sums = omega arith
total-sum f g h (n ∷ ns) sums = omega (arith, sums n, total-sum f g h ns sums)

total-le : (f g : OptionName → ℕ) (ns : List OptionName) → ((n : OptionName) → f n ≤ g n) → total f ns ≤ total g ns
total-le f g [] below = omega arith
total-le f g (n ∷ ns) below = omega (arith, below n, total-le f g ns below)

-- each name stands once among the names
one_of : (n : OptionName) → total (λ m. cond (same_name n m) 1 0) names ≡ 1
one_of Source = refl
one_of Journal = refl
one_of Args = refl
one_of Id = refl
one_of Route = refl
one_of Env = refl
one_of Waits = refl
one_of Turn = refl
one_of Grep = refl

all_count : (options : List (OptionName × List ℕ)) → total (λ n. count n options) names ≡ length options
all_count [] = refl
all_count (o ∷ options) =
    let sums = total-sum (λ m. cond (same_name o.0 m) 1 0) (λ n. count n options) (λ n. count n (o ∷ options)) names (λ n. count-cons n o options) in
    omega (arith, sums, one_of o.0, all_count options)

-- the most options that a line has
most_options : total most names ≡ 47
most_options = refl

pub few_options : (options : List (OptionName × List ℕ)) → Within options → length options ≤ 47
few_options options within = omega (arith, all_count options, total-le (λ n. count n options) most names within, most_options)

-- so the number of a bad line is small
pub few_words_are_read : (c : Command) (n : ℕ) (options : List (OptionName × List ℕ)) (words : List (List ℕ)) (m : ℕ) → n ≡ suc (2 * length options) → Within options → options_at c n options words ≡ Err m → m ≤ 96
few_words_are_read c n options [] m first within =
    by_end (λ r. r ≡ Err m → m ≤ 96) c n options
    (λ missing is. let same : n ≡ m = grind (arith, is) in omega (arith, same, first, few_options options within))
    (λ complete is. absurd (grind (arith, is)))
few_words_are_read c n options (name ∷ []) m first within =
    by_last (λ r. r ≡ Err m → m ≤ 96) c n options name
    (λ unknown is. let same : n ≡ m = grind (arith, is) in omega (arith, same, first, few_options options within))
    (λ o known is. let same : suc n ≡ m = grind (arith, is) in omega (arith, same, first, few_options options within))
few_words_are_read c n options (name ∷ word ∷ words) m first within =
    by_pair (λ r. r ≡ Err m → m ≤ 96) c n options name word words
    (λ unknown is. let same : n ≡ m = grind (arith, is) in omega (arith, same, first, few_options options within))
    (λ o known unfit is. let same : suc n ≡ m = grind (arith, is) in omega (arith, same, first, few_options options within))
    (λ o known fits is.
    let more = length-append options ((o, word) ∷ []) in
    few_words_are_read c (suc (suc n)) (options ++ (o, word) ∷ []) words m (omega (arith, first, more)) (more_within c options o word (next_named c options name o known).1 within) is)
