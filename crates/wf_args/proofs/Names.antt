-- What the words of names name.
use Rattle.std.proofs.Common.{◌≡◌, ◌+◌, ◌<◌, ℕ, Bool, true, false, cond, List, [], ◌∷◌, ◌++◌, length, Option, Some, None, get_or, drop, refl, sym, ap, ◌∙◌, arith, String, Global}
use Rattle.std.specs.Prelude.{bytes_eq, find, option_and_then, string_bytes}
use Rattle.std.specs.List.{cons_option}
use Rattle.std.specs.Option.{option_map_or}
use Rattle.std.proofs.lemmas.Slice.Eq.{bytes_eq-Decides}
use Rattle.std.proofs.lemmas.List.Sums.{sum_by-cons, sum_by-append}
use Rattle.wf_args.specs.declared.option.OptionName.{OptionName}
use Rattle.wf_args.specs.declared.option.OptionName.TheVariants.{Source, Journal, Args, Id, Route, Env, Waits, Turn, Grep}
use Rattle.wf_args.specs.Lines.{words_view, names, name_of, name_word, same_name, count, options_in, word_after, first_word}

-- what is found passes
passes_if : {X : Type 0} (b : Bool) (p : X → Bool) (y : X) (o : Option X) (x : X) → p y ≡ b → cond b (Some y) o ≡ Some x → (o ≡ Some x → p x ≡ true) → p x ≡ true
passes_if true p y o x passes found next = grind (arith, passes, found)
passes_if false p y o x passes found next = next found

pub find_passes : {X : Type 0} (p : X → Bool) (xs : List X) (x : X) → find p xs ≡ Some x → p x ≡ true
find_passes p [] x found = absurd (grind (arith, found))
find_passes p (y ∷ ys) x found = passes_if (p y) p y (find p ys) x refl found (λ rest. find_passes p ys x rest)

-- a name's word names it
pub name_of_word : (n : OptionName) → name_of (name_word n) ≡ Some n
name_of_word Source = refl
name_of_word Journal = refl
name_of_word Args = refl
name_of_word Id = refl
name_of_word Route = refl
name_of_word Env = refl
name_of_word Waits = refl
name_of_word Turn = refl
name_of_word Grep = refl

-- what names an option is its word
pub named_word : (word : List ℕ) (n : OptionName) → name_of word ≡ Some n → word ≡ name_word n
named_word word n named = (bytes_eq-Decides word (name_word n)).0 (find_passes (λ m. bytes_eq word (name_word m)) names n named)

pub same_name-refl : (n : OptionName) → same_name n n ≡ true
same_name-refl n = (bytes_eq-Decides (name_word n) (name_word n)).1 refl

pub same_name-is : (m n : OptionName) → same_name m n ≡ true → m ≡ n
same_name-is m n same =
    let words : name_word m ≡ name_word n = (bytes_eq-Decides (name_word m) (name_word n)).0 same in
    let alike : Some m ≡ Some n = sym (name_of_word m) ∙ ap name_of words ∙ name_of_word n in
    grind (arith, alike)

-- whether a word is an option's name, by the option that it names
is_name_by : (word : List ℕ) (n : OptionName) (o : Option OptionName) → name_of word ≡ o → (b : Bool) → bytes_eq word (name_word n) ≡ b → b ≡ option_map_or (λ m. same_name m n) o false
is_name_by word n (Some m) named b same = sym same ∙ ap (λ w. bytes_eq w (name_word n)) (named_word word m named)
is_name_by word n None named false same = refl
is_name_by word n None named true same =
    let is : word ≡ name_word n = (bytes_eq-Decides word (name_word n)).0 same in
    let found : None ≡ Some n = sym named ∙ ap name_of is ∙ name_of_word n in
    absurd (grind (arith, found))

pub is_name : (word : List ℕ) (n : OptionName) → bytes_eq word (name_word n) ≡ option_map_or (λ m. same_name m n) (name_of word) false
is_name word n = is_name_by word n (name_of word) refl (bytes_eq word (name_word n)) refl

-- a pair more counts where its name is this one
count_named : (o : Option OptionName) (n : OptionName) (word : List ℕ) (options : List (OptionName × List ℕ)) → count n (cons_option (option_and_then (λ m. Some (m, word)) o) options) ≡ cond (option_map_or (λ m. same_name m n) o false) 1 0 + count n options
count_named None n word options = omega arith
count_named (Some m) n word options = sum_by-cons (λ (o : OptionName × List ℕ). cond (same_name o.0 n) 1 0) (m, word) options

pub count_pair : (n : OptionName) (name word : List ℕ) (words : List (List ℕ)) → count n (options_in (name ∷ word ∷ words)) ≡ cond (bytes_eq name (name_word n)) 1 0 + count n (options_in words)
count_pair n name word words =
    count_named (name_of name) n word (options_in words) ∙ ap (λ b. cond b 1 0 + count n (options_in words)) (sym (is_name name n))

-- an option more
pub count_more : (n : OptionName) (options : List (OptionName × List ℕ)) (o : OptionName × List ℕ) → count n (options ++ o ∷ []) ≡ count n options + cond (same_name o.0 n) 1 0
count_more n options o =
    let more = sum_by-append (λ (o : OptionName × List ℕ). cond (same_name o.0 n) 1 0) options (o ∷ []) in
    omega (arith, more)

-- the first word of an option, by its words
first_if : (b : Bool) (m : OptionName) (word : List ℕ) (r : Option (List ℕ)) (o : Option (OptionName × List ℕ)) → r ≡ option_and_then (λ o. Some o.1) o → cond b (Some word) r ≡ option_and_then (λ o. Some o.1) (cond b (Some (m, word)) o)
first_if true m word r o next = refl
first_if false m word r o next = next

first_named : (n : OptionName) (o : Option OptionName) (word : List ℕ) (r : Option (List ℕ)) (options : List (OptionName × List ℕ)) → r ≡ first_word n options → cond (option_map_or (λ m. same_name m n) o false) (Some word) r ≡ first_word n (cons_option (option_and_then (λ m. Some (m, word)) o) options)
first_named n None word r options next = next
first_named n (Some m) word r options next = first_if (same_name m n) m word r (find (λ o. same_name o.0 n) options) next

-- the word behind a name is the word of the first option of this name
pub found : (n : OptionName) (words : List (List ℕ)) → word_after (name_word n) words ≡ first_word n (options_in words)
found n [] = refl
found n (name ∷ []) = refl
found n (name ∷ word ∷ words) =
    ap (λ b. cond b (Some word) (word_after (name_word n) words)) (is_name name n) ∙ first_named n (name_of name) word (word_after (name_word n) words) (options_in words) (found n words)

-- fewer than two words hold no option
pub few_words : (name : List ℕ) (words : List (String Global)) → length words < 2 → word_after name (words_view words) ≡ None
few_words name [] below = refl
few_words name (x ∷ []) below = refl
few_words name (x ∷ y ∷ words) below = absurd (omega (arith, below))

pub few_options : (words : List (String Global)) → length words < 2 → options_in (words_view words) ≡ []
few_options [] below = refl
few_options (x ∷ []) below = refl
few_options (x ∷ y ∷ words) below = absurd (omega (arith, below))

-- words that begin with a pair, and the count behind it
pub count_next : (n : OptionName) (rest next : List (String Global)) (x : String Global) (b : Bool) (more : ℕ) → 1 < length rest → x ≡ get_or rest 0 x → b ≡ bytes_eq (string_bytes x) (name_word n) → more ≡ cond b 1 0 → next ≡ drop 2 rest
    → more + count n (options_in (words_view next)) ≡ count n (options_in (words_view rest))
count_next n [] next x b more two first is adds back = absurd (omega (arith, two))
count_next n (y ∷ []) next x b more two first is adds back = absurd (omega (arith, two))
count_next n (y ∷ z ∷ rest) next x b more two first is adds back =
    let named : b ≡ bytes_eq (string_bytes y) (name_word n) = is ∙ ap (λ (s : String Global). bytes_eq (string_bytes s) (name_word n)) first in
    (λ i. (adds ∙ ap (λ (b : Bool). cond b 1 0) named) i + count n (options_in (words_view (back i))))
    ∙ sym (count_pair n (string_bytes y) (string_bytes z) (words_view rest))
