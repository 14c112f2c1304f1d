-- The words of one option, and the routes of a line.
use Rattle.std.proofs.Common.{◌≡◌, ◌+◌, ◌<◌, ◌≤◌, ℕ, suc, zero, Bool, true, false, cond, List, [], ◌∷◌, length, Option, Some, None, refl, sym, ap, ◌∙◌, subst, arith, String, Global}
use Rattle.std.specs.Prelude.{is_ok, is_some, option_and_then, slice_get, unwrap_or, if◌then◌else◌}
use Rattle.std.specs.List.{cons_option, filter_map, list_all}
use Rattle.std.specs.Option.{IfSome, option_map, option_map_or}
use Rattle.std.proofs.lemmas.Bool.{and_from, and_parts}
use Rattle.wf_args.specs.declared.command.Command.{Command}
use Rattle.wf_args.specs.declared.option.OptionName.{OptionName}
use Rattle.wf_args.specs.declared.option.OptionName.TheVariants.{Env, Route, Turn, Waits}
use Rattle.wf_args.specs.declared.env.EnvParts.{EnvParts}
use Rattle.wf_args.specs.declared.route.RouteParts.{RouteParts}
use Rattle.wf_args.specs.Laws.{IsEnv, IsLine, IsRoute}
use Rattle.wf_args.specs.Lines.{PlainLine, all_words, count, env_in, env_of, is_word, name_of, name_word, options_at, options_in, route_in, routes_of, same_name, turn_in, turn_of, waits_in, waits_of, word_after, words_after, words_view}
use Rattle.wf_args.specs.Plain.{plain_env, plain_route}
use Rattle.wf_args.proofs.Counts.{count-cons}
use Rattle.wf_args.proofs.Names.{found, is_name, same_name-is}
use Rattle.wf_args.proofs.Spelled.{reads_line}
use Rattle.wf_args.proofs.Words.{env_tells, number_tells, route_tells}

-- ## The words behind a name are those of its options
with_word : (b : Bool) (word : List ℕ) (r : List (List ℕ)) → cond b (word ∷ r) r ≡ cons_option (if b then Some word else None) r
with_word true word r = refl
with_word false word r = refl

with_option : (n : OptionName) (o : Option OptionName) (word : List ℕ) (options : List (OptionName × List ℕ)) (r : List (List ℕ)) → r ≡ all_words n options
    → cond (option_map_or (λ m. same_name m n) o false) (word ∷ r) r ≡ all_words n (cons_option (option_and_then (λ m. Some (m, word)) o) options)
with_option n None word options r next = next
with_option n (Some m) word options r next = with_word (same_name m n) word r ∙ ap (cons_option (if same_name m n then Some word else None)) next

pub all_after : (n : OptionName) (words : List (List ℕ)) → words_after (name_word n) words ≡ all_words n (options_in words)
all_after n [] = refl
all_after n (name ∷ []) = refl
all_after n (name ∷ word ∷ words) =
    ap (λ b. cond b (word ∷ words_after (name_word n) words) (words_after (name_word n) words)) (is_name name n)
    ∙ with_option n (name_of name) word (options_in words) (words_after (name_word n) words) (all_after n words)

-- ## Each fits, and there are no more than may stand
fits_on : (b : Bool) (n m : OptionName) (word : List ℕ) (r : List (List ℕ)) → same_name m n ≡ b → is_word m word ≡ true → list_all (is_word n) r ≡ true → list_all (is_word n) (cons_option (if b then Some word else None) r) ≡ true
fits_on true n m word r same fits rest = and_from _ _ (subst (λ k. is_word k word ≡ true) (same_name-is m n same) fits) rest
fits_on false n m word r same fits rest = rest

words_all_fit : (n : OptionName) (options : List (OptionName × List ℕ)) → list_all (λ o. is_word o.0 o.1) options ≡ true → list_all (is_word n) (all_words n options) ≡ true
words_all_fit n [] all = refl
words_all_fit n ((m, word) ∷ options) all =
    let parts = and_parts (is_word m word) (list_all (λ o. is_word o.0 o.1) options) all in
    fits_on (same_name m n) n m word (all_words n options) refl parts.0 (words_all_fit n options parts.1)

counted : (b : Bool) (word : List ℕ) (r : List (List ℕ)) → length (cons_option (if b then Some word else None) r) ≡ cond b 1 0 + length r
counted true word r = omega arith
counted false word r = omega arith

words_counted : (n : OptionName) (options : List (OptionName × List ℕ)) → length (all_words n options) ≡ count n options
words_counted n [] = refl
words_counted n ((m, word) ∷ options) =
    counted (same_name m n) word (all_words n options) ∙ ap (λ k. cond (same_name m n) 1 0 + k) (words_counted n options) ∙ sym (count-cons n (m, word) options)

-- ## The routes
fewer : {X Y : Type 0} (f : X → Option Y) (xs : List X) → length (filter_map f xs) ≤ length xs
fewer f [] = omega arith
fewer f (x ∷ xs) = more (f x) (filter_map f xs) (fewer f xs)
  where
    more : {Y : Type 0} (o : Option Y) (ys : List Y) {n : ℕ} → length ys ≤ n → length (cons_option o ys) ≤ suc n
    more None ys few = omega (arith, few)
    more (Some y) ys few = omega (arith, few)

-- where each word gives something, they give it in their order
each_gives : {X Y : Type 0} (f : X → Option Y) (xs : List X) (k : ℕ) → list_all (λ x. is_some (f x)) xs ≡ true → slice_get (filter_map f xs) k ≡ option_and_then f (slice_get xs k)
each_gives f [] k all = refl
each_gives {X} {Y} f (x ∷ xs) k all =
    let parts = and_parts (is_some (f x)) (list_all (λ x. is_some (f x)) xs) all in
    gives_on (λ j. each_gives f xs j parts.1) k (f x) refl parts.0
  where
    gives_on : ((j : ℕ) → slice_get (filter_map f xs) j ≡ option_and_then f (slice_get xs j)) → (k : ℕ) (o : Option Y) → f x ≡ o → is_some o ≡ true
        → slice_get (cons_option o (filter_map f xs)) k ≡ option_and_then f (slice_get (x ∷ xs) k)
    gives_on rest k None gives some = absurd (grind (arith, some))
    gives_on rest zero (Some y) gives some = sym gives
    gives_on rest (suc k) (Some y) gives some = rest k

pub few_routes : (l : PlainLine) → IsLine l → length (routes_of l) ≤ 20
few_routes l is =
    let words = words_counted Route l.options in
    let within = is.within Route in
    omega (arith, fewer route_in (all_words Route l.options), words, within)

pub routes_in_order : (l : PlainLine) (k : ℕ) → IsLine l → slice_get (routes_of l) k ≡ option_and_then route_in (slice_get (all_words Route l.options) k)
routes_in_order l k is = each_gives route_in (all_words Route l.options) k (words_all_fit Route l.options is.fit)

-- what is read as a route is one
pub read_is_route : (word : List ℕ) (r : Option RouteParts) → option_map plain_route r ≡ route_in word → IfSome r (λ r. IsRoute (plain_route r))
read_is_route word None is = tt
read_is_route word (Some r) is = (route_tells word (plain_route r) (sym is)).1

-- what stands behind a name of a line that was read is what the line has
pub nth_route : (c : Command) (words : List (List ℕ)) (k : ℕ) (o : Option (List ℕ)) → is_ok (options_at c 1 [] words) ≡ true → o ≡ slice_get (words_after (name_word Route) words) k
    → option_and_then route_in o ≡ slice_get (routes_of (record { command = c; options = options_in words })) k
nth_route c words k o reads is =
    ap (option_and_then route_in) (is ∙ ap (λ ws. slice_get ws k) (all_after Route words))
    ∙ sym (routes_in_order (record { command = c; options = options_in words }) k (reads_line c words reads))

pub line_has_few : (c : Command) (words : List (List ℕ)) → is_ok (options_at c 1 [] words) ≡ true → length (routes_of (record { command = c; options = options_in words })) ≤ 20
line_has_few c words reads = few_routes (record { command = c; options = options_in words }) (reads_line c words reads)

-- ## The environment, in the same way
pub read_is_env : (word : List ℕ) (r : Option EnvParts) → option_map plain_env r ≡ env_in word → IfSome r (λ p. IsEnv (plain_env p))
read_is_env word None is = tt
read_is_env word (Some p) is = (env_tells word (plain_env p) (sym is)).1

pub nth_env : (c : Command) (words : List (List ℕ)) (k : ℕ) (o : Option (List ℕ)) → is_ok (options_at c 1 [] words) ≡ true → o ≡ slice_get (words_after (name_word Env) words) k
    → option_and_then env_in o ≡ slice_get (env_of (record { command = c; options = options_in words })) k
nth_env c words k o reads is =
    let l : PlainLine = record { command = c; options = options_in words } in
    ap (option_and_then env_in) (is ∙ ap (λ ws. slice_get ws k) (all_after Env words))
    ∙ sym (each_gives env_in (all_words Env l.options) k (words_all_fit Env l.options (reads_line c words reads).fit))

pub line_has_few_env : (c : Command) (words : List (List ℕ)) → is_ok (options_at c 1 [] words) ≡ true → length (env_of (record { command = c; options = options_in words })) ≤ 20
line_has_few_env c words reads =
    let l : PlainLine = record { command = c; options = options_in words } in
    let counted = words_counted Env l.options in
    let within = (reads_line c words reads).within Env in
    omega (arith, fewer env_in (all_words Env l.options), counted, within)

-- ## Numbers
pub turn_found : (c : Command) (words : List (List ℕ)) (o : Option (List ℕ)) → o ≡ word_after (name_word Turn) words → unwrap_or (option_and_then turn_in o) 0 ≡ turn_of (record { command = c; options = options_in words })
turn_found c words o is = ap (λ o. unwrap_or (option_and_then turn_in o) 0) (is ∙ found Turn words)

pub waits_found : (c : Command) (words : List (List ℕ)) (o : Option (List ℕ)) → o ≡ word_after (name_word Waits) words → unwrap_or (option_and_then waits_in o) 1000000 ≡ waits_of (record { command = c; options = options_in words })
waits_found c words o is = ap (λ o. unwrap_or (option_and_then waits_in o) 1000000) (is ∙ found Waits words)

waits_within_by : (o : Option ℕ) (word : List ℕ) → waits_in word ≡ o → (1 ≤ unwrap_or o 1000000) × (unwrap_or o 1000000 ≤ 1000000000)
waits_within_by None word is = (omega arith, omega arith)
waits_within_by (Some n) word is = let t = number_tells 1000000000 word n is in (t.some, t.small)

pub waits_within : (o : Option (List ℕ)) → (1 ≤ unwrap_or (option_and_then waits_in o) 1000000) × (unwrap_or (option_and_then waits_in o) 1000000 ≤ 1000000000)
waits_within None = (omega arith, omega arith)
waits_within (Some word) = waits_within_by (waits_in word) word refl

-- fewer than two words have none
pub no_words_after : (name : List ℕ) (words : List (String Global)) (k : ℕ) → length words < 2 → None ≡ slice_get (words_after name (words_view words)) k
no_words_after name [] k below = refl
no_words_after name (x ∷ []) k below = refl
no_words_after name (x ∷ y ∷ words) k below = absurd (omega (arith, below))
