-- Numbers and routes, and the words that spell them.
use Rattle.std.proofs.Common.{◌≡◌, ◌≢◌, ◌+◌, ◌-◌, ◌*◌, ◌<◌, ◌≤◌, ◌^◌, ℕ, zero, suc, Bool, true, false, cond, List, [], ◌∷◌, ◌++◌, append_assoc, length, take, drop, get_or, Option, Some, None, Result, Ok, Err, refl, sym, ap, ◌∙◌, subst, arith, length-drop, length-take, length-append}
use Rattle.std.specs.Prelude.{not, ◌&&◌, ◌||◌, ◌==◌, bytes_eq, codes, nat_lt, nat_le, if◌then◌else◌, decimal, slice_index}
use Rattle.std.specs.Char.{digit_value, is_ascii_digit}
use Rattle.std.specs.List.{list_all, list_any, before_first, after_first, position_or_len, prefix_len, take_while}
use Rattle.std.specs.Option.{option_map}
use Rattle.std.specs.Result.{OkIff}
use Rattle.std.specs.Str.{all_ascii_digits}
use Rattle.std.specs.Str.Parse.{ParsesUnsigned, digits_value}
use Rattle.std.proofs.Math.Seq.{take-append_seam, drop-append-add}
use Rattle.std.proofs.lemmas.Bool.{and_from, and_parts, eq-eqb, eqb-false, eqb-true, le-leb, leb-true, lt-ltb, ltb-true}
use Rattle.std.proofs.lemmas.Bool.Decides.{nat_tests}
use Rattle.std.proofs.lemmas.Fmt.{decimal-digits_value, digits_decimal, digits_value-decimal, first_decimal}
use Rattle.std.proofs.lemmas.List.Sums.{passes_at_first, split_at_first, take_while-cons}
use Rattle.std.proofs.lemmas.Slice.Eq.{bytes_eq-Decides}
use Rattle.std.proofs.lemmas.Str.Parse.{IsNumeralModel, digits_value-take-le, numerals_by_value, parse_plain, tells_all_ascii_digits}
use Rattle.wf_lemmas.proofs.Bools.{or_true}
use Rattle.wf_args.specs.Laws.{EnvsAreSpelled, IsEnv, IsRoute, NumbersAreSpelled, RoutesAreSpelled, TurnsAreSpelled, env_word, has_no, route_word}
use Rattle.wf_args.specs.Lines.{PlainRoute, env_in, host_in, is_colon, is_equals, key_in, longest_word, name_in, number_to, port_in, route_in, turn_in, value_in}

-- ## Numbers
pub own : IsNumeralModel (λ ds. all_ascii_digits ds ≡ true) (digits_value 10)
own = numerals_by_value _ tells_all_ascii_digits

-- what a test lets through
pub let_through : {X : Type 0} (b : Bool) (x y : X) → (if b then Some x else None) ≡ Some y → (b ≡ true) × (x ≡ y)
let_through true x y is = (refl, grind (arith, is))
let_through false x y is = absurd (grind (arith, is))

abbrev pub passes_to : ℕ → List ℕ → Bool
passes_to greatest word = all_ascii_digits word && nat_lt 48 (slice_index word 0) && nat_le (digits_value 10 word) greatest

pub number_yes : (greatest : ℕ) (word : List ℕ) → all_ascii_digits word ≡ true → 48 < slice_index word 0 → digits_value 10 word ≤ greatest → number_to greatest word ≡ Some (digits_value 10 word)
number_yes greatest word digits first small =
    let all = and_from _ _ (and_from _ _ digits (lt-ltb 48 (slice_index word 0) first)) (le-leb (digits_value 10 word) greatest small) in
    ap (λ (t : Bool). if t then Some (digits_value 10 word) else None) all

pub record IsNumber (greatest : ℕ) (word : List ℕ) (n : ℕ) : Type 0 where
  pub digits : all_ascii_digits word ≡ true
  pub first : 48 < slice_index word 0
  pub value : digits_value 10 word ≡ n
  pub some : 1 ≤ n
  pub small : n ≤ greatest

-- a first digit that isn't 0 makes the number one
first_is_one : (b : ℕ) → is_ascii_digit b ≡ true → 48 < b → 1 ≤ digit_value b
first_is_one b is first = grind (arith, nat_tests)

at_least_one : (word : List ℕ) → all_ascii_digits word ≡ true → 48 < slice_index word 0 → 1 ≤ digits_value 10 word
at_least_one [] digits first = absurd (omega (arith, first))
at_least_one (b ∷ word) digits first =
    let front : 0 * 10 + digit_value b ≤ digits_value 10 (b ∷ word) = digits_value-take-le 10 (b ∷ word) 1 (omega arith) in
    let one = first_is_one b (and_parts (is_ascii_digit b) (all_ascii_digits word) digits).0 first in
    omega (arith, front, one)

pub number_tells : (greatest : ℕ) (word : List ℕ) (n : ℕ) → number_to greatest word ≡ Some n → IsNumber greatest word n
number_tells greatest word n is =
    let through = let_through (passes_to greatest word) (digits_value 10 word) n is in
    let parts = and_parts (all_ascii_digits word && nat_lt 48 (slice_index word 0)) (nat_le (digits_value 10 word) greatest) through.0 in
    let front = and_parts (all_ascii_digits word) (nat_lt 48 (slice_index word 0)) parts.0 in
    let first = ltb-true 48 (slice_index word 0) front.1 in
    record {
      digits = front.0;
      first = first;
      value = through.1;
      some = subst (λ k. 1 ≤ k) through.1 (at_least_one word front.0 first);
      small = subst (λ k. k ≤ greatest) through.1 (leb-true (digits_value 10 word) greatest parts.1);
    }

some_bytes : (word : List ℕ) → 48 < slice_index word 0 → 0 < length word
some_bytes [] first = absurd (omega (arith, first))
some_bytes (b ∷ word) first = omega arith

pub number_written : (greatest : ℕ) (word : List ℕ) (n : ℕ) → greatest < 2 ^ 32 → IsNumber greatest word n → word ≡ decimal n
number_written greatest word n few is =
    let value = is.value in
    let small = is.small in
    let first = is.first in
    let written = decimal-digits_value own word is.digits (some_bytes word is.first) (λ zero. absurd (omega (arith, zero, first))) (omega (arith, value, small, few)) in
    sym written ∙ ap decimal is.value

pub number_read : (greatest n : ℕ) → greatest < 2 ^ 32 → 1 ≤ n → n ≤ greatest → number_to greatest (decimal n) ≡ Some n
number_read greatest n few some small =
    let below : n < 2 ^ 64 = omega (arith, few, small) in
    let value : digits_value 10 (decimal n) ≡ n = digits_value-decimal own n below in
    number_yes greatest (decimal n) (digits_decimal own n below) (first_decimal n (omega (arith, some)) below) (omega (arith, value, small)) ∙ ap Some value

-- what `parse` reads of a text without a sign
first_is_more : (word : List ℕ) → all_ascii_digits word ≡ true → 0 < length word → (slice_index word 0 == 48) ≡ false → 48 < slice_index word 0
first_is_more [] digits some other = absurd (omega (arith, some))
first_is_more (b ∷ word) digits some other = more b (and_parts (is_ascii_digit b) (all_ascii_digits word) digits).0 other
  where
    more : (b : ℕ) → is_ascii_digit b ≡ true → (b == 48) ≡ false → 48 < b
    more b is other = grind (arith, nat_tests)

pub parsed_number : {E : Type 0} (word : List ℕ) (r : Result ℕ E) (n : ℕ) → ParsesUnsigned 32 10 word r → (slice_index word 0 == 43) ≡ false → (slice_index word 0 == 48) ≡ false → r ≡ Ok n
    → (all_ascii_digits word ≡ true) × (48 < slice_index word 0) × (n ≡ digits_value 10 word)
parsed_number word r n parses no_plus no_zero is =
    let told = subst (λ r. OkIff r ((all_ascii_digits word ≡ true) × (0 < length word) × (digits_value 10 word < 2 ^ 32)) (digits_value 10 word)) is
    (parse_plain own 32 word r parses (λ plus. eqb-false (slice_index word 0) 43 no_plus plus)) in
    (told.0.0, first_is_more word told.0.0 told.0.1 no_zero, told.1)

pub number_parsed : (greatest : ℕ) (word : List ℕ) (n : ℕ) → (all_ascii_digits word ≡ true) × (48 < slice_index word 0) × (n ≡ digits_value 10 word) → (if nat_le n greatest then Some n else None) ≡ number_to greatest word
number_parsed greatest word n (digits, first, value) =
    (λ i. if nat_le (value i) greatest then Some (value i) else None)
    ∙ ap (λ (t : Bool). if t && nat_le (digits_value 10 word) greatest then Some (digits_value 10 word) else None) (sym (and_from (all_ascii_digits word) (nat_lt 48 (slice_index word 0)) digits (lt-ltb 48 (slice_index word 0) first)))

-- and what it doesn't read is no number
none_through : {X : Type 0} (b : Bool) (x : X) → ¬ (b ≡ true) → ◌≡◌ {A = Option X} None (if b then Some x else None)
none_through true x never = absurd (never refl)
none_through false x never = refl

pub number_not_parsed : {E : Type 0} (greatest : ℕ) (word : List ℕ) (r : Result ℕ E) (e : E) → greatest < 2 ^ 32 → ParsesUnsigned 32 10 word r → (slice_index word 0 == 43) ≡ false → r ≡ Err e → None ≡ number_to greatest word
number_not_parsed greatest word r e few parses no_plus is =
    let told = subst (λ r. OkIff r ((all_ascii_digits word ≡ true) × (0 < length word) × (digits_value 10 word < 2 ^ 32)) (digits_value 10 word)) is
    (parse_plain own 32 word r parses (λ plus. eqb-false (slice_index word 0) 43 no_plus plus)) in
    none_through (passes_to greatest word) (digits_value 10 word)
    (λ passes.
    let n = number_tells greatest word (digits_value 10 word) (ap (λ (t : Bool). if t then Some (digits_value 10 word) else None) passes) in
    let small = n.small in
    told (n.digits, some_bytes word n.first, omega (arith, small, few)))

pub numbers_are_spelled : NumbersAreSpelled
numbers_are_spelled greatest few word n = (
  (λ is. let t = number_tells greatest word n is in (number_written greatest word n few t, t.some, t.small)),
  (λ h. ap (number_to greatest) h.0 ∙ number_read greatest n few h.1 h.2),
)

-- ## Cutting at the first of a byte
place_is : (c : ℕ) (front rest : List ℕ) → has_no c front ≡ true → position_or_len (λ b. b == c) (front ++ c ∷ rest) ≡ length front
place_is c [] rest none = ap (λ (t : Bool). cond (not t) (1 + prefix_len (λ b. not (b == c)) rest) 0) (eq-eqb c c refl)
place_is c (b ∷ front) rest none =
    let parts = and_parts (not (b == c)) (has_no c front) none in
    let before = place_is c front rest parts.1 in
    ap (λ (t : Bool). cond t (1 + prefix_len (λ b. not (b == c)) (front ++ c ∷ rest)) 0) parts.0 ∙ (let one : 1 + position_or_len (λ b. b == c) (front ++ c ∷ rest) ≡ length (b ∷ front) = omega (arith, before) in one)

pub before_is : (c : ℕ) (front rest : List ℕ) → has_no c front ≡ true → before_first (λ b. b == c) (front ++ c ∷ rest) ≡ front
before_is c front rest none = ap (λ k. take k (front ++ c ∷ rest)) (place_is c front rest none) ∙ take-append_seam front (c ∷ rest)

pub after_is : (c : ℕ) (front rest : List ℕ) → has_no c front ≡ true → after_first (λ b. b == c) (front ++ c ∷ rest) ≡ rest
after_is c front rest none = ap (λ k. drop (k + 1) (front ++ c ∷ rest)) (place_is c front rest none) ∙ drop-append-add front (c ∷ rest) 1

-- the front has none of it
none_on : (t : Bool) (c b : ℕ) (front : List ℕ) → not (b == c) ≡ t → has_no c front ≡ true → has_no c (cond t (b ∷ front) []) ≡ true
none_on true c b front is rest = and_from (not (b == c)) (has_no c front) is rest
none_on false c b front is rest = refl

none_before : (c : ℕ) (word : List ℕ) → has_no c (before_first (λ b. b == c) word) ≡ true
none_before c [] = refl
none_before c (b ∷ word) =
    ap (has_no c) (take_while-cons (λ b. not (b == c)) b word) ∙ none_on (not (b == c)) c b (take_while (λ b. not (b == c)) word) refl (none_before c word)

-- where something is behind it, it is there
is_there : (c : ℕ) (word : List ℕ) → 0 < length (after_first (λ b. b == c) word) → position_or_len (λ b. b == c) word < length word
is_there c word some =
    let long : length (after_first (λ b. b == c) word) ≡ length word - (position_or_len (λ b. b == c) word + 1) = length-drop (position_or_len (λ b. b == c) word + 1) word in
    omega (arith, long, some)

pub cut_there : (c : ℕ) (word : List ℕ) → position_or_len (λ b. b == c) word < length word → word ≡ before_first (λ b. b == c) word ++ c ∷ after_first (λ b. b == c) word
cut_there c word there =
    let at : get_or word (position_or_len (λ b. b == c) word) 0 ≡ c = eqb-true _ c (passes_at_first (λ b. b == c) word 0 there) in
    split_at_first (λ b. b == c) word 0 there ∙ ap (λ b. before_first (λ b. b == c) word ++ b ∷ after_first (λ b. b == c) word) at

pub cut : (c : ℕ) (word : List ℕ) → 0 < length (after_first (λ b. b == c) word) → word ≡ before_first (λ b. b == c) word ++ c ∷ after_first (λ b. b == c) word
cut c word some = cut_there c word (is_there c word some)

-- ## Routes
-- what a test lets through of a number
through_option : {X Y : Type 0} (b : Bool) (f : X → Y) (o : Option X) (y : Y) → (if b then option_map f o else None) ≡ Some y → (b ≡ true) × ((x : X) × (o ≡ Some x) × (f x ≡ y))
through_option true f (Some x) y is = (refl, (x, refl, grind (arith, is)))
through_option true f None y is = absurd (grind (arith, is))
through_option false f o y is = absurd (grind (arith, is))

before_short : (c : ℕ) (word : List ℕ) → length (before_first (λ b. b == c) word) ≤ length word
before_short c word = grind (arith, length-take (position_or_len (λ b. b == c) word) word)

abbrev names_pass : ℕ → List ℕ → List ℕ → Bool
names_pass long host name = nat_le long longest_word && (nat_lt 0 (length host) && nat_lt 0 (length name) && list_all (λ b. not (is_equals b)) name)

abbrev made : ℕ → List ℕ → List ℕ → List ℕ → Option PlainRoute
made long host name digits =
    if names_pass long host name then option_map (λ port. record { host = host; name = name; port = port }) (number_to 65535 digits) else None

pub record Names (long : ℕ) (host name : List ℕ) : Type 0 where
  pub short : long ≤ longest_word
  pub host_some : 0 < length host
  pub name_some : 0 < length name
  pub no_equals : has_no 61 name ≡ true

names_tell : (long : ℕ) (host name : List ℕ) → names_pass long host name ≡ true → Names long host name
names_tell long host name is =
    let one = and_parts (nat_le long longest_word) (nat_lt 0 (length host) && nat_lt 0 (length name) && has_no 61 name) is in
    let two = and_parts (nat_lt 0 (length host) && nat_lt 0 (length name)) (has_no 61 name) one.1 in
    let three = and_parts (nat_lt 0 (length host)) (nat_lt 0 (length name)) two.0 in
    record {
      short = leb-true long longest_word one.0;
      host_some = ltb-true 0 (length host) three.0;
      name_some = ltb-true 0 (length name) three.1;
      no_equals = two.1;
    }

names_yes : (long : ℕ) (host name : List ℕ) → Names long host name → names_pass long host name ≡ true
names_yes long host name n =
    and_from _ _ (le-leb long longest_word n.short) (and_from _ _ (and_from _ _ (lt-ltb 0 (length host) n.host_some) (lt-ltb 0 (length name) n.name_some)) n.no_equals)

abbrev to_in : List ℕ → List ℕ
to_in word = after_first is_equals word

-- the word of a route, with its two signs
spelled_out : (r : PlainRoute) → route_word r ≡ r.host ++ 61 ∷ (r.name ++ 58 ∷ decimal r.port)
spelled_out r =
    append_assoc (r.host ++ 61 ∷ [] ++ r.name) (58 ∷ []) (decimal r.port)
    ∙ append_assoc (r.host ++ 61 ∷ []) r.name (58 ∷ decimal r.port)
    ∙ append_assoc r.host (61 ∷ []) (r.name ++ 58 ∷ decimal r.port)

pub route_tells : (word : List ℕ) (r : PlainRoute) → route_in word ≡ Some r → (word ≡ route_word r) × IsRoute r × (length word ≤ longest_word)
route_tells word r is =
    let through = through_option (names_pass (length word) (host_in word) (name_in word)) (λ port. record { host = host_in word; name = name_in word; port = port }) (number_to 65535 (port_in word)) r is in
    let port = through.1.0 in
    let names = names_tell (length word) (host_in word) (name_in word) through.0 in
    let number = number_tells 65535 (port_in word) port through.1.1 in
    let name_some : 0 < length (name_in word) = names.name_some in
    let name_short : length (name_in word) ≤ length (to_in word) = before_short 58 (to_in word) in
    let to_some : 0 < length (to_in word) = omega (arith, name_some, name_short) in
    let behind : word ≡ host_in word ++ 61 ∷ to_in word = cut 61 word to_some in
    let port_some : 0 < length (port_in word) = some_bytes (port_in word) number.first in
    let ends : to_in word ≡ name_in word ++ 58 ∷ port_in word = cut 58 (to_in word) port_some in
    let digits : port_in word ≡ decimal port = number_written 65535 (port_in word) port (omega arith) number in
    let spelled : word ≡ host_in word ++ 61 ∷ (name_in word ++ 58 ∷ decimal port) = behind ∙ ap (λ s. host_in word ++ 61 ∷ s) (ends ∙ ap (λ ds. name_in word ++ 58 ∷ ds) digits) in
    let long : length word ≡ length (host_in word) + suc (length (name_in word ++ 58 ∷ decimal port)) = ap length spelled ∙ length-append (host_in word) (61 ∷ (name_in word ++ 58 ∷ decimal port)) in
    let long_name : length (name_in word ++ 58 ∷ decimal port) ≡ length (name_in word) + suc (length (decimal port)) = length-append (name_in word) (58 ∷ decimal port) in
    let within : length word ≤ longest_word = names.short in
    let both : length (host_in word) + length (name_in word) < longest_word = omega (arith, long, long_name, within) in
    let made_of : IsRoute (record { host = host_in word; name = name_in word; port = port }) =
    record {
      host = (names.host_some, none_before 61 word);
      name = (names.name_some, names.no_equals, none_before 58 (to_in word));
      port = (number.some, number.small);
      short = both;
    } in
    subst (λ r. (word ≡ route_word r) × IsRoute r × (length word ≤ longest_word)) through.1.2 (spelled ∙ sym (spelled_out (record { host = host_in word; name = name_in word; port = port })), made_of, within)

-- where no place holds it, there is none
pub none_by_places : (c : ℕ) (word : List ℕ) → ((k : ℕ) → k < length word → get_or word k 0 ≢ c) → has_no c word ≡ true
none_by_places c [] none = refl
none_by_places c (b ∷ word) none =
    none_with (b == c) refl (none_by_places c word (λ k below same. none (suc k) (omega (arith, below)) same))
  where
    none_with : (t : Bool) → (b == c) ≡ t → has_no c word ≡ true → (not (b == c) && has_no c word) ≡ true
    none_with true is rest = absurd (none 0 (omega arith) (eqb-true b c is))
    none_with false is rest = and_from (not (b == c)) (has_no c word) (ap not is) rest

-- the parts that are cut make the route
pub parts_are_route : (word host to name digits : List ℕ) (port : ℕ) → host ≡ host_in word → to ≡ to_in word → name ≡ before_first is_colon to → digits ≡ after_first is_colon to
    → Names (length word) host name → Some port ≡ number_to 65535 digits → Some (record { host = host; name = name; port = port }) ≡ route_in word
parts_are_route word host to name digits port host_is to_is name_is digits_is names number =
    let name_cut : name ≡ name_in word = name_is ∙ ap (before_first is_colon) to_is in
    let digits_cut : digits ≡ port_in word = digits_is ∙ ap (after_first is_colon) to_is in
    ap (option_map (λ port. record { host = host; name = name; port = port })) number
    ∙ ap (λ (t : Bool). if t then option_map (λ port. record { host = host; name = name; port = port }) (number_to 65535 digits) else None) (sym (names_yes (length word) host name names))
    ∙ (λ i. made (length word) (host_is i) (name_cut i) (digits_cut i))

pub route_read : (r : PlainRoute) → IsRoute r → length (route_word r) ≤ longest_word → route_in (route_word r) ≡ Some r
route_read r is short =
    let host : host_in (route_word r) ≡ r.host = ap host_in (spelled_out r) ∙ before_is 61 r.host (r.name ++ 58 ∷ decimal r.port) is.host.1 in
    let rest : to_in (route_word r) ≡ r.name ++ 58 ∷ decimal r.port = ap to_in (spelled_out r) ∙ after_is 61 r.host (r.name ++ 58 ∷ decimal r.port) is.host.1 in
    let name : name_in (route_word r) ≡ r.name = ap (before_first is_colon) rest ∙ before_is 58 r.name (decimal r.port) is.name.2 in
    let digits : port_in (route_word r) ≡ decimal r.port = ap (after_first is_colon) rest ∙ after_is 58 r.name (decimal r.port) is.name.2 in
    let names = names_yes (length (route_word r)) r.host r.name (record { short = short; host_some = is.host.0; name_some = is.name.0; no_equals = is.name.1 }) in
    (λ i. made (length (route_word r)) (host i) (name i) (digits i))
    ∙ ap (λ (t : Bool). if t then option_map (λ port. record { host = r.host; name = r.name; port = port }) (number_to 65535 (decimal r.port)) else None) names
    ∙ ap (option_map (λ port. record { host = r.host; name = r.name; port = port })) (number_read 65535 r.port (omega arith) is.port.0 is.port.1)

pub routes_are_spelled : RoutesAreSpelled
routes_are_spelled word r =
    (route_tells word r, (λ h. ap route_in h.0 ∙ route_read r h.1 (subst (λ w. length w ≤ longest_word) h.0 h.2)))

-- ## Pairs of the environment
-- where one of the bytes is this one, the first of them stands somewhere
any_there : (c : ℕ) (word : List ℕ) → list_any (λ b. b == c) word ≡ true → position_or_len (λ b. b == c) word < length word
any_there c [] is = absurd (cc is)
any_there c (b ∷ word) is = there_on (b == c) refl (λ later. any_there c word later)
  where
    there_on : (t : Bool) → (b == c) ≡ t → (list_any (λ b. b == c) word ≡ true → position_or_len (λ b. b == c) word < length word) → position_or_len (λ b. b == c) (b ∷ word) < length (b ∷ word)
    there_on true e rest =
        let here : position_or_len (λ b. b == c) (b ∷ word) ≡ 0 = ap (λ (t : Bool). cond (not t) (1 + prefix_len (λ b. not (b == c)) word) 0) e in
        omega (arith, here)
    there_on false e rest =
        let later = rest (sym (ap (λ (t : Bool). t || list_any (λ b. b == c) word) e) ∙ is) in
        let here : position_or_len (λ b. b == c) (b ∷ word) ≡ 1 + position_or_len (λ b. b == c) word = ap (λ (t : Bool). cond (not t) (1 + prefix_len (λ b. not (b == c)) word) 0) e in
        omega (arith, here, later)

-- and one is where it stands between two parts
any_between : (c : ℕ) (front rest : List ℕ) → list_any (λ b. b == c) (front ++ c ∷ rest) ≡ true
any_between c [] rest = ap (λ (t : Bool). t || list_any (λ b. b == c) rest) (eq-eqb c c refl)
any_between c (b ∷ front) rest = or_true (b == c) _ (any_between c front rest)

pub there_any : (c : ℕ) (word : List ℕ) → position_or_len (λ b. b == c) word < length word → list_any (λ b. b == c) word ≡ true
there_any c word there = ap (list_any (λ b. b == c)) (cut_there c word there) ∙ any_between c (before_first (λ b. b == c) word) (after_first (λ b. b == c) word)

-- and where it is none of them there is no pair
pub no_env : (word : List ℕ) → position_or_len is_equals word ≡ length word → env_in word ≡ None
no_env word nowhere = by (list_any is_equals word) refl
  where
    by : (t : Bool) → list_any is_equals word ≡ t → env_in word ≡ None
    by true e = let there = any_there 61 word e in absurd (omega (arith, there, nowhere))
    by false e = ap (λ (t : Bool). if t && nat_le (length word) longest_word && nat_lt 0 (length (key_in word)) then Some (key_in word, value_in word) else None) e

abbrev env_passes : List ℕ → Bool
env_passes word = list_any is_equals word && nat_le (length word) longest_word && nat_lt 0 (length (key_in word))

env_spelled : (p : List ℕ × List ℕ) → env_word p ≡ p.0 ++ 61 ∷ p.1
env_spelled p = append_assoc p.0 (61 ∷ []) p.1

pub env_tells : (word : List ℕ) (p : List ℕ × List ℕ) → env_in word ≡ Some p → (word ≡ env_word p) × IsEnv p
env_tells word p is =
    let through = let_through (env_passes word) (key_in word, value_in word) p is in
    let parts = and_parts (list_any is_equals word && nat_le (length word) longest_word) (nat_lt 0 (length (key_in word))) through.0 in
    let front = and_parts (list_any is_equals word) (nat_le (length word) longest_word) parts.0 in
    let within = leb-true (length word) longest_word front.1 in
    let spelled : word ≡ key_in word ++ 61 ∷ value_in word = cut_there 61 word (any_there 61 word front.0) in
    let long : length word ≡ length (key_in word) + suc (length (value_in word)) = ap length spelled ∙ length-append (key_in word) (61 ∷ value_in word) in
    let short : length (key_in word) + length (value_in word) < longest_word = omega (arith, long, within) in
    subst (λ p. (word ≡ env_word p) × IsEnv p) through.1
    (spelled ∙ sym (env_spelled (key_in word, value_in word)), record { key = (ltb-true 0 (length (key_in word)) parts.1, none_before 61 word); short = short })

pub env_read : (p : List ℕ × List ℕ) → IsEnv p → env_in (env_word p) ≡ Some p
env_read p is =
    let word = env_word p in
    let key : key_in word ≡ p.0 = ap key_in (env_spelled p) ∙ before_is 61 p.0 p.1 is.key.1 in
    let value : value_in word ≡ p.1 = ap value_in (env_spelled p) ∙ after_is 61 p.0 p.1 is.key.1 in
    let long : length word ≡ length p.0 + suc (length p.1) = ap length (env_spelled p) ∙ length-append p.0 (61 ∷ p.1) in
    let short = is.short in
    let some = is.key.0 in
    let within : length word ≤ longest_word = omega (arith, long, short) in
    let has : list_any is_equals word ≡ true = ap (list_any is_equals) (env_spelled p) ∙ any_between 61 p.0 p.1 in
    let begins : 0 < length (key_in word) = subst (λ k. 0 < length k) (sym key) some in
    let passes : env_passes word ≡ true = and_from _ _ (and_from _ _ has (le-leb (length word) longest_word within)) (lt-ltb 0 (length (key_in word)) begins) in
    ap (λ (t : Bool). if t then Some (key_in word, value_in word) else None) passes ∙ (λ i. Some (key i, value i))

pub envs_are_spelled : EnvsAreSpelled
envs_are_spelled word p = (env_tells word p, λ h. ap env_in h.0 ∙ env_read p h.1)

-- the parts that are cut make the pair
pub parts_are_env : (word key value : List ℕ) → key ≡ key_in word → value ≡ value_in word → list_any is_equals word ≡ true → length word ≤ longest_word → 0 < length key → Some (key, value) ≡ env_in word
parts_are_env word key value key_is value_is has within some =
    let begins : 0 < length (key_in word) = subst (λ k. 0 < length k) key_is some in
    let passes : env_passes word ≡ true = and_from _ _ (and_from _ _ has (le-leb (length word) longest_word within)) (lt-ltb 0 (length (key_in word)) begins) in
    (λ i. Some (key_is i, value_is i)) ∙ sym (ap (λ (t : Bool). if t then Some (key_in word, value_in word) else None) passes)

-- ## Counts of turns
zero_written : decimal 0 ≡ codes "0"
zero_written = decimal-digits_value own (codes "0") refl (omega arith) (λ zero. refl) (omega arith)

turn_by : (word : List ℕ) (n : ℕ) (t : Bool) → bytes_eq word (codes "0") ≡ t → (if t then Some 0 else number_to 4294967295 word) ≡ Some n → (word ≡ decimal n) × (n ≤ 4294967295)
turn_by word n true e is =
    let zero : 0 ≡ n = grind (arith, is) in
    ((bytes_eq-Decides word (codes "0")).0 e ∙ sym zero_written ∙ ap decimal zero, omega (arith, zero))
turn_by word n false e is = let t = number_tells 4294967295 word n is in (number_written 4294967295 word n (omega arith) t, t.small)

turn_read : (n : ℕ) → n ≤ 4294967295 → (t : Bool) → bytes_eq (decimal n) (codes "0") ≡ t → (if t then Some 0 else number_to 4294967295 (decimal n)) ≡ Some n
turn_read n small true e =
    let value : digits_value 10 (decimal n) ≡ n = digits_value-decimal own n (omega (arith, small)) in
    let zero : 0 ≡ n = ap (digits_value 10) (sym ((bytes_eq-Decides (decimal n) (codes "0")).0 e)) ∙ value in
    ap Some zero
turn_read n small false e = number_read 4294967295 n (omega arith) (some n e) small
  where
    some : (n : ℕ) → bytes_eq (decimal n) (codes "0") ≡ false → 1 ≤ n
    some zero e = let same = (bytes_eq-Decides (decimal 0) (codes "0")).1 zero_written in absurd (grind (arith, e, same))
    some (suc n) e = omega arith

pub turns_are_spelled : TurnsAreSpelled
turns_are_spelled word n = (
  turn_by word n (bytes_eq word (codes "0")) refl,
  λ h. ap turn_in h.0 ∙ turn_read n h.1 (bytes_eq (decimal n) (codes "0")) refl,
)
