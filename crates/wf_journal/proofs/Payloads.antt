-- What files from a gate on stand for.
use Rattle.std.proofs.Common.{◌≡◌, ◌≢◌, inl, inr, ℕ, zero, suc, ◌+◌, ◌<◌, ◌≤◌, ◌^◌, Bool, if◌then◌else◌, true, false, List, [], ◌∷◌, ◌++◌, length, take, drop, refl, sym, ◌∙◌, ap, subst, arith, length-append, length-drop, length-take}
use Rattle.std.proofs.lemmas.Bool.{cases_eq, lt-ltb}
use Rattle.std.proofs.lemmas.Bool.Decides.{nat_tests}
use Rattle.std.proofs.lemmas.List.{take_at, drop_at, drop-drop, drop-take, take-take, take_all, take-append-le, drop-append-le, length-take-le}
use Rattle.std.proofs.lemmas.Nat.{from_be_bytes-to_be_bytes_4}
use Rattle.std.specs.Int.{w32, from_be_bytes}
use Rattle.wf_journal.specs.Records.{is_open, payloads, records_from, length_of}
use Rattle.wf_journal.specs.Standing.{nothing}
use Rattle.wf_journal.specs.Writing.{spelled}

-- enough turns are enough
same_fuel : (n m : ℕ) (bytes : List ℕ) → length bytes ≤ n → length bytes ≤ m → payloads n bytes ≡ payloads m bytes
unfolding payloads
same_fuel zero zero [] le lm = refl
same_fuel zero (suc m) [] le lm = refl
same_fuel (suc n) zero [] le lm = refl
same_fuel (suc n) (suc m) [] le lm = refl
same_fuel zero m (gate ∷ rest) le lm = absurd (omega arith)
same_fuel (suc n) zero (gate ∷ rest) le lm = absurd (omega arith)
same_fuel (suc n) (suc m) (gate ∷ rest) le lm =
    let more = same_fuel n m (drop (4 + length_of rest) rest) (omega (arith, length-drop (4 + length_of rest) rest)) (omega (arith, length-drop (4 + length_of rest) rest)) in
    ap (λ (l : List (List ℕ)). if is_open gate rest then take (length_of rest) (drop 4 rest) ∷ l else []) more

pub closed : (gate : ℕ) (rest : List ℕ) → is_open gate rest ≡ false → records_from (gate ∷ rest) ≡ []
unfolding payloads
closed gate rest shut = ap (λ (b : Bool). if b then take (length_of rest) (drop 4 rest) ∷ payloads (length rest) (drop (4 + length_of rest) rest) else []) shut

pub opened : (gate : ℕ) (rest : List ℕ) → is_open gate rest ≡ true → records_from (gate ∷ rest) ≡ take (length_of rest) (drop 4 rest) ∷ records_from (drop (4 + length_of rest) rest)
unfolding payloads
opened gate rest is =
    ap (λ (b : Bool). if b then take (length_of rest) (drop 4 rest) ∷ payloads (length rest) (drop (4 + length_of rest) rest) else []) is
    ∙ ap (λ (l : List (List ℕ)). take (length_of rest) (drop 4 rest) ∷ l)
    (same_fuel (length rest) (length (drop (4 + length_of rest) rest)) (drop (4 + length_of rest) rest) (omega (arith, length-drop (4 + length_of rest) rest)) (omega arith))

-- a byte other than 1 is no open gate
pub not_one : (gate : ℕ) (rest : List ℕ) → gate ≢ 1 → is_open gate rest ≡ false
unfolding is_open
not_one gate rest ne = grind (arith, nat_tests)

pub none_behind : (gate : ℕ) (rest : List ℕ) → gate ≢ 1 → records_from (gate ∷ rest) ≡ []
none_behind gate rest ne = closed gate rest (not_one gate rest ne)

-- what stands behind a gate that isn't open doesn't make another byte there open
pub stays_shut : (gate other : ℕ) (rest : List ℕ) → gate ≡ 1 → records_from (gate ∷ rest) ≡ [] → records_from (other ∷ rest) ≡ []
stays_shut gate other rest one none = elim (cases_eq other 1) [
  | inl is ↦ subst (λ (g : ℕ). records_from (g ∷ rest) ≡ []) (one ∙ sym is) none
  | inr isnt ↦ none_behind other rest isnt
]

length_of_spelled : (payload ahead : List ℕ) → length payload < 2 ^ 32 → length_of (spelled payload ++ ahead) ≡ length payload
unfolding length_of
length_of_spelled payload ahead short = from_be_bytes-to_be_bytes_4 (length payload) short

opens : (payload ahead : List ℕ) → length payload < 2 ^ 32 → 0 < length ahead → is_open 1 (spelled payload ++ ahead) ≡ true
unfolding is_open
opens payload ahead short some =
    lt-ltb (4 + length_of (spelled payload ++ ahead)) (length (spelled payload ++ ahead))
    (omega (arith, length_of_spelled payload ahead short, length-append payload ahead))

-- behind an open gate a payload counts, and then what stands behind it
pub open_then : (payload ahead : List ℕ) → length payload < 2 ^ 32 → 0 < length ahead → records_from (1 ∷ spelled payload ++ ahead) ≡ payload ∷ records_from ahead
open_then payload ahead short some =
    let long = length_of_spelled payload ahead short in
    let it : take (length_of (spelled payload ++ ahead)) (drop 4 (spelled payload ++ ahead)) ≡ payload =
    ap (λ (n : ℕ). take n (payload ++ ahead)) long ∙ take_at payload ahead (length payload) refl in
    let rest : drop (4 + length_of (spelled payload ++ ahead)) (spelled payload ++ ahead) ≡ ahead =
    ap (λ (n : ℕ). drop (4 + n) (spelled payload ++ ahead)) long ∙ sym (drop-drop (length payload) 4 (spelled payload ++ ahead))
    ∙ drop_at payload ahead (length payload) refl in
    opened 1 (spelled payload ++ ahead) (opens payload ahead short some)
    ∙ ap (λ (l : List ℕ). l ∷ records_from (drop (4 + length_of (spelled payload ++ ahead)) (spelled payload ++ ahead))) it
    ∙ ap (λ (l : List ℕ). payload ∷ records_from l) rest

no_room : (gate : ℕ) → is_open gate [] ≡ false
unfolding is_open
no_room gate = grind (arith, nat_tests)

-- a gate byte alone isn't open
pub few_none : (bytes : List ℕ) → length bytes ≤ 1 → records_from bytes ≡ []
few_none [] short = nothing
few_none (gate ∷ []) short = closed gate [] (no_room gate)
few_none (a ∷ b ∷ rest) short = absurd (omega arith)

pub is_open_one : (rest : List ℕ) → 4 + length_of rest < length rest → is_open 1 rest ≡ true
unfolding is_open
is_open_one rest long = lt-ltb (4 + length_of rest) (length rest) long

pub not_long : (gate : ℕ) (rest : List ℕ) → length rest ≤ 4 + length_of rest → is_open gate rest ≡ false
unfolding is_open
not_long gate rest short = grind (arith, nat_tests)

-- four bytes are their number, whatever follows
pub length_of_take : (rest : List ℕ) → length_of rest ≡ from_be_bytes w32 (take 4 rest)
unfolding length_of
length_of_take rest = refl

-- what is before the end of an open block counts, whatever follows
pub block_then : (rest ahead : List ℕ) → 4 + length_of rest < length rest → 0 < length ahead
    → records_from (1 ∷ take (4 + length_of rest) rest ++ ahead) ≡ take (length_of rest) (drop 4 rest) ∷ records_from ahead
block_then rest ahead long some =
    let n = 4 + length_of rest in
    let front = take n rest in
    let length_front : length front ≡ n = length-take-le n rest (omega (arith, long)) in
    let four : take 4 (front ++ ahead) ≡ take 4 rest = take-append-le 4 front ahead (omega (arith, length_front)) ∙ take-take 4 n rest (omega arith) in
    let same : length_of (front ++ ahead) ≡ length_of rest = length_of_take (front ++ ahead) ∙ ap (λ (l : List ℕ). from_be_bytes w32 l) four ∙ sym (length_of_take rest) in
    let is : is_open 1 (front ++ ahead) ≡ true = is_open_one (front ++ ahead) (omega (arith, same, length-append front ahead, length_front, some)) in
    let it : take (length_of (front ++ ahead)) (drop 4 (front ++ ahead)) ≡ take (length_of rest) (drop 4 rest) =
    ap (λ (m : ℕ). take m (drop 4 (front ++ ahead))) same ∙ ap (λ (l : List ℕ). take (length_of rest) l) (drop-append-le 4 front ahead (omega (arith, length_front)))
    ∙ take-append-le (length_of rest) (drop 4 front) ahead (omega (arith, length-drop 4 front, length_front))
    ∙ ap (λ (l : List ℕ). take (length_of rest) l) (drop-take 4 (length_of rest) rest) ∙ take_all (length_of rest) (take (length_of rest) (drop 4 rest)) (omega (arith, length-take (length_of rest) (drop 4 rest))) in
    let rest_is : drop (4 + length_of (front ++ ahead)) (front ++ ahead) ≡ ahead = ap (λ (m : ℕ). drop (4 + m) (front ++ ahead)) same ∙ drop_at front ahead n length_front in
    opened 1 (front ++ ahead) is ∙ ap (λ (l : List ℕ). l ∷ records_from (drop (4 + length_of (front ++ ahead)) (front ++ ahead))) it
    ∙ ap (λ (l : List ℕ). take (length_of rest) (drop 4 rest) ∷ records_from l) rest_is
