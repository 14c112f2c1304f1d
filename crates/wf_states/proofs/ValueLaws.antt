-- Values: what is read was spelled so, and what is spelled so is read.
use Rattle.std.proofs.Common.{◌≡◌, FitsSigned, ℕ, zero, suc, ◌≤◌, ◌<◌, ◌^◌, ℤ, Bool, true, false, List, [], ◌∷◌, ◌++◌, length, None, Ok, Err, refl, sym, ap, subst, ◌∙◌, arith}
use Rattle.std.specs.Int.{w64, cast_signed, cast_unsigned}
use Rattle.std.specs.List.{AllByRecursion, flat_map}
use Rattle.std.proofs.lemmas.Int.{to_z-of_z, of_z-to_z}
use mir.ValLaws.{of_z_fits}
use borrow.Author.Differences.{fits_in, read_fits}
use Rattle.std.proofs.lemmas.List.Concat.{flat_map-cons}
use Rattle.wf_record_parts.proofs.Parts.{ok_is, first_of_two, first_again, by_code, bytes-rest, reads_64, reads_string, reads_text, reads_list}
use Rattle.wf_record_parts.specs.Laws.{AreBytes, TakesAgain, Reads}
use Rattle.wf_record_parts.specs.Reading.{Read, number_at, string_at, text_at, list_at}
use Rattle.wf_record_parts.specs.Spelling.{Bytes, four, eight, string, listed, Fits64, Each, IsString, IsText}
use Rattle.wf_states.proofs.Combined.{Coded, coded_takes, alone_takes, reads_as, reads_same}
use Rattle.wf_states.proofs.Rises.{reads_rising}
use Rattle.wf_states.specs.Reading.{signed_at, truth_at, scalar_at, value_in, value_at, variables_at}
use Rattle.wf_states.specs.Rising.{as_made, both, BothFit, is_rising, rising_at, AreRising}
use Rattle.wf_states.specs.Spelling.{signed, items_count, pairs_count, value, items_bytes, pairs_bytes, variables, truth, less_key, IsWritten, AreWritten, IsValue, ArePairs, AreVariables}
use Rattle.wf_value.specs.Data as plain
use Rattle.wf_value.specs.Data.{Data, Items, no_items, Pairs, no_pairs, items_of, pairs_of, depth, items_depth, pairs_depth}
use Rattle.wf_value.specs.Pairs.{Text, items, pair_list}

-- ## Whole numbers
signed_fits : (n : ℕ) → n < 2 ^ 64 → FitsSigned w64 (cast_signed w64 n)
signed_fits n lt = fits_in w64 (cast_signed w64 n) (omega (arith, read_fits w64 n))

below : (z : ℤ) → FitsSigned w64 z → cast_unsigned w64 z < 2 ^ 64
below z f = (of_z_fits w64 z f).fits

abbrev pub IsInteger : ℤ → Type 0
IsInteger z = FitsSigned w64 z

signed_takes : (bytes : Bytes) (z : ℤ) (rest : Bytes) → AreBytes bytes → signed_at bytes ≡ Ok (z, rest) → (bytes ≡ signed z ++ rest) × AreBytes rest × IsInteger z
signed_takes bytes z rest are e =
    let a = first_of_two (number_at w64) eight Fits64 reads_64 bytes (λ n l. Ok (cast_signed w64 n, l)) (z, rest) are e in
    let is = ok_is (cast_signed w64 a.what, a.rest) (z, rest) a.goes_on in
    subst (λ (q : ℤ × Bytes). (bytes ≡ signed q.0 ++ q.1) × AreBytes q.1 × IsInteger q.0) is
    (a.parts ∙ ap (λ (n : ℕ). eight n ++ a.rest) (sym (of_z-to_z w64 a.what a.fits)), a.are_bytes, signed_fits a.what a.fits)

signed_again : TakesAgain signed_at signed IsInteger
signed_again z rest fits =
    first_again (number_at w64) eight Fits64 reads_64.again (cast_unsigned w64 z) rest (λ n l. Ok (cast_signed w64 n, l)) (below z fits) ∙ ap (λ (y : ℤ). Ok (y, rest)) (to_z-of_z w64 z fits)

pub reads_signed : Reads signed_at signed IsInteger
reads_signed = record { takes = signed_takes; again = signed_again }

-- ## Truth values
abbrev pub IsTruth : Bool → Type 0
IsTruth b = Unit {0}

truth_takes : (bytes : Bytes) (b : Bool) (rest : Bytes) → AreBytes bytes → truth_at bytes ≡ Ok (b, rest) → (bytes ≡ truth b ++ rest) × AreBytes rest × IsTruth b
unfolding truth_at
truth_takes [] b rest are h = absurd cc
truth_takes (kind ∷ bytes) b rest are h =
    let P : Type 0 = Coded truth IsTruth kind bytes b rest in
    let behind = bytes-rest kind bytes are in
    by_code P kind 0 _ _ _ h (alone_takes truth IsTruth false 0 refl tt kind bytes b rest behind) (λ h1.
    by_code P kind 1 _ _ _ h1 (alone_takes truth IsTruth true 1 refl tt kind bytes b rest behind) (λ h2. absurd cc))

truth_again : TakesAgain truth_at truth IsTruth
unfolding truth_at
truth_again false rest fits = refl
truth_again true rest fits = refl

pub reads_truth : Reads truth_at truth IsTruth
reads_truth = record { takes = truth_takes; again = truth_again }

-- ## Lists of a tree
items_of-items : (ds : Items) → items_of (items ds) ≡ ds
items_of-items no_items = refl
items_of-items (plain.item d ds) = ap (plain.item d) (items_of-items ds)

pairs_of-pair_list : (ps : Pairs) → pairs_of (pair_list ps) ≡ ps
pairs_of-pair_list no_pairs = refl
pairs_of-pair_list (plain.pair k d ps) = ap (plain.pair k d) (pairs_of-pair_list ps)

pair_list-pairs_of : (ps : List (Text × Data)) → pair_list (pairs_of ps) ≡ ps
pair_list-pairs_of [] = refl
pair_list-pairs_of (p ∷ ps) = ap (λ (l : List (Text × Data)). p ∷ l) (pair_list-pairs_of ps)

items-items_of : (ds : List Data) → items (items_of ds) ≡ ds
items-items_of [] = refl
items-items_of (d ∷ ds) = ap (λ (l : List Data). d ∷ l) (items-items_of ds)

counted : (ds : Items) → items_count ds ≡ length (items ds)
counted no_items = refl
counted (plain.item d ds) = ap suc (counted ds)

spelled : (ds : Items) → items_bytes ds ≡ flat_map value (items ds)
spelled no_items = refl
spelled (plain.item d ds) = ap (λ (l : Bytes). value d ++ l) (spelled ds) ∙ sym (flat_map-cons value d (items ds))

pairs_counted : (ps : Pairs) → pairs_count ps ≡ length (pair_list ps)
pairs_counted no_pairs = refl
pairs_counted (plain.pair k d ps) = ap suc (pairs_counted ps)

pairs_spelled : (ps : Pairs) → pairs_bytes ps ≡ flat_map (both string value) (pair_list ps)
pairs_spelled no_pairs = refl
pairs_spelled (plain.pair k d ps) = ap (λ (l : Bytes). (string k ++ value d) ++ l) (pairs_spelled ps) ∙ sym (flat_map-cons (both string value) (k, d) (pair_list ps))

list_is : (ds : Items) → value (plain.list ds) ≡ 5 ∷ listed value (items ds)
list_is ds = ap (λ (n : ℕ). 5 ∷ four n ++ items_bytes ds) (counted ds) ∙ ap (λ (l : Bytes). 5 ∷ four (length (items ds)) ++ l) (spelled ds)

variables_are : (ps : Pairs) → variables ps ≡ listed (both string value) (pair_list ps)
variables_are ps = ap (λ (n : ℕ). four n ++ pairs_bytes ps) (pairs_counted ps) ∙ ap (λ (l : Bytes). four (length (pair_list ps)) ++ l) (pairs_spelled ps)

-- ## How deep a reader goes
abbrev pub IsIn : ℕ → Data → Type 0
IsIn n v = IsWritten v × (depth v ≤ n)

all_in : (n : ℕ) (ds : Items) → AreWritten ds → items_depth ds ≤ n → AllByRecursion (IsIn n) (items ds)
all_in n no_items are low = tt
all_in n (plain.item d ds) are low = ((are.0, omega (arith, low)), all_in n ds are.1 (omega (arith, low)))

are_in : (n : ℕ) (ds : List Data) → AllByRecursion (IsIn n) ds → AreWritten (items_of ds) × (items_depth (items_of ds) ≤ n)
are_in n [] all = (tt, omega arith)
are_in n (d ∷ ds) all = let r = are_in n ds all.1 in ((all.0.0, r.0), omega (arith, all.0.1, r.1))

all_pairs_in : (n : ℕ) (ps : Pairs) → ArePairs ps → pairs_depth ps ≤ n → AllByRecursion (BothFit IsText (IsIn n)) (pair_list ps)
all_pairs_in n no_pairs are low = tt
all_pairs_in n (plain.pair k d ps) are low = ((are.0.0, (are.0.1, omega (arith, low))), all_pairs_in n ps are.1 (omega (arith, low)))

are_pairs_in : (n : ℕ) (ps : List (Text × Data)) → AllByRecursion (BothFit IsText (IsIn n)) ps → ArePairs (pairs_of ps) × (pairs_depth (pairs_of ps) ≤ n)
are_pairs_in n [] all = (tt, omega arith)
are_pairs_in n (p ∷ ps) all = let r = are_pairs_in n ps all.1 in (((all.0.0, all.0.1.0), r.0), omega (arith, all.0.1.1, r.1))

-- ## Values
boolean_spelled : (b : Bool) → value (plain.boolean b) ≡ 1 ∷ truth b
boolean_spelled true = refl
boolean_spelled false = refl

abbrev list_made : List Data → Data
list_made ds = plain.list (items_of ds)

abbrev map_made : List (Text × Data) → Data
map_made ps = plain.map (pairs_of ps)

list_spelled : (ds : List Data) → value (list_made ds) ≡ 5 ∷ listed value ds
list_spelled ds = list_is (items_of ds) ∙ ap (λ (l : List Data). 5 ∷ listed value l) (items-items_of ds)

map_spelled : (ps : List (Text × Data)) → value (map_made ps) ≡ 6 ∷ listed (both string value) ps
map_spelled ps = ap (λ (l : Bytes). 6 ∷ l) (variables_are (pairs_of ps)) ∙ ap (λ (l : List (Text × Data)). 6 ∷ listed (both string value) l) (pair_list-pairs_of ps)

abbrev AreNamed : ℕ → List (Text × Data) → Type 0
AreNamed n = AreRising less_key IsText (IsIn n)

list_has : (n : ℕ) (ds : List Data) → Each (IsIn n) ds → IsIn (suc n) (list_made ds)
list_has n ds fits = let r = are_in n ds fits.1 in ((omega (arith, fits.0, counted (items_of ds), ap length (items-items_of ds)), r.0), omega (arith, r.1))

map_has : (n : ℕ) (ps : List (Text × Data)) → AreNamed n ps → IsIn (suc n) (map_made ps)
map_has n ps fits = let r = are_pairs_in n ps fits.1 in (
  (omega (arith, fits.0, pairs_counted (pairs_of ps), ap length (pair_list-pairs_of ps)), r.0, ap (is_rising less_key None) (pair_list-pairs_of ps) ∙ fits.2),
  omega (arith, r.1),
)

module _ (n : ℕ) (bytes : Bytes) (x : Data) (rest : Bytes) (kind : ℕ) (are : AreBytes bytes) where
  abbrev Scalar : Type 0
  Scalar = Coded value (IsIn n) kind bytes x rest

  -- a scalar, or what is read otherwise
  scalar_takes : (others : Read Data) → scalar_at kind bytes others ≡ Ok (x, rest) → (others ≡ Ok (x, rest) → Scalar) → Scalar
  scalar_takes others h behind =
      by_code Scalar kind 0 _ _ _ h (alone_takes value (IsIn n) plain.null 0 refl (tt, omega arith) kind bytes x rest are) (λ h1.
      by_code Scalar kind 1 _ _ _ h1 (coded_takes value (IsIn n) truth_at truth IsTruth reads_truth plain.boolean 1 boolean_spelled (λ b f. (tt, omega arith)) kind bytes x rest are) (λ h2.
      by_code Scalar kind 2 _ _ _ h2 (coded_takes value (IsIn n) signed_at signed IsInteger reads_signed plain.integer 2 (λ b. refl) (λ b f. (f, omega arith)) kind bytes x rest are) (λ h3.
      by_code Scalar kind 3 _ _ _ h3 (coded_takes value (IsIn n) text_at string IsText reads_text plain.text 3 (λ b. refl) (λ b f. (f, omega arith)) kind bytes x rest are) (λ h4.
      by_code Scalar kind 4 _ _ _ h4 (coded_takes value (IsIn n) string_at string IsString reads_string plain.bytes 4 (λ b. refl) (λ b f. (f, omega arith)) kind bytes x rest are) behind))))

zero_takes : (bytes : Bytes) (x : Data) (rest : Bytes) → AreBytes bytes → value_in 0 bytes ≡ Ok (x, rest) → (bytes ≡ value x ++ rest) × AreBytes rest × IsIn 0 x
unfolding value_in
zero_takes [] x rest are h = absurd cc
zero_takes (kind ∷ bytes) x rest are h = scalar_takes 0 bytes x rest kind (bytes-rest kind bytes are) (Err (length (kind ∷ bytes))) h (λ h5. absurd cc)

zero_again : TakesAgain (value_in 0) value (IsIn 0)
unfolding value_in
zero_again plain.null rest fits = refl
zero_again (plain.boolean false) rest fits = ap (as_made plain.boolean) (reads_truth.again false rest tt)
zero_again (plain.boolean true) rest fits = ap (as_made plain.boolean) (reads_truth.again true rest tt)
zero_again (plain.integer z) rest fits = ap (as_made plain.integer) (reads_signed.again z rest fits.0)
zero_again (plain.text s) rest fits = ap (as_made plain.text) (reads_text.again s rest fits.0)
zero_again (plain.bytes s) rest fits = ap (as_made plain.bytes) (reads_string.again s rest fits.0)
zero_again (plain.list ds) rest fits = absurd (omega (arith, fits.1))
zero_again (plain.map ps) rest fits = absurd (omega (arith, fits.1))

-- one deeper than what is read already
module _ (n : ℕ) (reads : Reads (value_in n) value (IsIn n)) where
  reads_list_in : Reads (list_at (value_in n)) (listed value) (Each (IsIn n))
  reads_list_in = reads_list (value_in n) value (IsIn n) reads

  reads_map_in : Reads (rising_at less_key text_at (value_in n)) (listed (both string value)) (AreNamed n)
  reads_map_in = reads_rising less_key text_at string IsText reads_text (value_in n) value (IsIn n) reads

  value_takes : (bytes : Bytes) (x : Data) (rest : Bytes) → AreBytes bytes → value_in (suc n) bytes ≡ Ok (x, rest) → (bytes ≡ value x ++ rest) × AreBytes rest × IsIn (suc n) x
  unfolding value_in
  value_takes [] x rest are h = absurd cc
  value_takes (kind ∷ bytes) x rest are h =
      let Has : Data → Type 0 = IsIn (suc n) in
      let P : Type 0 = Coded value Has kind bytes x rest in
      let behind = bytes-rest kind bytes are in
      scalar_takes (suc n) bytes x rest kind behind _ h (λ h5.
      by_code P kind 5 _ _ _ h5 (coded_takes value Has (list_at (value_in n)) (listed value) (Each (IsIn n)) reads_list_in list_made 5 list_spelled (list_has n) kind bytes x rest behind) (λ h6.
      by_code P kind 6 _ _ _ h6 (coded_takes value Has (rising_at less_key text_at (value_in n)) (listed (both string value)) (AreNamed n) reads_map_in map_made 6 map_spelled (map_has n) kind bytes x rest behind)
      (λ h7. absurd cc)))

  value_again : TakesAgain (value_in (suc n)) value (IsIn (suc n))
  unfolding value_in
  value_again plain.null rest fits = refl
  value_again (plain.boolean false) rest fits = ap (as_made plain.boolean) (reads_truth.again false rest tt)
  value_again (plain.boolean true) rest fits = ap (as_made plain.boolean) (reads_truth.again true rest tt)
  value_again (plain.integer z) rest fits = ap (as_made plain.integer) (reads_signed.again z rest fits.0)
  value_again (plain.text s) rest fits = ap (as_made plain.text) (reads_text.again s rest fits.0)
  value_again (plain.bytes s) rest fits = ap (as_made plain.bytes) (reads_string.again s rest fits.0)
  value_again (plain.list ds) rest fits =
      let each : Each (IsIn n) (items ds) = (omega (arith, fits.0.0, counted ds), all_in n ds fits.0.1 (omega (arith, fits.1))) in
      ap (λ (l : Bytes). value_in (suc n) (l ++ rest)) (list_is ds)
      ∙ ap (as_made list_made) (reads_list_in.again (items ds) rest each)
      ∙ ap (λ (l : Items). Ok (plain.list l, rest)) (items_of-items ds)
  value_again (plain.map ps) rest fits =
      let each : AreNamed n (pair_list ps) = (omega (arith, fits.0.0, pairs_counted ps), all_pairs_in n ps fits.0.1 (omega (arith, fits.1)), fits.0.2) in
      ap (λ (l : Bytes). value_in (suc n) ((6 ∷ l) ++ rest)) (variables_are ps)
      ∙ ap (as_made map_made) (reads_map_in.again (pair_list ps) rest each)
      ∙ ap (λ (l : Pairs). Ok (plain.map l, rest)) (pairs_of-pair_list ps)

pub reads_in : (n : ℕ) → Reads (value_in n) value (IsIn n)
reads_in zero = record { takes = zero_takes; again = zero_again }
reads_in (suc n) = record { takes = value_takes n (reads_in n); again = value_again n (reads_in n) }

pub reads_value : Reads value_at value IsValue
reads_value = reads_in 100

-- ## Variables
abbrev AreVariablesOf : List (Text × Data) → Type 0
AreVariablesOf = AreNamed 100

has_variables : (ps : Pairs) → AreVariablesOf (pair_list ps) → AreVariables ps
has_variables ps f =
    let r = are_pairs_in 100 (pair_list ps) f.1 in
    let same = pairs_of-pair_list ps in
    (omega (arith, f.0, pairs_counted ps), subst ArePairs same r.0, f.2, subst (λ (q : Pairs). pairs_depth q ≤ 100) same r.1)

pub reads_variables : Reads variables_at variables AreVariables
reads_variables =
    reads_same variables_at (λ ps. listed (both string value) (pair_list ps)) variables (λ ps. AreVariablesOf (pair_list ps)) AreVariables
    (reads_as (rising_at less_key text_at value_at) (listed (both string value)) AreVariablesOf (reads_rising less_key text_at string IsText reads_text value_at value IsValue reads_value) pairs_of pair_list (λ ps f. pair_list-pairs_of ps) pairs_of-pair_list)
    variables_are
    has_variables
    (λ ps f. (omega (arith, f.0, pairs_counted ps), all_pairs_in 100 ps f.1 f.3, f.2))
