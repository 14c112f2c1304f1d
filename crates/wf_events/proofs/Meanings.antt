-- Records that are read by now: what is read was spelled so, and what is spelled so is read.
use Rattle.std.proofs.Common.{◌≡◌, ◌↔◌, ℕ, ◌-◌, ◌<◌, min, nat_eq, if◌then◌else◌, List, [], ◌∷◌, ◌++◌, length, Some, Result, Ok, Err, refl, sym, ap, subst, ◌∙◌, append_assoc, arith, inl, inr}
use Rattle.std.specs.Int.{w64}
use Rattle.std.specs.Result.{OkIff, result_unwrap_or}
use Rattle.std.proofs.lemmas.Bool.{eqb-true, cases_lt}
use Rattle.std.proofs.lemmas.List.{append-nil, nil_from_length}
use Rattle.wf_events.proofs.Parts.{reads_argument, reads_pair, reads_route, reads_turn, IsOldTurn}
use Rattle.wf_events.specs.Reading.{argument_at, pair_at, route_at, start_at, turn_at, taken_as, record_at, whole_at, by_offset, record_of, known, meaning}
use Rattle.wf_events.specs.Records.{Record, Started, Turned, Kept, Upgrade, Packed, StartedTwo}
use Rattle.wf_events.specs.Spelling.{route, event, turn, start, record_bytes, IsPair, IsRoute, IsArgument, IsStart, HasSpelling, Spells, IsBuilt}
use Rattle.wf_record_parts.proofs.Parts.{bind_ok, ok_is, guard_yes, first_of_two, first_again, joined, by_code, bytes-rest, reads_64, reads_string, reads_text, reads_list}
use Rattle.wf_record_parts.specs.Laws.{AreBytes, Reads}
use Rattle.wf_record_parts.specs.Reading.{Read, ◌>>=◌, number_at, string_at, text_at, list_at}
use Rattle.wf_record_parts.specs.Spelling.{Bytes, eight, string, listed, pair, Fits64, Each, IsString, IsText}
use Rattle.wf_value.specs.Events.{Routes, Start}

-- ## Starts
abbrev Pairs : Type 0
Pairs = List (Bytes × Bytes)

abbrev IsArgumentText : Bytes → Type 0
IsArgumentText s = IsString s × IsArgument s

abbrev made : Bytes → Bytes → Bytes → Routes → Pairs → Bytes → ℕ → Start
made id source argument routes env base reading = record { rules = 1; id = id; source = source; argument = argument; routes = routes; env = env; base = base; reading = reading }

abbrev behind_base : Bytes → Bytes → Bytes → Routes → Pairs → Bytes → Bytes → Read Start
behind_base id source argument routes env base rest = number_at w64 rest >>= λ reading. Ok (made id source argument routes env base reading.0, reading.1)

abbrev behind_env : Bytes → Bytes → Bytes → Routes → Pairs → Bytes → Read Start
behind_env id source argument routes env rest = text_at rest >>= λ base. behind_base id source argument routes env base.0 base.1

abbrev behind_routes : Bytes → Bytes → Bytes → Routes → Bytes → Read Start
behind_routes id source argument routes rest = list_at pair_at rest >>= λ env. behind_env id source argument routes env.0 env.1

abbrev behind_argument : Bytes → Bytes → Bytes → Bytes → Read Start
behind_argument id source argument rest = list_at route_at rest >>= λ routes. behind_routes id source argument routes.0 routes.1

abbrev behind_source : Bytes → Bytes → Bytes → Read Start
behind_source id source rest = argument_at rest >>= λ argument. behind_argument id source argument.0 argument.1

abbrev behind_id : Bytes → Bytes → Read Start
behind_id id rest = string_at rest >>= λ source. behind_source id source.0 source.1

-- a start under the first rules
pub record IsFirstStart (s : Start) : Type 0 where
  pub is_start : IsStart s
  pub rules : s.rules ≡ 1

start_takes : (bytes : Bytes) (s : Start) (rest : Bytes) → AreBytes bytes → start_at bytes ≡ Ok (s, rest) → (bytes ≡ start s ++ rest) × AreBytes rest × IsFirstStart s
unfolding start_at
start_takes bytes s rest are h =
    let a = first_of_two text_at string IsText reads_text bytes behind_id (s, rest) are h in
    let b = first_of_two string_at string IsString reads_string a.rest (behind_source a.what) (s, rest) a.are_bytes a.goes_on in
    let c = first_of_two argument_at string IsArgumentText reads_argument b.rest (behind_argument a.what b.what) (s, rest) b.are_bytes b.goes_on in
    let d = first_of_two (list_at route_at) (listed route) (Each IsRoute) (reads_list route_at route IsRoute reads_route) c.rest (behind_routes a.what b.what c.what) (s, rest) c.are_bytes c.goes_on in
    let e = first_of_two (list_at pair_at) (listed pair) (Each IsPair) (reads_list pair_at pair IsPair reads_pair) d.rest (behind_env a.what b.what c.what d.what) (s, rest) d.are_bytes d.goes_on in
    let f = first_of_two text_at string IsText reads_text e.rest (behind_base a.what b.what c.what d.what e.what) (s, rest) e.are_bytes e.goes_on in
    let g = first_of_two (number_at w64) eight Fits64 reads_64 f.rest (λ n l. Ok (made a.what b.what c.what d.what e.what f.what n, l)) (s, rest) f.are_bytes f.goes_on in
    let p = joined bytes (string a.what) a.rest (string b.what) b.rest a.parts b.parts in
    let q = joined bytes (string a.what ++ string b.what) b.rest (string c.what) c.rest p c.parts in
    let r = joined bytes (string a.what ++ string b.what ++ string c.what) c.rest (listed route d.what) d.rest q d.parts in
    let t = joined bytes (string a.what ++ string b.what ++ string c.what ++ listed route d.what) d.rest (listed pair e.what) e.rest r e.parts in
    let u = joined bytes (string a.what ++ string b.what ++ string c.what ++ listed route d.what ++ listed pair e.what) e.rest (string f.what) f.rest t f.parts in
    let v = joined bytes (string a.what ++ string b.what ++ string c.what ++ listed route d.what ++ listed pair e.what ++ string f.what) f.rest (eight g.what) g.rest u g.parts in
    subst (λ (z : Start × Bytes). (bytes ≡ start z.0 ++ z.1) × AreBytes z.1 × IsFirstStart z.0) (ok_is (made a.what b.what c.what d.what e.what f.what g.what, g.rest) (s, rest) g.goes_on)
    (v, g.are_bytes, record { is_start = record { id = a.fits; source = b.fits; argument = c.fits; routes = d.fits; env = e.fits; base = f.fits; reading = g.fits }; rules = refl })

seven : (a b c d e f g r : Bytes) → (a ++ b ++ c ++ d ++ e ++ f ++ g) ++ r ≡ a ++ (b ++ (c ++ (d ++ (e ++ (f ++ (g ++ r))))))
seven a b c d e f g r =
    append_assoc (a ++ b ++ c ++ d ++ e ++ f) g r ∙ append_assoc (a ++ b ++ c ++ d ++ e) f (g ++ r) ∙ append_assoc (a ++ b ++ c ++ d) e (f ++ (g ++ r)) ∙ append_assoc (a ++ b ++ c) d (e ++ (f ++ (g ++ r)))
    ∙ append_assoc (a ++ b) c (d ++ (e ++ (f ++ (g ++ r)))) ∙ append_assoc a b (c ++ (d ++ (e ++ (f ++ (g ++ r)))))

pub start_again : (s : Start) (rest : Bytes) → IsFirstStart s → start_at (start s ++ rest) ≡ Ok (s, rest)
unfolding start_at
start_again s rest first =
    let fits = first.is_start in
    let l6 : Bytes = eight s.reading ++ rest in
    let l5 : Bytes = string s.base ++ l6 in
    let l4 : Bytes = listed pair s.env ++ l5 in
    let l3 : Bytes = listed route s.routes ++ l4 in
    let l2 : Bytes = string s.argument ++ l3 in
    let l1 : Bytes = string s.source ++ l2 in
    ap start_at (seven (string s.id) (string s.source) (string s.argument) (listed route s.routes) (listed pair s.env) (string s.base) (eight s.reading) rest)
    ∙ first_again text_at string IsText reads_text.again s.id l1 behind_id fits.id
    ∙ first_again string_at string IsString reads_string.again s.source l2 (behind_source s.id) fits.source
    ∙ first_again argument_at string IsArgumentText reads_argument.again s.argument l3 (behind_argument s.id s.source) fits.argument
    ∙ first_again (list_at route_at) (listed route) (Each IsRoute) (reads_list route_at route IsRoute reads_route).again s.routes l4 (behind_routes s.id s.source s.argument) fits.routes
    ∙ first_again (list_at pair_at) (listed pair) (Each IsPair) (reads_list pair_at pair IsPair reads_pair).again s.env l5 (behind_env s.id s.source s.argument s.routes) fits.env
    ∙ first_again text_at string IsText reads_text.again s.base l6 (behind_base s.id s.source s.argument s.routes s.env) fits.base
    ∙ first_again (number_at w64) eight Fits64 reads_64.again s.reading rest (λ n l. Ok (made s.id s.source s.argument s.routes s.env s.base n, l)) fits.reading
    ∙ ap (λ (n : ℕ). Ok (record s { rules = n }, rest)) (sym first.rules)

reads_start : Reads start_at start IsFirstStart
reads_start = record { takes = start_takes; again = start_again }

-- ## Records
-- a record that is read by now
abbrev IsReadRecord : Record → Type 0
IsReadRecord r = HasSpelling r × IsBuilt r

abbrev Parts : ℕ → Bytes → Record → Bytes → Type 0
Parts kind bytes r rest = (kind ∷ bytes ≡ record_bytes r ++ rest) × AreBytes rest × IsReadRecord r

started_takes : (bytes : Bytes) (r : Record) (rest : Bytes) → AreBytes bytes → taken_as Started (start_at bytes) ≡ Ok (r, rest) → Parts 1 bytes r rest
unfolding record_bytes
started_takes bytes r rest are h =
    let a = first_of_two start_at start IsFirstStart reads_start bytes (λ s l. Ok (Started s, l)) (r, rest) are h in
    subst (λ (z : Record × Bytes). Parts 1 bytes z.0 z.1) (ok_is (Started a.what, a.rest) (r, rest) a.goes_on) (ap (λ (l : Bytes). 1 ∷ l) a.parts, a.are_bytes, ((a.fits.is_start, a.fits.rules), tt))

turned_takes : (bytes : Bytes) (r : Record) (rest : Bytes) → AreBytes bytes → taken_as Turned (turn_at bytes) ≡ Ok (r, rest) → Parts 2 bytes r rest
unfolding record_bytes
turned_takes bytes r rest are h =
    let a = first_of_two turn_at (turn (listed event)) IsOldTurn reads_turn bytes (λ t l. Ok (Turned t, l)) (r, rest) are h in
    subst (λ (z : Record × Bytes). Parts 2 bytes z.0 z.1) (ok_is (Turned a.what, a.rest) (r, rest) a.goes_on) (ap (λ (l : Bytes). 2 ∷ l) a.parts, a.are_bytes, (a.fits, tt))

record_takes : (bytes : Bytes) (r : Record) (rest : Bytes) → AreBytes bytes → record_at bytes ≡ Ok (r, rest) → (bytes ≡ record_bytes r ++ rest) × AreBytes rest × IsReadRecord r
unfolding record_at
record_takes [] r rest are h = absurd cc
record_takes (kind ∷ bytes) r rest are h =
    let P : Type 0 = Parts kind bytes r rest in
    let behind = bytes-rest kind bytes are in
    by_code P kind 1 _ _ _ h (λ is w. subst (λ (k : ℕ). Parts k bytes r rest) (sym is) (started_takes bytes r rest behind w)) (λ h1.
    by_code P kind 2 _ _ _ h1 (λ is w. subst (λ (k : ℕ). Parts k bytes r rest) (sym is) (turned_takes bytes r rest behind w)) (λ h2. absurd cc))

record_again : (r : Record) (rest : Bytes) → IsReadRecord r → record_at (record_bytes r ++ rest) ≡ Ok (r, rest)
unfolding record_at record_bytes
record_again (Started s) rest fits = first_again start_at start IsFirstStart reads_start.again s rest (λ s l. Ok (Started s, l)) (record { is_start = fits.0.0; rules = fits.0.1 })
record_again (Turned t) rest fits = first_again turn_at (turn (listed event)) IsOldTurn reads_turn.again t rest (λ t l. Ok (Turned t, l)) fits.0
record_again (Kept s) rest fits = absurd fits.1
record_again Upgrade rest fits = absurd fits.1
record_again (Packed t) rest fits = absurd fits.1
record_again (StartedTwo s) rest fits = absurd fits.1

-- ## Whole records
abbrev ended : Record × Bytes → Result Record ℕ
ended x = if nat_eq (length x.1) 0 then Ok x.0 else Err (length x.1)

-- what is read is built, and the bytes spell it
pub whole_takes : (bytes : Bytes) (r : Record) → AreBytes bytes → whole_at bytes ≡ Ok r → Spells bytes r × IsBuilt r
unfolding whole_at
whole_takes bytes r are h =
    let a = bind_ok (record_at bytes) ended r h in
    let g = guard_yes (nat_eq (length a.0.1) 0) (length a.0.1) a.0.0 r a.2 in
    let nothing : a.0.1 ≡ [] = nil_from_length a.0.1 (eqb-true _ _ g.0) in
    let t = record_takes bytes a.0.0 a.0.1 are a.1 in
    let all : bytes ≡ record_bytes a.0.0 = t.0 ∙ ap (λ (l : Bytes). record_bytes a.0.0 ++ l) nothing ∙ append-nil (record_bytes a.0.0) in
    subst (λ (z : Record). Spells bytes z × IsBuilt z) g.1 ((t.2.0, all), t.2.1)

pub whole_again : (r : Record) → HasSpelling r → IsBuilt r → whole_at (record_bytes r) ≡ Ok r
unfolding whole_at
whole_again r fits built = ap (λ (l : Bytes). record_at l >>= ended) (sym (append-nil (record_bytes r))) ∙ ap (λ (x : Read Record). x >>= ended) (record_again r [] (fits, built))

-- what was read is what the bytes mean
pub is_meaning : (bytes : Bytes) (r : Record) → whole_at bytes ≡ Ok r → meaning bytes ≡ Some r
unfolding meaning record_of
is_meaning bytes r h = ap (λ (x : Result Record ℕ). known (by_offset (length bytes) x)) h

known_ok : (count : ℕ) (x : Result Record ℕ) (r : Record) → known (by_offset count x) ≡ Some r → x ≡ Ok r
known_ok count (Ok s) r h = let same : s ≡ r = cc in ap Ok same
known_ok count (Err left) r h = absurd cc

is_whole : (bytes : Bytes) (r : Record) → meaning bytes ≡ Some r → whole_at bytes ≡ Ok r
unfolding meaning record_of
is_whole bytes r h = known_ok (length bytes) (whole_at bytes) r h

pub meaning_again : (r : Record) → HasSpelling r → IsBuilt r → meaning (record_bytes r) ≡ Some r
meaning_again r fits built = is_meaning (record_bytes r) r (whole_again r fits built)

pub meaning_is : (bytes : Bytes) (r : Record) → AreBytes bytes → (meaning bytes ≡ Some r) ↔ (Spells bytes r × IsBuilt r)
meaning_is bytes r are = (λ h. whole_takes bytes r are (is_whole bytes r h), λ h. ap meaning h.0.1 ∙ meaning_again r h.0.0 h.1)

-- where so many bytes are left, by its offset
pub fault_at : (bytes : Bytes) (left : ℕ) → whole_at bytes ≡ Err left → record_of bytes ≡ Err (length bytes - left)
unfolding record_of
fault_at bytes left h = ap (λ (x : Result Record ℕ). by_offset (length bytes) x) h

-- a number that fits into 32 bits, and otherwise the greatest of these
pub cut_off : {E : Type 0} (r : Result ℕ E) (offset n : ℕ) → OkIff r (offset < 4294967296) offset → n ≡ result_unwrap_or r 4294967295 → n ≡ min offset 4294967295
cut_off (Ok x) offset n h is = omega (arith, h.0, h.1, is)
cut_off (Err e) offset n h is =
    elim (cases_lt offset 4294967296) [
      | inl lt ↦ absurd (h lt)
      | inr le ↦ omega (arith, le, is)
    ]

-- bytes that are no whole record spell none that is built
pub unspelled : (bytes : Bytes) (left : ℕ) (r : Record) → whole_at bytes ≡ Err left → IsBuilt r → Spells bytes r → ⊥
unspelled bytes left r stops built spells =
    let bad : ◌≡◌ {A = Result Record ℕ} (Err left) (Ok r) = sym stops ∙ ap whole_at spells.1 ∙ whole_again r spells.0 built in
    cc bad
