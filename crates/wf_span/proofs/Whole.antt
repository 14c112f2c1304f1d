-- The lines of a source are all of it, and count, and rise.
use Rattle.std.proofs.Common.{◌≡◌, ◌≢◌, ℕ, zero, suc, ◌+◌, ◌<◌, ◌≤◌, List, [], ◌∷◌, ◌++◌, length, drop, Bool, true, false, cond, ◌==◌, refl, sym, ap, subst, ◌∙◌, arith, append_assoc, length-append}
use Rattle.std.specs.List.{slice_split, onto_first, join_with_byte, repeat, AllByRecursion}
use Rattle.std.proofs.lemmas.Bool.{eqb-true, eqb-false}
use Rattle.std.proofs.lemmas.List.Splits.{join_with_byte-slice_split}
use Rattle.std.proofs.lemmas.List.{append-nil}
use Rattle.wf_span.specs.Lines.{Placed, placed, lines_of, last_line, source_lines, is_newline, without_return, spaces}
use Rattle.wf_span.specs.Places.{CountFrom, RiseFrom, IsEnding, feed, return_and_feed, end, IsLine, StandFrom}
use Rattle.wf_span.proofs.Places.{spaces_le}

-- ## Spaces

spaces_by : (b : ℕ) (r : List ℕ) (t : Bool) → (b == 32) ≡ t → r ≡ repeat (spaces r) (32 ∷ []) ++ drop (spaces r) r → b ∷ r ≡ repeat (cond t (suc (spaces r)) 0) (32 ∷ []) ++ drop (cond t (suc (spaces r)) 0) (b ∷ r)
spaces_by b r true e h = ap (λ n. n ∷ r) (eqb-true b 32 e) ∙ ap (λ l. 32 ∷ l) h
spaces_by b r false e h = refl

spaces_and_rest : (s : List ℕ) → s ≡ repeat (spaces s) (32 ∷ []) ++ drop (spaces s) s
spaces_and_rest [] = refl
spaces_and_rest (b ∷ r) = spaces_by b r (b == 32) refl (spaces_and_rest r)

no_space_by : (b : ℕ) (r : List ℕ) (t : Bool) → (b == 32) ≡ t → spaces (drop (spaces r) r) ≡ 0 → spaces (drop (cond t (suc (spaces r)) 0) (b ∷ r)) ≡ 0
no_space_by b r true e h = h
no_space_by b r false e h = ap (λ t. cond t (suc (spaces r)) 0) e

no_space_left : (s : List ℕ) → spaces (drop (spaces s) s) ≡ 0
no_space_left [] = refl
no_space_left (b ∷ r) = no_space_by b r (b == 32) refl (no_space_left r)

length_dropped : (k : ℕ) (s : List ℕ) → k ≤ length s → k + length (drop k s) ≡ length s
length_dropped zero s h = omega arith
length_dropped (suc k) [] h = absurd (omega (arith, h))
length_dropped (suc k) (b ∷ r) h = omega (arith, length_dropped k r (omega (arith, h)))

length_of_body : (s : List ℕ) → spaces s + length (drop (spaces s) s) ≡ length s
length_of_body s = length_dropped (spaces s) s (spaces_le s)

-- ## Line ends

abbrev HasNoFeed : List ℕ → Type 0
HasNoFeed bs = AllByRecursion (λ b. b ≢ 10) bs

no_feed_dropped : (k : ℕ) (s : List ℕ) → HasNoFeed s → HasNoFeed (drop k s)
no_feed_dropped zero s h = h
no_feed_dropped (suc k) [] h = h
no_feed_dropped (suc k) (b ∷ r) h = no_feed_dropped k r h.1

no_feed_cut : (s : List ℕ) → HasNoFeed s → HasNoFeed (without_return s)
no_feed_cut [] h = h
no_feed_cut (b ∷ []) h = go (b == 13)
  where
    go : (t : Bool) → HasNoFeed (cond t [] (b ∷ []))
    go true = tt
    go false = h
no_feed_cut (b ∷ c ∷ r) h = (h.0, no_feed_cut (c ∷ r) h.1)

no_feed_onto : (b : ℕ) (parts : List (List ℕ)) → b ≢ 10 → AllByRecursion (λ p. HasNoFeed p) parts → AllByRecursion (λ p. HasNoFeed p) (onto_first b parts)
no_feed_onto b [] h all = ((h, tt), tt)
no_feed_onto b (x ∷ xs) h all = ((h, all.0), all.1)

no_feed_in_parts : (bs : List ℕ) → AllByRecursion (λ p. HasNoFeed p) (slice_split is_newline bs)
no_feed_in_parts [] = (tt, tt)
no_feed_in_parts (b ∷ r) = go (b == 10) refl (no_feed_in_parts r)
  where
    go : (t : Bool) → (b == 10) ≡ t → AllByRecursion (λ p. HasNoFeed p) (slice_split is_newline r) → AllByRecursion (λ p. HasNoFeed p) (cond t ([] ∷ slice_split is_newline r) (onto_first b (slice_split is_newline r)))
    go true e h = (tt, h)
    go false e h = no_feed_onto b (slice_split is_newline r) (eqb-false b 10 e) h

-- a part with the CR at its end, or without one
data Ended (x : List ℕ) : Type 0 where
  with_return : x ≡ without_return x ++ 13 ∷ [] → Ended x
  bare : x ≡ without_return x → Ended x

ended_by : (b : ℕ) (t : Bool) → (b == 13) ≡ t → Ended (b ∷ [])
ended_by b true e = with_return (ap (λ n. n ∷ []) (eqb-true b 13 e) ∙ ap (λ t. cond t [] (b ∷ []) ++ 13 ∷ []) (sym e))
ended_by b false e = bare (ap (λ t. cond t [] (b ∷ [])) (sym e))

ended_more : (b c : ℕ) (r : List ℕ) → Ended (c ∷ r) → Ended (b ∷ c ∷ r)
ended_more b c r (with_return h) = with_return (ap (λ l. b ∷ l) h)
ended_more b c r (bare h) = bare (ap (λ l. b ∷ l) h)

ended : (x : List ℕ) → Ended x
ended [] = bare refl
ended (b ∷ []) = ended_by b (b == 13) refl
ended (b ∷ c ∷ r) = ended_more b c r (ended (c ∷ r))

bare_dropped : (k : ℕ) (x : List ℕ) → x ≡ without_return x → without_return (drop k x) ≡ drop k x
bare_dropped zero x h = sym h
bare_dropped (suc k) [] h = refl
bare_dropped (suc k) (b ∷ []) h = bare_dropped k [] refl
bare_dropped (suc k) (b ∷ c ∷ r) h = bare_dropped k (c ∷ r) (ap (drop 1) h)

-- ## Lines

stands : (number at : ℕ) (source text ending rest : List ℕ) → 0 < length source → source ≡ text ++ (ending ++ rest) → HasNoFeed text → IsEnding (drop (spaces text) text) rest ending → IsLine at source (placed number at text) ending rest
stands number at source text ending rest some whole clean end_of_it = record {
  some = some;
  whole = whole ∙ ap (λ s. s ++ (ending ++ rest)) (spaces_and_rest text) ∙ append_assoc (repeat (spaces text) (32 ∷ [])) (drop (spaces text) text) (ending ++ rest);
  place = refl;
  all_spaces = no_space_left text;
  one_line = no_feed_dropped (spaces text) text clean;
  ended = end_of_it;
}

moved : (number at at2 : ℕ) (source : List ℕ) (ls : List Placed) → at ≡ at2 → StandFrom number at source ls → StandFrom number at2 source ls
moved number at at2 source ls e h = subst (λ (a : ℕ). StandFrom number a source ls) e h

stand_last : (number at : ℕ) (x : List ℕ) → HasNoFeed x → StandFrom number at x (last_line number at x)
stand_last number at [] clean = refl
stand_last number at (b ∷ r) clean = ([], [], refl, stands number at (b ∷ r) (b ∷ r) [] [] (omega arith) (sym (append-nil (b ∷ r))) clean (end refl), refl)

stand_more : (number at : ℕ) (x rest : List ℕ) (ls : List Placed) → Ended x → HasNoFeed x → StandFrom (suc number) (at + (length x + 1)) rest ls → StandFrom number at (x ++ 10 ∷ rest) (placed number at (without_return x) ∷ ls)
stand_more number at x rest ls (with_return e) clean h =
    let text = without_return x in (
      13 ∷ 10 ∷ [],
      rest,
      refl,
      stands number at (x ++ 10 ∷ rest) text (13 ∷ 10 ∷ []) rest (omega (arith, length-append x (10 ∷ rest))) (ap (λ s. s ++ 10 ∷ rest) e ∙ append_assoc text (13 ∷ []) (10 ∷ rest)) (no_feed_cut x clean) return_and_feed,
      moved (suc number) (at + (length x + 1)) (at + spaces text + (length (drop (spaces text) text) + 2)) rest ls (omega (arith, length_of_body text, ap length e, length-append text (13 ∷ []))) h,
    )
stand_more number at x rest ls (bare e) clean h =
    let text = without_return x in (
      10 ∷ [],
      rest,
      refl,
      stands number at (x ++ 10 ∷ rest) text (10 ∷ []) rest (omega (arith, length-append x (10 ∷ rest))) (ap (λ s. s ++ 10 ∷ rest) e) (no_feed_cut x clean) (feed (bare_dropped (spaces text) text (ap without_return e))),
      moved (suc number) (at + (length x + 1)) (at + spaces text + (length (drop (spaces text) text) + 1)) rest ls (omega (arith, length_of_body text, ap length e)) h,
    )

stand_parts : (number at : ℕ) (parts : List (List ℕ)) → AllByRecursion (λ p. HasNoFeed p) parts → StandFrom number at (join_with_byte 10 parts) (lines_of number at parts)
stand_parts number at [] clean = refl
stand_parts number at (x ∷ []) clean = stand_last number at x clean.0
stand_parts number at (x ∷ y ∷ more) clean = stand_more number at x (join_with_byte 10 (y ∷ more)) (lines_of (suc number) (at + (length x + 1)) (y ∷ more)) (ended x) clean.0 (stand_parts (suc number) (at + (length x + 1)) (y ∷ more) clean.1)

pub lines_stand : (source : List ℕ) → StandFrom 1 0 source (source_lines source)
lines_stand source = subst (λ (s : List ℕ). StandFrom 1 0 s (source_lines source)) (join_with_byte-slice_split 10 source) (stand_parts 1 0 (slice_split is_newline source) (no_feed_in_parts source))

-- ## What follows from that

counted : (number at : ℕ) (source : List ℕ) (ls : List Placed) → StandFrom number at source ls → CountFrom number ls
counted number at source [] h = tt
counted number at source (l ∷ ls) h = (h.2, counted (suc number) (l.at + (length l.body + length h.0)) h.1 ls h.4)

pub lines_count : (source : List ℕ) → CountFrom 1 (source_lines source)
lines_count source = counted 1 0 source (source_lines source) (lines_stand source)

-- a body that isn't the last has a line end behind it
has_end : (body rest ending : List ℕ) → IsEnding body rest ending → 0 < length rest → 0 < length ending
has_end body rest ending (feed e) some = omega arith
has_end body rest ending return_and_feed some = omega arith
has_end body rest ending (end e) some = absurd (omega (arith, ap length e, some))

risen : (number at least : ℕ) (source : List ℕ) (ls : List Placed) → (0 < length source → least ≤ at) → StandFrom number at source ls → RiseFrom least ls
risen number at least source [] near h = tt
risen number at least source (l ∷ ls) near h = (
  omega (arith, near h.3.some, h.3.place),
  risen (suc number) (l.at + (length l.body + length h.0)) (suc (l.at + length l.body)) h.1 ls (λ some. omega (arith, has_end l.body h.1 h.0 h.3.ended some)) h.4,
)

pub lines_rise : (source : List ℕ) → RiseFrom 0 (source_lines source)
lines_rise source = risen 1 0 0 source (source_lines source) (λ some. omega arith) (lines_stand source)
