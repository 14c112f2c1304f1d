-- The line that tells something first.
use Rattle.std.proofs.Common.{◌≡◌, ◌<◌, ◌≤◌, ◌+◌, ℕ, suc, Bool, true, false, cond, if◌then◌else◌, List, [], ◌∷◌, length, get_or, slice_set, Some, None, refl, sym, ◌∙◌, ap, subst, arith, nltb→le}
use Rattle.std.specs.List.{position, position_or_len}
use Rattle.std.proofs.lemmas.List.Recursion.{is_position_or_len}
use Rattle.std.proofs.lemmas.List.Sums.{position_or_len_is}
use Rattle.std.proofs.lemmas.List.Quantifiers.{position-Some}
use Rattle.std.proofs.lemmas.List.{length-take}
use Rattle.wf_lemmas.proofs.Bools.{T_not}
use Rattle.wf_host.specs.declared.data.What.{What}
use Rattle.wf_host.specs.declared.data.What.TheVariants.{Nothing, Bytes, End, Broken, Visit, VisitEnd}
use Rattle.wf_host.specs.World.{piece_len}
use Rattle.wf_host.specs.Ahead.{Line, Ahead, piece_limit, next_thing, front, speaks, spoken, first_of, next_of, told}

abbrev first : ℕ → List Line → ℕ
first polls [] = 0
first polls (l ∷ rest) = if speaks polls l then 0 else suc (first polls rest)

is_first : (polls : ℕ) (ls : List Line) → first polls ls ≡ position_or_len (speaks polls) ls
is_first polls ls = is_position_or_len (first polls) (speaks polls) refl (λ x xs. step (speaks polls x) (first polls xs)) ls
  where
    step : (b : Bool) (n : ℕ) → (if b then 0 else suc n) ≡ cond b 0 (1 + n)
    step true n = refl
    step false n = omega arith

module _ (limit polls : ℕ) where
  told_first : (ls : List Line) (d : Line) → first polls ls < length ls → told limit polls ls ≡ slice_set ls (first polls ls) (spoken limit (get_or ls (first polls ls) d))
  told_first [] d lt = refl
  told_first (l ∷ rest) d lt = by (speaks polls l) (told_first rest d) lt
    where
      by : (b : Bool) → (first polls rest < length rest → told limit polls rest ≡ slice_set rest (first polls rest) (spoken limit (get_or rest (first polls rest) d))) → (if b then 0 else suc (first polls rest)) < length (l ∷ rest) → (if b then spoken limit l ∷ rest else l ∷ told limit polls rest) ≡ slice_set (l ∷ rest) (if b then 0 else suc (first polls rest)) (spoken limit (get_or (l ∷ rest) (if b then 0 else suc (first polls rest)) d))
      by true ih lt = refl
      by false ih lt = ap (λ (r : List Line). l ∷ r) (ih (omega (arith, lt)))

  next_first : (ls : List Line) (d : Line) → first polls ls < length ls → next_of limit polls ls ≡ first_of limit (get_or ls (first polls ls) d).left
  next_first [] d lt = absurd (omega (arith, lt))
  next_first (l ∷ rest) d lt = by (speaks polls l) (next_first rest d) lt
    where
      by : (b : Bool) → (first polls rest < length rest → next_of limit polls rest ≡ first_of limit (get_or rest (first polls rest) d).left) → (if b then 0 else suc (first polls rest)) < length (l ∷ rest) → (if b then first_of limit l.left else next_of limit polls rest) ≡ first_of limit (get_or (l ∷ rest) (if b then 0 else suc (first polls rest)) d).left
      by true ih lt = refl
      by false ih lt = ih (omega (arith, lt))

  told_quiet : (ls : List Line) → length ls ≤ first polls ls → told limit polls ls ≡ ls
  told_quiet [] le = refl
  told_quiet (l ∷ rest) le = by (speaks polls l) (told_quiet rest) le
    where
      by : (b : Bool) → (length rest ≤ first polls rest → told limit polls rest ≡ rest) → length (l ∷ rest) ≤ (if b then 0 else suc (first polls rest)) → (if b then spoken limit l ∷ rest else l ∷ told limit polls rest) ≡ l ∷ rest
      by true ih le = absurd (omega (arith, le))
      by false ih le = ap (λ (r : List Line). l ∷ r) (ih (omega (arith, le)))

  next_quiet : (ls : List Line) → length ls ≤ first polls ls → next_of limit polls ls ≡ Nothing
  next_quiet [] le = refl
  next_quiet (l ∷ rest) le = by (speaks polls l) (next_quiet rest) le
    where
      by : (b : Bool) → (length rest ≤ first polls rest → next_of limit polls rest ≡ Nothing) → length (l ∷ rest) ≤ (if b then 0 else suc (first polls rest)) → (if b then first_of limit l.left else next_of limit polls rest) ≡ Nothing
      by true ih le = absurd (omega (arith, le))
      by false ih le = ih (omega (arith, le))

  none : (b : Bool) (n : ℕ) → cond b (Some n) None ≡ None → b ≡ false
  none true n e = absurd (cc e)
  none false n e = refl

  quiet : (ls : List Line) → position (speaks polls) ls ≡ None → length ls ≤ first polls ls
  quiet ls is = omega (arith, is_first polls ls, nltb→le (position_or_len (speaks polls) ls) (length ls) (T_not _ (none _ _ is)))

  found : (ls : List Line) (i : ℕ) (d : Line) → position (speaks polls) ls ≡ Some i → (first polls ls ≡ i) × (i < length ls)
  found ls i d is =
      let at = position-Some (speaks polls) ls i d is in
      (is_first polls ls ∙ position_or_len_is (speaks polls) ls i d (omega (arith, at.0)) at.2 (λ lt. at.1), at.0)

  pub told_none : (ls : List Line) → position (speaks polls) ls ≡ None → told limit polls ls ≡ ls
  told_none ls is = told_quiet ls (quiet ls is)

  pub next_none : (ls : List Line) → position (speaks polls) ls ≡ None → next_of limit polls ls ≡ Nothing
  next_none ls is = next_quiet ls (quiet ls is)

  pub told_some : (ls : List Line) (i : ℕ) (d : Line) → position (speaks polls) ls ≡ Some i → told limit polls ls ≡ slice_set ls i (spoken limit (get_or ls i d))
  told_some ls i d is = let at = found ls i d is in subst (λ n. told limit polls ls ≡ slice_set ls n (spoken limit (get_or ls n d))) at.0 (told_first ls d (omega (arith, at.0, at.1)))

  pub next_some : (ls : List Line) (i : ℕ) (d : Line) → position (speaks polls) ls ≡ Some i → next_of limit polls ls ≡ first_of limit (get_or ls i d).left
  next_some ls i d is = let at = found ls i d is in subst (λ n. next_of limit polls ls ≡ first_of limit (get_or ls n d).left) at.0 (next_first ls d (omega (arith, at.0, at.1)))

small_front : (limit : ℕ) (w : What) → piece_len (front limit w) ≤ limit
small_front limit (Bytes k bytes) = omega (arith, length-take limit bytes)
small_front limit (Visit n bytes) = omega (arith, length-take limit bytes)
small_front limit Nothing = omega arith
small_front limit (End k) = omega arith
small_front limit (Broken k) = omega arith
small_front limit (VisitEnd n) = omega arith

small_first : (limit : ℕ) (left : List What) → piece_len (first_of limit left) ≤ limit
small_first limit [] = omega arith
small_first limit (w ∷ rest) = small_front limit w

small_next : (limit polls : ℕ) (ls : List Line) → piece_len (next_of limit polls ls) ≤ limit
small_next limit polls [] = omega arith
small_next limit polls (l ∷ rest) = by (speaks polls l) (small_next limit polls rest)
  where
    by : (b : Bool) → piece_len (next_of limit polls rest) ≤ limit → piece_len (if b then first_of limit l.left else next_of limit polls rest) ≤ limit
    by true ih = small_first limit l.left
    by false ih = ih

limit_is : piece_limit ≡ 65536
unfolding piece_limit
limit_is = refl

-- no more is heard at once
pub small_thing : (a : Ahead) → piece_len (next_thing piece_limit a) ≤ 65536
small_thing a = omega (arith, limit_is, small_next piece_limit a.polls a.calls)

-- what is heard, by which line it is
module _ (polls : ℕ) (calls : List Line) (a : Ahead) (same : record { polls = polls; calls = calls } ≡ a) where
  pub heard_of_call : (limit i : ℕ) (d : Line) → limit ≡ piece_limit → position (speaks polls) calls ≡ Some i → d ≡ get_or calls i d → first_of limit d.left ≡ next_thing piece_limit a
  heard_of_call limit i d exactly at is =
      ap (λ (l : Line). first_of limit l.left) is ∙ ap (λ (n : ℕ). first_of n (get_or calls i d).left) exactly
      ∙ sym (next_some piece_limit polls calls i d at) ∙ ap (λ (x : Ahead). next_thing piece_limit x) same

  pub heard_nothing : position (speaks polls) calls ≡ None → Nothing ≡ next_thing piece_limit a
  heard_nothing none = sym (next_none piece_limit polls calls none) ∙ ap (λ (x : Ahead). next_thing piece_limit x) same
