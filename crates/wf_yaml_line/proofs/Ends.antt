-- The end of a text.
use Rattle.std.proofs.Common.{◌≡◌, ℕ, zero, suc, ◌+◌, ◌-◌, ◌<◌, ◌≤◌, List, [], ◌∷◌, ◌++◌, length, get_or, take, drop, Bool, true, false, cond, ◌&&◌, ◌==◌, Option, Some, None, option_map, refl, sym, ap, ◌∙◌, arith, add-one}
use Rattle.std.proofs.lemmas.List.{get_or_read, take_rest}
use Rattle.wf_yaml_line.specs.Marks.{is_blank, is_empty, trimmed, ends_word, ends_with_colon, around_colon}

one_dropped : (b : ℕ) (t : Bool) → t ≡ true → [] ≡ cond (t && true) [] (b ∷ [])
one_dropped b true e = refl
one_dropped b false e = absurd (cc)

one_kept : (b : ℕ) (t : Bool) → t ≡ false → cond (t && true) [] (b ∷ []) ≡ b ∷ []
one_kept b true e = absurd (cc)
one_kept b false e = refl

more_kept : (t : Bool) (b : ℕ) (r : List ℕ) → cond (t && false) [] (b ∷ r) ≡ b ∷ r
more_kept true b r = refl
more_kept false b r = refl

pub last_blank : (s : List ℕ) (m : ℕ) → m < length s → is_blank (get_or s m 0) ≡ true → trimmed (take m s) ≡ trimmed (take (suc m) s)
last_blank [] m h e = absurd (omega (arith, h))
last_blank (b ∷ r) zero h e = one_dropped b (is_blank b) e
last_blank (b ∷ r) (suc m) h e = ap (λ t. cond (is_blank b && is_empty t) [] (b ∷ t)) (last_blank r m (omega (arith, h)) e)

longer : (b : ℕ) (r : List ℕ) (m : ℕ) → m < length r → cond (is_blank b && is_empty (take (suc m) r)) [] (b ∷ take (suc m) r) ≡ b ∷ take (suc m) r
longer b [] m h = absurd (omega (arith, h))
longer b (c ∷ r) m h = more_kept (is_blank b) b (c ∷ take m r)

pub last_kept : (s : List ℕ) (m : ℕ) → m < length s → is_blank (get_or s m 0) ≡ false → trimmed (take (suc m) s) ≡ take (suc m) s
last_kept [] m h e = absurd (omega (arith, h))
last_kept (b ∷ r) zero h e = one_kept b (is_blank b) e
last_kept (b ∷ r) (suc m) h e = ap (λ t. cond (is_blank b && is_empty t) [] (b ∷ t)) (last_kept r m (omega (arith, h)) e) ∙ longer b r m (omega (arith, h))

-- what a loop reads at the place before n
pub dropped_at : (s : List ℕ) (n x : ℕ) (t : Bool) → 0 < n → n ≤ length s → x ≡ get_or s (n - 1) x → t ≡ is_blank x → t ≡ true → trimmed (take n s) ≡ trimmed s → trimmed (take (n - 1) s) ≡ trimmed s
dropped_at s zero x t p h r a b e = absurd (omega (arith, p))
dropped_at s (suc m) x t p h r a b e =
    let at : suc m - 1 ≡ m = omega arith in
    let read : x ≡ get_or s m 0 = get_or_read s m x (omega arith) (r ∙ ap (λ k. get_or s k x) at) 0 in
    ap (λ k. trimmed (take k s)) at ∙ last_blank s m (omega arith) (ap is_blank (sym read) ∙ sym a ∙ b) ∙ e

pub kept_at : (s : List ℕ) (n x : ℕ) (t : Bool) → 0 < n → n ≤ length s → x ≡ get_or s (n - 1) x → t ≡ is_blank x → t ≡ false → trimmed (take n s) ≡ trimmed s → take n s ≡ trimmed s
kept_at s zero x t p h r a b e = absurd (omega (arith, p))
kept_at s (suc m) x t p h r a b e =
    let at : suc m - 1 ≡ m = omega arith in
    let read : x ≡ get_or s m 0 = get_or_read s m x (omega arith) (r ∙ ap (λ k. get_or s k x) at) 0 in
    sym (last_kept s m (omega arith) (ap is_blank (sym read) ∙ sym a ∙ b)) ∙ e

-- ---- the last character

last_at : (s : List ℕ) (m d : ℕ) → length s ≡ suc m → (get_or s m d == 58) ≡ ends_with_colon s
last_at [] m d h = absurd (omega (arith, h))
last_at (b ∷ []) zero d h = refl
last_at (b ∷ []) (suc m) d h = absurd (omega (arith, h))
last_at (b ∷ c ∷ r) zero d h = absurd (omega (arith, h))
last_at (b ∷ c ∷ r) (suc m) d h = last_at (c ∷ r) m d (omega (arith, h))

pub last_colon : (s : List ℕ) (x : ℕ) → 1 ≤ length s → x ≡ get_or s (length s - 1) x → (x == 58) ≡ ends_with_colon s
last_colon s x h e = ap (λ y. y == 58) e ∙ last_at s (length s - 1) x (omega (arith, h))

-- ---- a step of `around_colon`

abbrev pub Parts : Type 0
Parts = Option (List ℕ × List ℕ)

abbrev pub behind : List ℕ → Parts → Parts
behind front o = option_map (λ p. (front ++ p.0, p.1)) o

first_of : (b : ℕ) (o : Parts) → behind [] (option_map (λ p. (b ∷ p.0, p.1)) o) ≡ behind (b ∷ []) o
first_of b None = refl
first_of b (Some p) = refl

onto : (b : ℕ) (front : List ℕ) (o : Parts) → behind (b ∷ front) o ≡ option_map (λ p. (b ∷ p.0, p.1)) (behind front o)
onto b front None = refl
onto b front (Some p) = refl

pub colon_step : (s : List ℕ) (i : ℕ) (after_blank : Bool) → i < length s → (after_blank && get_or s i 0 == 35) ≡ false → (get_or s i 0 == 58 && ends_word (drop (suc i) s)) ≡ false → behind (take i s) (around_colon after_blank (drop i s)) ≡ behind (take (suc i) s) (around_colon (is_blank (get_or s i 0)) (drop (suc i) s))
colon_step [] i t h c e = absurd (omega (arith, h))
colon_step (b ∷ r) zero t h c e = ap (λ u. behind [] (cond u None (cond (b == 58 && ends_word r) (Some ([], r)) (option_map (λ p. (b ∷ p.0, p.1)) (around_colon (is_blank b) r))))) c
    ∙ ap (λ u. behind [] (cond u (Some ([], r)) (option_map (λ p. (b ∷ p.0, p.1)) (around_colon (is_blank b) r)))) e
    ∙ first_of b (around_colon (is_blank b) r)
colon_step (b ∷ r) (suc i) t h c e = onto b (take i r) (around_colon t (drop i r)) ∙ ap (option_map (λ p. (b ∷ p.0, p.1))) (colon_step r i t (omega (arith, h)) c e) ∙ sym (onto b (take (suc i) r) (around_colon (is_blank (get_or r i 0)) (drop (suc i) r)))

-- the same, in the words of a loop that reads x at i
pub colon_next : (s : List ℕ) (i x : ℕ) (t u v w : Bool) (whole : Parts) → i < length s → x ≡ get_or s i x
    → u ≡ (t && x == 35) → u ≡ false → v ≡ (x == 58 && ends_word (take (length s - (i + 1)) (drop (i + 1) s))) → v ≡ false → w ≡ is_blank x
    → behind (take i s) (around_colon t (drop i s)) ≡ whole → behind (take (i + 1) s) (around_colon w (drop (i + 1) s)) ≡ whole
colon_next s i x t u v w whole h r a b e f k old =
    let read : x ≡ get_or s i 0 = get_or_read s i x h r 0 in
    let no_comment : (t && get_or s i 0 == 35) ≡ false = ap (λ y. t && y == 35) (sym read) ∙ sym a ∙ b in
    let tail : take (length s - (i + 1)) (drop (i + 1) s) ≡ drop (suc i) s = take_rest s (i + 1) ∙ ap (λ n. drop n s) (add-one i) in
    let no_key : (get_or s i 0 == 58 && ends_word (drop (suc i) s)) ≡ false = ap (λ y. y == 58 && ends_word (drop (suc i) s)) (sym read) ∙ ap (λ z. x == 58 && ends_word z) (sym tail) ∙ sym e ∙ f in
    (λ j. behind (take (add-one i j) s) (around_colon ((k ∙ ap is_blank read) j) (drop (add-one i j) s)))
    ∙ sym (colon_step s i t h no_comment no_key) ∙ old
