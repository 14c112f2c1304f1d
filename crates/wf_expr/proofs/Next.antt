-- The symbols of tokens, one after the other.
use Rattle.std.proofs.Common.{◌≡◌, ◌<◌, ◌≤◌, ◌+◌, ℕ, zero, suc, Bool, true, false, List, [], ◌∷◌, length, drop, slice_get, Option, Some, None, if◌then◌else◌, ⊎_elim, sym, ap, ◌∙◌, subst, arith}
use Rattle.std.proofs.Math.Seq.{drop-cons, drop-nil}
use Rattle.std.proofs.lemmas.Option.{slice_get_within, get_or_from_slice_get, slice_get_cases}
use Rattle.std.specs.List.{AllByRecursion}
use Rattle.wf_expr.specs.Symbols.{decimal, placed, placed_symbols, is_glued}
use Rattle.wf_expr.specs.Taking.{IsToken, glued_at}
use Rattle.wf_span.specs.Tokens.{PlacedToken}

-- ## What stands at an index
get_drop : (ts : List PlacedToken) (i : ℕ) (t : PlacedToken) → Some t ≡ slice_get ts i → drop i ts ≡ t ∷ drop (i + 1) ts
get_drop ts i t h =
    let k : slice_get ts i ≡ Some t = sym h in
    let e : suc i ≡ i + 1 = omega arith in
    drop-cons ts i t (slice_get_within ts i t k) ∙ ap (λ x. x ∷ drop (suc i) ts) (get_or_from_slice_get ts i t t k) ∙ ap (λ n. t ∷ drop n ts) e

drop_past : (ts : List PlacedToken) (i : ℕ) → length ts ≤ i → drop i ts ≡ []
drop_past [] i h = drop-nil i
drop_past (t ∷ ts) zero h = absurd (omega (arith, h))
drop_past (t ∷ ts) (suc i) h = drop_past ts i (omega (arith, h))

get_none : (ts : List PlacedToken) (i : ℕ) → None ≡ slice_get ts i → drop i ts ≡ []
get_none ts i h = ⊎_elim (λ x. let e : None ≡ Some x.0 = h ∙ x.2 in let p : ⊥ = cc in absurd p) (λ x. drop_past ts i x.0) (slice_get_cases ts i).1

-- ## The next symbol
pub none_next : (ts : List PlacedToken) (i : ℕ) → None ≡ slice_get ts i → placed_symbols (drop i ts) ≡ []
none_next ts i h = ap placed_symbols (get_none ts i h)

three_at : (ts : List PlacedToken) (i : ℕ) (a p b : PlacedToken) → Some a ≡ slice_get ts i → Some p ≡ slice_get ts (i + 1) → Some b ≡ slice_get ts (i + 2) → drop i ts ≡ a ∷ p ∷ b ∷ drop (i + 3) ts
three_at ts i a p b e f g =
    let x : (i + 1) + 1 ≡ i + 2 = omega arith in
    let y : (i + 2) + 1 ≡ i + 3 = omega arith in
    get_drop ts i a e
    ∙ ap (λ l. a ∷ l) (get_drop ts (i + 1) p f)
    ∙ ap (λ n. a ∷ p ∷ drop n ts) x
    ∙ ap (λ l. a ∷ p ∷ l) (get_drop ts (i + 2) b g)
    ∙ ap (λ n. a ∷ p ∷ b ∷ drop n ts) y

by_glue : (a p b : PlacedToken) (ts : List PlacedToken) (g : Bool) → is_glued a p b ≡ g → placed_symbols (a ∷ p ∷ b ∷ ts) ≡ (if g then record { sym = decimal; at = a.at } ∷ placed_symbols ts else placed a ∷ placed_symbols (p ∷ b ∷ ts))
by_glue a p b ts g h = ap (λ x. if x then record { sym = decimal; at = a.at } ∷ placed_symbols ts else placed a ∷ placed_symbols (p ∷ b ∷ ts)) h

pub glued_next : (ts : List PlacedToken) (i : ℕ) (a : PlacedToken) (p q : Option PlacedToken) → Some a ≡ slice_get ts i → p ≡ slice_get ts (i + 1) → q ≡ slice_get ts (i + 2) → glued_at (Some a) p q ≡ true → placed_symbols (drop i ts) ≡ record { sym = decimal; at = a.at } ∷ placed_symbols (drop (i + 3) ts)
glued_next ts i a (Some p) (Some b) e f g h = ap placed_symbols (three_at ts i a p b e f g) ∙ by_glue a p b (drop (i + 3) ts) true h
glued_next ts i a None q e f g h = let x : ⊥ = cc in absurd x
glued_next ts i a (Some p) None e f g h = let x : ⊥ = cc in absurd x

pub plain_next : (ts : List PlacedToken) (i : ℕ) (a : PlacedToken) (p q : Option PlacedToken) → Some a ≡ slice_get ts i → p ≡ slice_get ts (i + 1) → q ≡ slice_get ts (i + 2) → glued_at (Some a) p q ≡ false → placed_symbols (drop i ts) ≡ placed a ∷ placed_symbols (drop (i + 1) ts)
plain_next ts i a None q e f g h =
    let n = get_none ts (i + 1) f in
    ap placed_symbols (get_drop ts i a e ∙ ap (λ l. a ∷ l) n) ∙ ap (λ l. placed a ∷ placed_symbols l) (sym n)
plain_next ts i a (Some p) None e f g h =
    let x : (i + 1) + 1 ≡ i + 2 = omega arith in
    let n = get_drop ts (i + 1) p f ∙ ap (λ m. p ∷ drop m ts) x ∙ ap (λ l. p ∷ l) (get_none ts (i + 2) g) in
    ap placed_symbols (get_drop ts i a e ∙ ap (λ l. a ∷ l) n) ∙ ap (λ l. placed a ∷ placed_symbols l) (sym n)
plain_next ts i a (Some p) (Some b) e f g h =
    let x : (i + 1) + 1 ≡ i + 2 = omega arith in
    let y : (i + 2) + 1 ≡ i + 3 = omega arith in
    let n = get_drop ts (i + 1) p f ∙ ap (λ m. p ∷ drop m ts) x ∙ ap (λ l. p ∷ l) (get_drop ts (i + 2) b g ∙ ap (λ m. b ∷ drop m ts) y) in
    ap placed_symbols (three_at ts i a p b e f g) ∙ by_glue a p b (drop (i + 3) ts) false h ∙ ap (λ l. placed a ∷ placed_symbols l) (sym n)

-- all tokens are tokens, so the one at an index is
pub token_at : (ts : List PlacedToken) (i : ℕ) (t : PlacedToken) → AllByRecursion IsToken ts → Some t ≡ slice_get ts i → IsToken t
token_at [] i t h e = let x : ⊥ = cc in absurd x
token_at (u ∷ ts) zero t h e = let x : t ≡ u = cc in subst (λ (v : PlacedToken). IsToken v) (sym x) h.0
token_at (u ∷ ts) (suc i) t h e = token_at ts i t h.1 e

-- what stands at an index stands within
pub within : (ts : List PlacedToken) (i : ℕ) (t : PlacedToken) → Some t ≡ slice_get ts i → i < length ts
within ts i t h = slice_get_within ts i t (sym h)
