-- The marks are exact.
use Rattle.std.specs.Prelude.{◌≡◌, ℕ, suc, ◌≤◌, ◌<◌, min, Bool, true, false, not, ◌&&◌, ◌||◌, List, [], ◌∷◌, ◌++◌, nat_lt, nat_le, bytes_eq, IsTrue}
use Rattle.std.proofs.Common.{arith}
use Rattle.std.proofs.lemmas.Bool.{leb-true, leb-false, ltb-true, lt-ltb, true≢false}
use mathlib.Core.Path.{refl, sym, subst, ap, ◌∙◌}
use Rattle.wf_assigned.specs.Law.{MarksAreExact}
use Rattle.wf_assigned.specs.Marks.{lacks, spares, Within, Marks, Closed, Witnessed}
use Rattle.wf_assigned.specs.Walks.{IsWalk, Write, writes_at, kept, lasting, has_write, Sure, Unreached}
use Rattle.wf_assigned.specs.declared.points.Edge.{Edge}
use Rattle.wf_assigned.specs.declared.points.Point.{Point}
use Rattle.wf_lemmas.proofs.Bools.{and_left, and_right, clash, false_unless, same_answer}
use Rattle.wf_model.proofs.Walk.{bool_case}
use Rattle.wf_value.specs.HttpRequest.{is_among}
use Rattle.wf_value.specs.Pairs.{Text}

-- ## What an edge more has
-- the writes of an edge before others
lacks_written : (t : ℕ) (x : Text) (d : ℕ) (xs : List Text) (ws : List Write) → lacks t x (writes_at d xs ++ ws) ≡ (not (is_among x xs && nat_lt d t) && lacks t x ws)
lacks_written t x d [] ws = refl
lacks_written t x d (y ∷ ys) ws = ap (λ z. not (bytes_eq x y && nat_lt d t) && z) (lacks_written t x d ys ws) ∙ by (bytes_eq x y) (is_among x ys) (nat_lt d t) (lacks t x ws)
  where
    by : (b c l r : Bool) → (not (b && l) && (not (c && l) && r)) ≡ (not ((b || c) && l) && r)
    by true c true r = refl
    by true true false r = refl
    by true false false r = refl
    by false c l r = refl

-- what is kept of them
lacks_kept : (t k : ℕ) (x : Text) (ws : List Write) → lacks t x (kept k ws) ≡ lacks (min t (suc k)) x ws
lacks_kept t k x [] = refl
lacks_kept t k x (w ∷ ws) =
    bool_case (λ z. lacks t x z ≡ lacks (min t (suc k)) x (w ∷ ws)) (nat_le w.depth k) (w ∷ kept k ws) (kept k ws)
    (λ e. ap (λ z. not (bytes_eq x w.name && z) && lacks t x (kept k ws)) (near (leb-true w.depth k e)) ∙ ap (λ z. not (bytes_eq x w.name && nat_lt w.depth (min t (suc k))) && z) (lacks_kept t k x ws))
    (λ e. lacks_kept t k x ws ∙ none (bytes_eq x w.name) (lacks (min t (suc k)) x ws) (nat_lt w.depth (min t (suc k))) (outside (leb-false w.depth k e)))
  where
    near : w.depth ≤ k → nat_lt w.depth t ≡ nat_lt w.depth (min t (suc k))
    near l = same_answer (nat_lt w.depth t) (nat_lt w.depth (min t (suc k)))
        (λ h. let m = ltb-true w.depth t h in lt-ltb w.depth (min t (suc k)) (omega (arith, l, m)))
        (λ h. let m = ltb-true w.depth (min t (suc k)) h in lt-ltb w.depth t (omega (arith, l, m)))

    outside : k < w.depth → nat_lt w.depth (min t (suc k)) ≡ false
    outside l = false_unless (nat_lt w.depth (min t (suc k))) (λ h. let m = ltb-true w.depth (min t (suc k)) h in omega (arith, l, m))

    none : (b r l : Bool) → l ≡ false → r ≡ (not (b && l) && r)
    none true r true h = absurd (true≢false h)
    none true r false h = refl
    none false r l h = refl

pub lacks_step : (t : ℕ) (x : Text) (e : Edge) (w : List Edge) → lacks t x (lasting (e ∷ w)) ≡ (spares t x e && lacks (min t (suc e.keeps)) x (lasting w))
lacks_step t x e w = lacks_written t x e.depth e.writes (kept e.keeps (lasting w)) ∙ ap (λ z. spares t x e && z) (lacks_kept t e.keeps x (lasting w))

lacks_none : (x : Text) (ws : List Write) → lacks 0 x ws ≡ true
lacks_none x [] = refl
lacks_none x (w ∷ ws) = by (bytes_eq x w.name) (nat_lt w.depth 0) (lacks 0 x ws) (false_unless (nat_lt w.depth 0) (λ h. let m = ltb-true w.depth 0 h in omega (arith, m))) (lacks_none x ws)
  where
    by : (b l r : Bool) → l ≡ false → r ≡ true → (not (b && l) && r) ≡ true
    by true true r h k = absurd (true≢false h)
    by true false r h k = k
    by false l r h k = k

-- a walk without writes of the name
has_none : (t : ℕ) (x : Text) (ws : List Write) → has_write x ws ≡ false → lacks t x ws ≡ true
has_none t x [] h = refl
has_none t x (w ∷ ws) h = by (bytes_eq x w.name) (has_write x ws) (nat_lt w.depth t) h (has_none t x ws)
  where
    by : (b c l : Bool) → (b || c) ≡ false → (c ≡ false → lacks t x ws ≡ true) → (not (b && l) && lacks t x ws) ≡ true
    by true c l j k = absurd (true≢false j)
    by false c l j k = k j

-- ## Walks and marks
module _ (far : ℕ) (x : Text) (edges : List Edge) (entry : Point) (marks : Marks) where
  marked : Closed far x edges entry marks → (w : List Edge) (p : Point) → IsWalk edges entry w p → (t : ℕ) → t ≤ far → lacks t x (lasting w) ≡ true → marks p t ≡ true
  marked c [] p h t l k = subst (λ q. marks q t ≡ true) (sym h) (c.start t l)
  marked c (e ∷ w) p h t l k =
      let both = sym (lacks_step t x e w) ∙ k in
      let rest = lacks (min t (suc e.keeps)) x (lasting w) in
      subst (λ q. marks q t ≡ true) h.0 (c.edge e h.1 t l (and_left (spares t x e) rest both) (marked c w e.from h.2 (min t (suc e.keeps)) (omega (arith, l)) (and_right (spares t x e) rest both)))

  -- all writes stand in layers of numbers below `far`
  abbrev AllNear : List Write → Type 0
  AllNear [] = Unit {0}
  AllNear (w ∷ ws) = (w.depth < far) × AllNear ws

  near_written : (d : ℕ) (xs : List Text) (ws : List Write) → d < far → AllNear ws → AllNear (writes_at d xs ++ ws)
  near_written d [] ws l h = h
  near_written d (y ∷ ys) ws l h = (l, near_written d ys ws l h)

  near_kept : (k : ℕ) (ws : List Write) → AllNear ws → AllNear (kept k ws)
  near_kept k [] h = tt
  near_kept k (w ∷ ws) h =
      let rest = near_kept k ws h.1 in
      bool_case AllNear (nat_le w.depth k) (w ∷ kept k ws) (kept k ws) (λ e. (h.0, rest)) (λ e. rest)

  near_lasting : Within far edges → (w : List Edge) (p : Point) → IsWalk edges entry w p → AllNear (lasting w)
  near_lasting within [] p h = tt
  near_lasting within (e ∷ w) p h = near_written e.depth e.writes (kept e.keeps (lasting w)) (within e h.1) (near_kept e.keeps (lasting w) (near_lasting within w e.from h.2))

  not_both : (ws : List Write) → AllNear ws → lacks far x ws ≡ true → has_write x ws ≡ true → ⊥
  not_both [] n h k = true≢false (sym k)
  not_both (w ∷ ws) n h k = by (bytes_eq x w.name) (has_write x ws) (nat_lt w.depth far) (lt-ltb w.depth far n.0) h k (not_both ws n.1)
    where
      by : (b c l : Bool) → l ≡ true → (not (b && l) && lacks far x ws) ≡ true → (b || c) ≡ true → (lacks far x ws ≡ true → c ≡ true → ⊥) → ⊥
      by true c true i j k f = true≢false (sym j)
      by true c false i j k f = true≢false (sym i)
      by false c l i j k f = f j k

  sure_from : Closed far x edges entry marks → (p : Point) → marks p far ≡ false → Sure edges entry p x
  sure_from c p h w i = by (has_write x (lasting w)) refl
    where
      by : (b : Bool) → has_write x (lasting w) ≡ b → IsTrue (has_write x (lasting w))
      by true e = e
      by false e = absurd (clash (marks p far) h (marked c w p i far (omega arith) (has_none far x (lasting w) e)))

  sure_to : Within far edges → Witnessed far x edges entry marks → (p : Point) → Sure edges entry p x → marks p far ≡ false
  sure_to within t p s = false_unless (marks p far) (λ h. let a = t p far (omega arith) h in not_both (lasting a.walk) (near_lasting within a.walk p a.is) a.lacks (s a.walk a.is))

  unreached_from : Closed far x edges entry marks → (p : Point) → marks p 0 ≡ false → Unreached edges entry p
  unreached_from c p h w i = clash (marks p 0) h (marked c w p i 0 (omega arith) (lacks_none x (lasting w)))

  unreached_to : Witnessed far x edges entry marks → (p : Point) → Unreached edges entry p → marks p 0 ≡ false
  unreached_to t p s = false_unless (marks p 0) (λ h. let a = t p 0 (omega arith) h in s a.walk a.is)

pub marks_are_exact : MarksAreExact
marks_are_exact far x edges entry marks within s p = (
  (sure_from far x edges entry marks s.closed p, sure_to far x edges entry marks within s.witnessed p),
  (unreached_from far x edges entry marks s.closed p, unreached_to far x edges entry marks s.witnessed p),
)
