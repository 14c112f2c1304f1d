-- A word that is raised along a link has bits that ways give.
use Rattle.std.specs.Int.{bit_at, bit_not, w64}
use Rattle.std.specs.Prelude.{◌≡◌, ℕ, zero, suc, ◌+◌, ◌-◌, ◌<◌, ◌≤◌, ◌^◌, min, max, Bool, true, false, List, [], ◌∷◌, ◌++◌, length, nat_eq, nat_lt, slice_get, slice_set, bit_or, Some}
use Rattle.std.proofs.Common.{arith, add-one, append_assoc}
use Rattle.std.proofs.lemmas.Bool.{ltb-true, ltb-false, eqb-true, eqb-false}
use Rattle.std.proofs.lemmas.List.{get_or-set_same, get_or-set_other}
use Rattle.std.proofs.lemmas.Nat.Bits.{bit_at_and, bit_at_not, bit_at_or, bit_at-lt, bit_at-zero}
use mathlib.Core.Logic.{inl, inr}
use mathlib.Core.Path.{refl, sym, subst, ap, ◌∙◌}
use Rattle.wf_assigned.specs.Links.{word_at, stopped_at, carried, raised_along, edge_links, link_of, links_of, IsLink, Way, AreWays}
use Rattle.wf_assigned.specs.declared.points.Edge.{Edge}
use Rattle.wf_assigned.specs.declared.links.Link.{Link}
use Rattle.wf_model.proofs.Walk.{bool_case}

-- each word has 64 bits
abbrev pub AreWords : List ℕ → Type 0
AreWords ws = (i : ℕ) → word_at ws i < 2 ^ 64

stops_word : (l : Link) (written : List ℕ) → AreWords written → stopped_at l written < 2 ^ 64
stops_word l written h = bool_case (λ (z : ℕ). z < 2 ^ 64) l.stops (word_at written l.edge) 0 (λ e. h l.edge) (λ e. omega arith)

bit_of_not : (n b : ℕ) → n < 2 ^ 64 → b < 64 → bit_at (bit_not w64 n) b ≡ 1 - bit_at n b
bit_of_not n b l m = bit_at_not w64 n b l m

-- what a link carries
pub carried_bit : (ws : List ℕ) (l : Link) (written : List ℕ) (b : ℕ) → AreWords written → b < 64 → bit_at (carried ws l written) b ≡ min (bit_at (word_at ws l.from) b) (1 - bit_at (stopped_at l written) b)
carried_bit ws l written b h m = bit_at_and (word_at ws l.from) (bit_not w64 (stopped_at l written)) b ∙ ap (min (bit_at (word_at ws l.from) b)) (bit_of_not (stopped_at l written) b (stops_word l written h) m)

module _ (count : ℕ) (links : List Link) (written : List ℕ) where
  pub raise_ways : (l : Link) (ws : List ℕ) → AreWords written → IsLink l links → AreWays count links written ws → AreWays count links written (raised_along l written ws)
  raise_ways l ws words i h =
      bool_case (AreWays count links written) (nat_lt l.to (length ws)) (slice_set ws l.to (bit_or (word_at ws l.to) (carried ws l written))) ws
      (λ e. raised (ltb-true l.to (length ws) e)) (λ e. h)
    where
      n : ℕ
      n = bit_or (word_at ws l.to) (carried ws l written)

      here : (b : ℕ) → b < 64 → bit_at n b ≡ 1 → Way count links written b l.to
      here b m j = by (bit_at (word_at ws l.to) b) (bit_at (word_at ws l.from) b) (bit_at (stopped_at l written) b) refl refl refl (bit_at-lt (word_at ws l.to) b) (bit_at-lt (word_at ws l.from) b)
          (sym (bit_at_or (word_at ws l.to) (carried ws l written) b ∙ ap (max (bit_at (word_at ws l.to) b)) (carried_bit ws l written b words m)) ∙ j)
        where
          by : (a c s : ℕ) → bit_at (word_at ws l.to) b ≡ a → bit_at (word_at ws l.from) b ≡ c → bit_at (stopped_at l written) b ≡ s → a < 2 → c < 2 → max a (min c (1 - s)) ≡ 1 → Way count links written b l.to
          by (suc a) c s e f g la lc k = h.way b l.to m (e ∙ omega (arith, la))
          by zero c zero e f g la lc k = let w = h.way b l.from m (f ∙ omega (arith, lc, k)) in record { path = l ∷ w.path; is = (refl, i, g, w.is) }
          by zero c (suc s) e f g la lc k = absurd (omega (arith, k))

      raised : l.to < length ws → AreWays count links written (slice_set ws l.to n)
      raised a = record { way = λ b p m j. at b p m j (nat_eq p l.to) refl }
        where
          at : (b p : ℕ) → b < 64 → bit_at (word_at (slice_set ws l.to n) p) b ≡ 1 → (c : Bool) → nat_eq p l.to ≡ c → Way count links written b p
          at b p m j true q =
              let same = eqb-true p l.to q in
              let bit : bit_at n b ≡ 1 = sym (ap (λ z. bit_at z b) (get_or-set_same ws l.to n 0 a)) ∙ subst (λ z. bit_at (word_at (slice_set ws l.to n) z) b ≡ 1) same j in
              subst (Way count links written b) (sym same) (here b m bit)
          at b p m j false q = h.way b p m (sym (ap (λ z. bit_at z b) (get_or-set_other ws l.to p n 0 (eqb-false p l.to q))) ∙ j)

-- one of these links
pub link_at : (ls : List Link) (i : ℕ) (l : Link) → slice_get ls i ≡ Some l → IsLink l ls
link_at [] i l h = absurd (cc h)
link_at (k ∷ ks) zero l h = let e : l ≡ k = cc h in inl e
link_at (k ∷ ks) (suc i) l h = inr (link_at ks i l h)

-- only the first words have bits
pub begins_ways : (count : ℕ) (links : List Link) (written ws : List ℕ) → ((i : ℕ) → count ≤ i → word_at ws i ≡ 0) → AreWays count links written ws
begins_ways count links written ws h = record { way = λ b i m j. by b i j (nat_lt i count) refl }
  where
    no : (n : ℕ) → n ≡ 0 → n ≡ 1 → ⊥
    no n e f = omega (arith, e, f)

    by : (b i : ℕ) → bit_at (word_at ws i) b ≡ 1 → (c : Bool) → nat_lt i count ≡ c → Way count links written b i
    by b i j true e = record { path = []; is = ltb-true i count e }
    by b i j false e = absurd (no (bit_at (word_at ws i) b) (ap (λ z. bit_at z b) (h i (ltb-false i count e)) ∙ bit_at-zero b) j)

-- a link more of an edge
pub one_link_more : (old now new : List Link) (count i : ℕ) (e : Edge) (n : ℕ) (l : Link) → now ≡ old ++ edge_links count i e n → l ≡ link_of count i e n → new ≡ now ++ l ∷ [] → new ≡ old ++ edge_links count i e (n + 1)
one_link_more old now new count i e n l h is k =
    k ∙ ap (λ (z : List Link). z ++ l ∷ []) h ∙ append_assoc old (edge_links count i e n) (l ∷ []) ∙ ap (λ z. old ++ (edge_links count i e n ++ z ∷ [])) is ∙ ap (λ z. old ++ edge_links count i e z) (sym (add-one n))

-- the links of an edge more
pub one_edge_more : (now new all : List Link) (count i : ℕ) (e : Edge) (es rest : List Edge) → es ≡ e ∷ rest → now ++ links_of count i es ≡ all → new ≡ now ++ edge_links count i e count → new ++ links_of count (i + 1) rest ≡ all
one_edge_more now new all count i e es rest is h k =
    ap (λ z. new ++ links_of count z rest) (add-one i) ∙ ap (λ (z : List Link). z ++ links_of count (suc i) rest) k ∙ append_assoc now (edge_links count i e count) (links_of count (suc i) rest) ∙ ap (λ z. now ++ links_of count i z) (sym is) ∙ h
