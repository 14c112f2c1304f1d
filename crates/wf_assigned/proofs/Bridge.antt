-- The bits of a name are marks.
use Rattle.std.specs.Int.{bit_at, bit_not, w64}
use Rattle.std.specs.Prelude.{◌≡◌, ◌⊎◌, ℕ, zero, suc, ◌+◌, ◌-◌, ◌*◌, ◌/◌, ◌<◌, ◌≤◌, min, Bool, true, false, not, ◌&&◌, List, [], ◌∷◌, ◌++◌, if◌then◌else◌, nat_eq, nat_lt, bit_and}
use Rattle.std.proofs.Common.{arith}
use Rattle.std.proofs.lemmas.Bool.{eqb-true, eqb-false, true≢false}
use Rattle.std.proofs.lemmas.Nat.{div-mul-add}
use Rattle.std.proofs.lemmas.Nat.Bits.{bit_at_and, bit_at_not, bit_at_ones, bit_at-lt, bit_at-zero}
use mathlib.Core.Logic.{inl, inr}
use mathlib.Core.Path.{refl, sym, subst, ap, ◌∙◌}
use Rattle.wf_assigned.proofs.Exact.{lacks_step}
use Rattle.wf_assigned.proofs.Ways.{AreWords, carried_bit}
use Rattle.wf_assigned.specs.Law.{BitsAreMarks, HaveName}
use Rattle.wf_assigned.specs.Links.{index, place, link_of, edge_links, links_of, word_at, stopped_at, carried, settled_link, settled_links, IsLink, IsWay}
use Rattle.wf_assigned.specs.Marks.{lacks, spares, Witness}
use Rattle.wf_assigned.specs.Walks.{IsAmong, lasting}
use Rattle.wf_assigned.specs.declared.links.Link.{Link}
use Rattle.wf_assigned.specs.declared.points.Edge.{Edge}
use Rattle.wf_assigned.specs.declared.points.Point.{Point}
use Rattle.wf_assigned.specs.declared.points.Point.TheVariants.{At, HeadOf, FailOf, EndOf}
use Rattle.wf_lemmas.proofs.Bools.{and_left, and_right}
use Rattle.wf_value.specs.HttpRequest.{is_among}
use Rattle.wf_value.specs.Pairs.{Text}

-- ## Numbers of points and places
index_same : (p q : Point) → index p ≡ index q → p ≡ q
index_same (At n) (At m) h = ap At (omega (arith, h))
index_same (At n) (HeadOf m) h = absurd (omega (arith, h))
index_same (At n) (FailOf m) h = absurd (omega (arith, h))
index_same (At n) (EndOf m) h = absurd (omega (arith, h))
index_same (HeadOf n) (At m) h = absurd (omega (arith, h))
index_same (HeadOf n) (HeadOf m) h = ap HeadOf (omega (arith, h))
index_same (HeadOf n) (FailOf m) h = absurd (omega (arith, h))
index_same (HeadOf n) (EndOf m) h = absurd (omega (arith, h))
index_same (FailOf n) (At m) h = absurd (omega (arith, h))
index_same (FailOf n) (HeadOf m) h = absurd (omega (arith, h))
index_same (FailOf n) (FailOf m) h = ap FailOf (omega (arith, h))
index_same (FailOf n) (EndOf m) h = absurd (omega (arith, h))
index_same (EndOf n) (At m) h = absurd (omega (arith, h))
index_same (EndOf n) (HeadOf m) h = absurd (omega (arith, h))
index_same (EndOf n) (FailOf m) h = absurd (omega (arith, h))
index_same (EndOf n) (EndOf m) h = ap EndOf (omega (arith, h))

row_same : (count a b s t : ℕ) → s < count → t < count → a * count + s ≡ b * count + t → a ≡ b
row_same count a b s t l m h = sym (div-mul-add a count s l) ∙ ap (λ z. z / count) h ∙ div-mul-add b count t m

column_same : (count a b s t : ℕ) → a ≡ b → a * count + s ≡ b * count + t → s ≡ t
column_same count a b s t e h = let k : a * count + s ≡ a * count + t = h ∙ ap (λ z. z * count + t) (sym e) in omega (arith, k)

-- ## Links of edges
-- a link of these edges, the first of which has the index i
record Stood (count : ℕ) (i : ℕ) (edges : List Edge) (b : ℕ) (x : Text) (written : List ℕ) (l : Link) : Type 0 where
  pub edge : Edge
  pub among : IsAmong edge edges
  pub at : ℕ
  pub number : ℕ
  pub below : number < count
  pub is : l ≡ link_of count at edge number
  pub bit : bit_at (word_at written at) b ≡ (if is_among x edge.writes then 1 else 0)

record Numbered (count i : ℕ) (e : Edge) (l : Link) : Type 0 where
  pub number : ℕ
  pub below : number < count
  pub is : l ≡ link_of count i e number

link_parts : (xs ys : List Link) (l : Link) → IsLink l (xs ++ ys) → IsLink l xs ⊎ IsLink l ys
link_parts [] ys l h = inr h
link_parts (x ∷ xs) ys l (inl h) = inl (inl h)
link_parts (x ∷ xs) ys l (inr h) = by (link_parts xs ys l h)
  where
    by : IsLink l xs ⊎ IsLink l ys → IsLink l (x ∷ xs) ⊎ IsLink l ys
    by (inl k) = inl (inr k)
    by (inr k) = inr k

link_left : (xs ys : List Link) (l : Link) → IsLink l xs → IsLink l (xs ++ ys)
link_left (x ∷ xs) ys l (inl h) = inl h
link_left (x ∷ xs) ys l (inr h) = inr (link_left xs ys l h)
link_left [] ys l h = absurd h

link_right : (xs ys : List Link) (l : Link) → IsLink l ys → IsLink l (xs ++ ys)
link_right [] ys l h = h
link_right (x ∷ xs) ys l h = inr (link_right xs ys l h)

numbered : (count i : ℕ) (e : Edge) (n : ℕ) (l : Link) → n ≤ count → IsLink l (edge_links count i e n) → Numbered count i e l
numbered count i e zero l m h = absurd h
numbered count i e (suc n) l m h = by (λ k. numbered count i e n l (omega (arith, m)) k) (link_parts (edge_links count i e n) (link_of count i e n ∷ []) l h)
  where
    by : (IsLink l (edge_links count i e n) → Numbered count i e l) → IsLink l (edge_links count i e n) ⊎ IsLink l (link_of count i e n ∷ []) → Numbered count i e l
    by f (inl k) = f k
    by f (inr (inl k)) = record { number = n; below = omega (arith, m); is = k }
    by f (inr (inr k)) = absurd k

has_link : (count i : ℕ) (e : Edge) (n t : ℕ) → t < n → IsLink (link_of count i e t) (edge_links count i e n)
has_link count i e zero t l = absurd (omega (arith, l))
has_link count i e (suc n) t l = by (λ m. has_link count i e n t m) (nat_eq t n) refl
  where
    by : (t < n → IsLink (link_of count i e t) (edge_links count i e n)) → (c : Bool) → nat_eq t n ≡ c → IsLink (link_of count i e t) (edge_links count i e n ++ link_of count i e n ∷ [])
    by f true h = link_right (edge_links count i e n) (link_of count i e n ∷ []) (link_of count i e t) (inl (ap (link_of count i e) (eqb-true t n h)))
    by f false h = let ne = eqb-false t n h in link_left (edge_links count i e n) (link_of count i e n ∷ []) (link_of count i e t) (f (omega (arith, l, ne)))

stood : (count b : ℕ) (x : Text) (written : List ℕ) (i : ℕ) (edges : List Edge) → HaveName b x written i edges → (l : Link) → IsLink l (links_of count i edges) → Stood count i edges b x written l
stood count b x written i [] n l h = absurd h
stood count b x written i (e ∷ es) n l h = by (λ k. stood count b x written (suc i) es n.1 l k) (link_parts (edge_links count i e count) (links_of count (suc i) es) l h)
  where
    by : (IsLink l (links_of count (suc i) es) → Stood count (suc i) es b x written l) → IsLink l (edge_links count i e count) ⊎ IsLink l (links_of count (suc i) es) → Stood count i (e ∷ es) b x written l
    by f (inl k) = let a = numbered count i e count l (omega arith) k in record { edge = e; among = inl refl; at = i; number = a.number; below = a.below; is = a.is; bit = n.0 }
    by f (inr k) = let a = f k in record { edge = a.edge; among = inr a.among; at = a.at; number = a.number; below = a.below; is = a.is; bit = a.bit }

-- the links of an edge, by its index
record Placed (count b : ℕ) (x : Text) (written : List ℕ) (links : List Link) (e : Edge) : Type 0 where
  pub at : ℕ
  pub bit : bit_at (word_at written at) b ≡ (if is_among x e.writes then 1 else 0)
  pub link : (t : ℕ) → t < count → IsLink (link_of count at e t) links

placed : (count b : ℕ) (x : Text) (written : List ℕ) (i : ℕ) (edges : List Edge) → HaveName b x written i edges → (e : Edge) → IsAmong e edges → Placed count b x written (links_of count i edges) e
placed count b x written i [] n e h = absurd h
placed count b x written i (d ∷ ds) n e (inl h) =
    subst (Placed count b x written (links_of count i (d ∷ ds))) (sym h)
    (record { at = i; bit = n.0; link = λ t l. link_left (edge_links count i d count) (links_of count (suc i) ds) (link_of count i d t) (has_link count i d count t l) })
placed count b x written i (d ∷ ds) n e (inr h) =
    let a = placed count b x written (suc i) ds n.1 e h in
    record { at = a.at; bit = a.bit; link = λ t l. link_right (edge_links count i d count) (links_of count (suc i) ds) (link_of count a.at e t) (a.link t l) }

-- ## Bits
-- a name that isn't stopped is one that the edge spares
stop_bit : (s : Bool) (n b : ℕ) (c : Bool) → bit_at n b ≡ (if c then 1 else 0) → bit_at (if s then n else 0) b ≡ 0 → not (c && s) ≡ true
stop_bit true n b true h k = absurd (one (bit_at n b) h k)
  where
    one : (m : ℕ) → m ≡ 1 → m ≡ 0 → ⊥
    one m e f = omega (arith, e, f)
stop_bit true n b false h k = refl
stop_bit false n b true h k = refl
stop_bit false n b false h k = refl

pass_bit : (s : Bool) (n b : ℕ) (c : Bool) → bit_at n b ≡ (if c then 1 else 0) → not (c && s) ≡ true → bit_at (if s then n else 0) b ≡ 0
pass_bit true n b true h k = absurd (true≢false (sym k))
pass_bit true n b false h k = h
pass_bit false n b c h k = bit_at-zero b

module _ (far b : ℕ) (x : Text) (edges : List Edge) (written ws : List ℕ) (m : b < 64) (words : AreWords written) (all : AreWords ws) (names : HaveName b x written 0 edges) where
  abbrev count : ℕ
  count = suc far

  abbrev links : List Link
  links = links_of count 0 edges

  -- the walk of a way
  walked : (w : List Link) (p : Point) (t : ℕ) → t < count → IsWay count links written b w (place count p t) → Witness x edges (At 0) p t
  walked [] p t l h = record { walk = []; is = index_same p (At 0) (sym zero_is); lacks = refl }
    where
      zero_is : 0 * 4 ≡ index p
      zero_is = row_same count (0 * 4) (index p) (place count p t) t h l (omega arith)
  walked (k ∷ w) p t l h = from (λ q s m i. walked w q s m i) (stood count b x written 0 edges names k h.1)
    where
      from : ((q : Point) (s : ℕ) → s < count → IsWay count links written b w (place count q s) → Witness x edges (At 0) q s) → Stood count 0 edges b x written k → Witness x edges (At 0) p t
      from f s =
          let e = s.edge in
          let n = s.number in
          let end : place count e.to n ≡ place count p t = sym (ap (λ z. z.to) s.is) ∙ h.0 in
          let row = row_same count (index e.to) (index p) n t s.below l end in
          let number : n ≡ t = column_same count (index e.to) (index p) n t row end in
          let g = f e.from (min n (suc e.keeps)) (omega (arith, s.below)) (subst (IsWay count links written b w) (ap (λ z. z.from) s.is) h.3) in
          let spare : spares n x e ≡ true = stop_bit (nat_lt e.depth n) (word_at written s.at) b (is_among x e.writes) s.bit (subst (λ z. bit_at (stopped_at z written) b ≡ 0) s.is h.2) in
          subst (λ z. Witness x edges (At 0) p z) number
          (record { walk = e ∷ g.walk; is = (index_same e.to p row, s.among, g.is); lacks = lacks_step n x e g.walk ∙ ap (λ z. z && lacks (min n (suc e.keeps)) x (lasting g.walk)) spare ∙ g.lacks })

  -- a link that is settled carries nothing more
  settled_bit : (l : Link) → settled_link l written ws ≡ true → bit_at (stopped_at l written) b ≡ 0 → bit_at (word_at ws l.from) b ≡ 1 → bit_at (word_at ws l.to) b ≡ 1
  settled_bit l h s f = by (bit_at (word_at ws l.to) b) (bit_at-lt (word_at ws l.to) b) nothing
    where
      bit : bit_at (carried ws l written) b ≡ 1
      bit = carried_bit ws l written b words m ∙ ap (λ z. min z (1 - bit_at (stopped_at l written) b)) f ∙ ap (λ z. min 1 (1 - z)) s

      nothing : min 1 (1 - bit_at (word_at ws l.to) b) ≡ 0
      nothing =
          sym (bit_at_and (carried ws l written) (bit_not w64 (word_at ws l.to)) b ∙ ap (min (bit_at (carried ws l written) b)) (bit_at_not w64 (word_at ws l.to) b (all l.to) m) ∙ ap (λ z. min z (1 - bit_at (word_at ws l.to) b)) bit)
          ∙ ap (λ z. bit_at z b) (eqb-true (bit_and (carried ws l written) (bit_not w64 (word_at ws l.to))) 0 h) ∙ bit_at-zero b

      by : (a : ℕ) → a < 2 → min 1 (1 - a) ≡ 0 → a ≡ 1
      by zero k j = absurd (omega (arith, j))
      by (suc a) k j = omega (arith, k)

  settled_one : (ls : List Link) → settled_links ls written ws ≡ true → (l : Link) → IsLink l ls → settled_link l written ws ≡ true
  settled_one [] h l i = absurd i
  settled_one (k ∷ ks) h l (inl i) = subst (λ z. settled_link z written ws ≡ true) (sym i) (and_left (settled_link k written ws) (settled_links ks written ws) h)
  settled_one (k ∷ ks) h l (inr i) = settled_one ks (and_right (settled_link k written ws) (settled_links ks written ws) h) l i

  bit_is : (n : ℕ) → n ≡ 1 → nat_eq n 1 ≡ true
  bit_is n h = subst (λ z. nat_eq z 1 ≡ true) (sym h) refl

pub bits_are_marks : BitsAreMarks
bits_are_marks far b x edges written ws m words all names s = record {
  closed = record {
    start = λ t l.
        bit_is far b x edges written ws m words all names (bit_at (word_at ws (0 * 4 * suc far + t)) b)
        (ap (λ z. bit_at z b) (s.start (0 * 4 * suc far + t) (omega (arith, l))) ∙ bit_at_ones 64 b m);
    edge = λ e i t l k j.
        let a = placed (suc far) b x written 0 edges names e i in
        let link = link_of (suc far) a.at e t in
        bit_is far b x edges written ws m words all names (bit_at (word_at ws (place (suc far) e.to t)) b)
        (settled_bit far b x edges written ws m words all names link (settled_one far b x edges written ws m words all names (links_of (suc far) 0 edges) s.settled link (a.link t (omega (arith, l))))
        (pass_bit (nat_lt e.depth t) (word_at written a.at) b (is_among x e.writes) a.bit k)
        (eqb-true (bit_at (word_at ws link.from) b) 1 j));
  };
  witnessed = λ p t l h.
      let w = s.ways.way b (place (suc far) p t) m (eqb-true (bit_at (word_at ws (place (suc far) p t)) b) 1 h) in
      walked far b x edges written ws m words all names w.path p t (omega (arith, l)) w.is;
}
