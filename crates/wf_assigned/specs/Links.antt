-- Marks as the code holds them: a word for each point and number, with a bit for each of 64 names.
--     index, place    the number of a point, and where its word of a number stands
--     links_of        the links of edges: from where to where a mark is carried
--     IsSolved        words that no link raises, each bit of which is given by a way
use Rattle.std.specs.Int.{bit_at, bit_not, w64}
use Rattle.std.specs.Prelude.{◌≡◌, ◌⊎◌, ℕ, zero, suc, ◌+◌, ◌*◌, ◌<◌, min, Bool, true, ◌&&◌, List, [], ◌∷◌, ◌++◌, length, if◌then◌else◌, nat_eq, nat_lt, slice_index_or, slice_set, bit_and, bit_or}
use Rattle.wf_assigned.specs.declared.links.Link.{Link}
use Rattle.wf_assigned.specs.declared.points.Edge.{Edge}
use Rattle.wf_assigned.specs.declared.points.Point.{Point}
use Rattle.wf_assigned.specs.declared.points.Point.TheVariants.{At, HeadOf, FailOf, EndOf}

-- ## Links
-- four points to a node
abbrev pub index : Point → ℕ
index (At n) = n * 4
index (HeadOf n) = n * 4 + 1
index (FailOf n) = n * 4 + 2
index (EndOf n) = n * 4 + 3

-- so many numbers to a point
abbrev pub place : ℕ → Point → ℕ → ℕ
place count p t = index p * count + t

-- a mark is carried along the edge of this index, if no name is written on it in a layer of a number below t
abbrev pub link_of : ℕ → ℕ → Edge → ℕ → Link
link_of count i e t = record { from = place count e.from (min t (suc e.keeps)); to = place count e.to t; edge = i; stops = nat_lt e.depth t }

-- those of the numbers below n
abbrev pub edge_links : ℕ → ℕ → Edge → ℕ → List Link
edge_links count i e zero = []
edge_links count i e (suc n) = edge_links count i e n ++ link_of count i e n ∷ []

-- those of edges, the first of which has the index i
abbrev pub links_of : ℕ → ℕ → List Edge → List Link
links_of count i [] = []
links_of count i (e ∷ es) = edge_links count i e count ++ links_of count (suc i) es

-- ## Words
abbrev pub word_at : List ℕ → ℕ → ℕ
word_at ws i = slice_index_or ws i 0

-- the names that stop at the link
abbrev pub stopped_at : Link → List ℕ → ℕ
stopped_at l written = if l.stops then word_at written l.edge else 0

-- what the link carries
abbrev pub carried : List ℕ → Link → List ℕ → ℕ
carried ws l written = bit_and (word_at ws l.from) (bit_not w64 (stopped_at l written))

abbrev pub raised_along : Link → List ℕ → List ℕ → List ℕ
raised_along l written ws = if nat_lt l.to (length ws) then slice_set ws l.to (bit_or (word_at ws l.to) (carried ws l written)) else ws

abbrev pub settled_link : Link → List ℕ → List ℕ → Bool
settled_link l written ws = nat_eq (bit_and (carried ws l written) (bit_not w64 (word_at ws l.to))) 0

abbrev pub settled_links : List Link → List ℕ → List ℕ → Bool
settled_links [] written ws = true
settled_links (l ∷ ls) written ws = settled_link l written ws && settled_links ls written ws

-- ## Where bits come from
abbrev pub IsLink : Link → List Link → Type 0
IsLink l [] = ⊥
IsLink l (k ∷ ks) = (l ≡ k) ⊎ IsLink l ks

-- a way of links that carry the bit b, the last link first, from one of the first places on
abbrev pub IsWay : ℕ → List Link → List ℕ → ℕ → List Link → ℕ → Type 0
IsWay count links written b [] i = i < count
IsWay count links written b (l ∷ w) i = (l.to ≡ i) × IsLink l links × (bit_at (stopped_at l written) b ≡ 0) × IsWay count links written b w l.from

pub record Way (count : ℕ) (links : List Link) (written : List ℕ) (b : ℕ) (i : ℕ) : Type 0 where
  pub path : List Link
  pub is : IsWay count links written b path i

-- a way gives each bit
pub record AreWays (count : ℕ) (links : List Link) (written : List ℕ) (ws : List ℕ) : Type 0 where
  pub way : (b i : ℕ) → b < 64 → bit_at (word_at ws i) b ≡ 1 → Way count links written b i

-- the first places have all bits
abbrev pub AreFull : ℕ → List ℕ → Type 0
AreFull count ws = (i : ℕ) → i < count → word_at ws i ≡ 18446744073709551615

pub record IsSolved (count : ℕ) (links : List Link) (written : List ℕ) (ws : List ℕ) : Type 0 where
  pub start : AreFull count ws
  pub settled : settled_links links written ws ≡ true
  pub ways : AreWays count links written ws
