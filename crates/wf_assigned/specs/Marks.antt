-- Marks of points, from which the answers on a name are read. A mark of the number t says that some walk to the point has no lasting write
-- of the name in a layer of a number below t.
--     lacks        these writes have none of the name there
--     spares       an edge makes none
--     Closed       no edge gives a mark more
--     Witnessed    a walk gives each mark
use Rattle.std.specs.Prelude.{◌≡◌, ℕ, suc, ◌≤◌, ◌<◌, min, Bool, true, not, ◌&&◌, List, [], ◌∷◌, nat_lt, bytes_eq}
use Rattle.wf_assigned.specs.Walks.{IsAmong, IsWalk, Write, lasting}
use Rattle.wf_assigned.specs.declared.points.Edge.{Edge}
use Rattle.wf_assigned.specs.declared.points.Point.{Point}
use Rattle.wf_value.specs.HttpRequest.{is_among}
use Rattle.wf_value.specs.Pairs.{Text}

-- none of these writes is of the name and in a layer of a number below t
abbrev pub lacks : ℕ → Text → List Write → Bool
lacks t x [] = true
lacks t x (w ∷ ws) = not (bytes_eq x w.name && nat_lt w.depth t) && lacks t x ws

-- nor does the edge make such a write
abbrev pub spares : ℕ → Text → Edge → Bool
spares t x e = not (is_among x e.writes && nat_lt e.depth t)

-- all layers have numbers below this one
abbrev pub Within : ℕ → List Edge → Type 0
Within far edges = (e : Edge) → IsAmong e edges → e.depth < far

-- the marks of points, each for the numbers up to `far`
abbrev pub Marks : Type 0
Marks = Point → ℕ → Bool

-- the entry has all marks, and no edge gives one more: on an edge a layer is left or stays
pub record Closed (far : ℕ) (x : Text) (edges : List Edge) (entry : Point) (marks : Marks) : Type 0 where
  pub start : (t : ℕ) → t ≤ far → marks entry t ≡ true
  pub edge : (e : Edge) → IsAmong e edges → (t : ℕ) → t ≤ far → spares t x e ≡ true → marks e.from (min t (suc e.keeps)) ≡ true → marks e.to t ≡ true

-- a walk to the point that has no such write
pub record Witness (x : Text) (edges : List Edge) (entry : Point) (p : Point) (t : ℕ) : Type 0 where
  pub walk : List Edge
  pub is : IsWalk edges entry walk p
  pub lacks : lacks t x (lasting walk) ≡ true

-- a walk gives each mark
abbrev pub Witnessed : ℕ → Text → List Edge → Point → Marks → Type 0
Witnessed far x edges entry marks = (p : Point) (t : ℕ) → t ≤ far → marks p t ≡ true → Witness x edges entry p t

pub record Solved (far : ℕ) (x : Text) (edges : List Edge) (entry : Point) (marks : Marks) : Type 0 where
  pub closed : Closed far x edges entry marks
  pub witnessed : Witnessed far x edges entry marks
