-- Walks over the edges of a workflow, and what is written on each of them.
--     IsWalk        a way from one point to another
--     lasting       the writes of a walk that last at its end
--     Sure          every walk to the point has a lasting write of the name
--     Unreached     no walk leads to the point
use Rattle.std.specs.Prelude.{◌≡◌, ◌⊎◌, ℕ, Bool, false, ◌||◌, List, [], ◌∷◌, ◌++◌, if◌then◌else◌, nat_le, bytes_eq, IsTrue}
use Rattle.wf_assigned.specs.declared.points.Edge.{Edge}
use Rattle.wf_assigned.specs.declared.points.Point.{Point}
use Rattle.wf_value.specs.Pairs.{Text}

abbrev pub IsAmong : Edge → List Edge → Type 0
IsAmong e [] = ⊥
IsAmong e (x ∷ xs) = (e ≡ x) ⊎ IsAmong e xs

-- the edges of a walk, the last one first: each begins where the one before it ends
abbrev pub IsWalk : List Edge → Point → List Edge → Point → Type 0
IsWalk edges entry [] p = p ≡ entry
IsWalk edges entry (e ∷ w) p = (e.to ≡ p) × IsAmong e edges × IsWalk edges entry w e.from

-- a name, and the layer in which it was written
pub record Write : Type 0 where
  pub name : Text
  pub depth : ℕ

abbrev pub writes_at : ℕ → List Text → List Write
writes_at depth [] = []
writes_at depth (x ∷ xs) = record { name = x; depth = depth } ∷ writes_at depth xs

abbrev pub written : Edge → List Write
written e = writes_at e.depth e.writes

-- a write lasts until the walk leaves its layer
abbrev pub kept : ℕ → List Write → List Write
kept keeps [] = []
kept keeps (w ∷ ws) = if nat_le w.depth keeps then w ∷ kept keeps ws else kept keeps ws

abbrev pub lasting : List Edge → List Write
lasting [] = []
lasting (e ∷ w) = written e ++ kept e.keeps (lasting w)

abbrev pub has_write : Text → List Write → Bool
has_write x [] = false
has_write x (w ∷ ws) = bytes_eq x w.name || has_write x ws

-- every walk from the entry to the point has a lasting write of the name
abbrev pub Sure : List Edge → Point → Point → Text → Type 0
Sure edges entry p x = (w : List Edge) → IsWalk edges entry w p → IsTrue (has_write x (lasting w))

-- no walk leads from the entry to the point
abbrev pub Unreached : List Edge → Point → Point → Type 0
Unreached edges entry p = (w : List Edge) → IsWalk edges entry w p → ⊥
