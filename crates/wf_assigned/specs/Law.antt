-- The laws of marks: they tell exactly which reads are sure, and which points no walk reaches.
use Rattle.std.specs.Int.{bit_at}
use Rattle.std.specs.Prelude.{◌≡◌, ℕ, suc, ◌^◌, ◌<◌, false, ◌↔◌, List, [], ◌∷◌, if◌then◌else◌, nat_eq}
use Rattle.wf_assigned.specs.Links.{IsSolved, links_of, place, word_at}
use Rattle.wf_assigned.specs.Marks.{Marks, Solved, Within}
use Rattle.wf_assigned.specs.Walks.{Sure, Unreached}
use Rattle.wf_assigned.specs.declared.points.Edge.{Edge}
use Rattle.wf_assigned.specs.declared.points.Point.{Point}
use Rattle.wf_assigned.specs.declared.points.Point.TheVariants.{At}
use Rattle.wf_value.specs.HttpRequest.{is_among}
use Rattle.wf_value.specs.Pairs.{Text}

-- marks that no edge gives more, each given by a walk, tell it both ways
abbrev pub MarksAreExact : Type 0
MarksAreExact =
    (far : ℕ) (x : Text) (edges : List Edge) (entry : Point) (marks : Marks) → Within far edges → Solved far x edges entry marks → (p : Point) →
    ((marks p far ≡ false) ↔ Sure edges entry p x) × ((marks p 0 ≡ false) ↔ Unreached edges entry p)

-- the bit b of each of these words has the name written where the edge of its index, of those from i on, has it
abbrev pub HaveName : ℕ → Text → List ℕ → ℕ → List Edge → Type 0
HaveName b x written i [] = Unit {0}
HaveName b x written i (e ∷ es) = (bit_at (word_at written i) b ≡ (if is_among x e.writes then 1 else 0)) × HaveName b x written (suc i) es

-- the marks of the bit b
abbrev pub marks_of : ℕ → List ℕ → ℕ → Marks
marks_of far ws b p t = nat_eq (bit_at (word_at ws (place (suc far) p t)) b) 1

-- each name's bits are such marks
abbrev pub BitsAreMarks : Type 0
BitsAreMarks =
    (far b : ℕ) (x : Text) (edges : List Edge) (written ws : List ℕ) → b < 64 → ((i : ℕ) → word_at written i < 2 ^ 64) → ((i : ℕ) → word_at ws i < 2 ^ 64) → HaveName b x written 0 edges
    → IsSolved (suc far) (links_of (suc far) 0 edges) written ws → Solved far x edges (At 0) (marks_of far ws b)
