-- The laws of one task: where a walk has come, what is sure is seen, and whatever the task does next, it stands where a walk has come again.
use Rattle.std.specs.Prelude.{◌≡◌, ℕ, true, List, [], ◌∷◌, Option, Result, is_some}
use Rattle.wf_ast.specs.Nodes.{loop_binds, param_names}
use Rattle.wf_ast.specs.Tree.{Flow, Steps, Over, loop, parallel, Work, OfLoop, Branches, branch}
use Rattle.wf_assigned.specs.Edges.{Point, Edge, NoLoop, InTurn}
use Rattle.wf_assigned.specs.Standing.{chain, Reach, Bottom, Root, flow_root, task_root, first_local, text_in, site, HasAll, outer_vars, Standing, StandsMoved, StandsLocal, Waiting}
use Rattle.wf_assigned.specs.Walks.{Sure, Unreached}
use Rattle.wf_model.specs.Config.{Layer, Left, BranchesLeft, ValuesLeft, Item, Do, Join, Awake}
use Rattle.wf_model.specs.Layers.{view}
use Rattle.wf_model.specs.Local.{Outer, Local, Scene, goes}
use Rattle.wf_model.specs.Move.{move, issue, due, resumed}
use Rattle.wf_model.specs.Taken.{outers}
use Rattle.wf_value.specs.Data.{Data, Pairs, no_pairs}
use Rattle.wf_value.specs.Pairs.{Text}

-- a name that is sure where a walk has come is seen there, so reading it is no KeyError; and where a walk has come some walk does
abbrev pub SureIsSeen : Type 0
SureIsSeen =
    (E : List Edge) (entry p : Point) (d : ℕ) (s : Scene) (l : Local) → Reach E entry p d (chain l.layers (outer_vars l.outer)) →
    ((x : Text) → Sure E entry p x → is_some ((view s l).look x) ≡ true) × (Unreached E entry p → ⊥)

-- whatever a task that stands where a walk has come does next, it stands so again
abbrev pub MovesStand : Type 0
MovesStand =
    (r : Root) → Bottom r → (s : Scene) (l : Local) → l.wait ≡ Awake → Standing r l.control l.layers (outer_vars l.outer) → StandsMoved r (move s l) × StandsMoved r (issue s l)

abbrev pub WaitsStand : Type 0
WaitsStand =
    (r : Root) → Bottom r → (s : Scene) (l : Local) →
    (StandsLocal r l → StandsMoved r (due s l))
    × ((x : Option Text) (v : Result Data Data) → Waiting r x l.control l.layers (outer_vars l.outer) → StandsMoved r (resumed s x v l))

-- a workflow's first steps, in a layer with its parameters
abbrev pub FlowBegins : Type 0
FlowBegins = (f : Flow) (n : ℕ) (vars : Pairs) → HasAll (param_names f.params) vars → StandsMoved (flow_root f n) (goes (Do f.steps f.steps ∷ []) (first_local vars []))

-- a branch begins: its task stands where a walk has come, if what it sees outside is what its parent sees, and so does the parent still
abbrev pub BranchBegins : Type 0
BranchBegins =
    (s : Scene) (r : Root) → Bottom r → (names : List Text) (limit : Option ℕ) (w : Work) (x : Text) (ss : Steps) (bs : Branches) (n : ℕ) (running : List ℕ) (es : List (ℕ × Data)) (k : List Item) (l : Local) (os : List Outer) → l.wait ≡ Awake →
    (h : Standing r (Join (parallel names limit w) (BranchesLeft (branch x ss bs)) n running es ∷ k) l.layers (outer_vars l.outer)) → outer_vars os ≡ chain l.layers (outer_vars l.outer) →
    StandsMoved (task_root NoLoop (text_in r k h.pins.1) (site r k h.pins.1)) (goes (Do ss ss ∷ []) (first_local no_pairs os))
    × ((m : ℕ) (ms : List ℕ) (fs : List (ℕ × Data)) → Standing r (Join (parallel names limit w) (BranchesLeft bs) m ms fs ∷ k) l.layers (outer_vars l.outer))

-- and an iteration of a parallel loop
abbrev pub TurnBegins : Type 0
TurnBegins =
    (s : Scene) (r : Root) → Bottom r → (names : List Text) (limit : Option ℕ) (x : Text) (y : Option Text) (o : Over) (ss : Steps) (left rest : Left) (n : ℕ) (running : List ℕ) (es : List (ℕ × Data)) (vars : Pairs) (k : List Item) (l : Local) (os : List Outer) → l.wait ≡ Awake →
    (h : Standing r (Join (parallel names limit (OfLoop (loop x y o ss))) (ValuesLeft left) n running es ∷ k) l.layers (outer_vars l.outer)) → outer_vars os ≡ chain l.layers (outer_vars l.outer) → HasAll (loop_binds x y) vars →
    StandsMoved (task_root InTurn (text_in r k h.pins.1) (site r k h.pins.1)) (goes (Do ss ss ∷ []) (first_local vars os))
    × ((m : ℕ) (ms : List ℕ) (fs : List (ℕ × Data)) → Standing r (Join (parallel names limit (OfLoop (loop x y o ss))) (ValuesLeft rest) m ms fs ∷ k) l.layers (outer_vars l.outer))

-- what tasks see of their parent's layers is what the parent sees
abbrev pub OutersAreSeen : Type 0
OutersAreSeen = (b n : ℕ) (ls : List Layer) (shared : List (List Text)) (rest : List Outer) → outer_vars (outers b n ls shared rest) ≡ chain ls (outer_vars rest)
