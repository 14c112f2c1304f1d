-- Where a task stands in its workflow's text: each item of its control at its number, and a walk to where its innermost item stands,
-- whose lasting writes are held by the layers that the task sees.
--     Reach        a walk to a point, with its lasting writes held
--     site         what stands around what is inside these items
--     station      the point at which these items stand, when nothing is inside them any more
--     Pinned       the items stand at their numbers
use Rattle.std.specs.Prelude.{◌≡◌, ◌⊎◌, ℕ, suc, ◌≤◌, T, Bool, true, false, not, ◌&&◌, ◌||◌, List, [], ◌∷◌, length, if◌then◌else◌, nat_lt, Some, None, Option}
use Rattle.wf_ast.specs.Nodes.{listed}
use Rattle.wf_ast.specs.Tree.{Steps, no_steps, more, Body, TryBody, try, Flow}
use Rattle.wf_assigned.specs.Edges.{Point, At, HeadOf, FailOf, EndOf, Edge, Looping, NoLoop, InLoop, continues, breaks, Exit, Site, to_exit, writing, first_in, in_block, in_try, next_entry, entries_edges, evaluated, ending, steps_edges, body_edges, loop_edges, try_edges, branches_edges, flow_edges}
use Rattle.wf_assigned.specs.Walks.{IsAmong, IsWalk, Write, lasting}
use Rattle.wf_model.specs.Config.{Layer, WorkLeft, BranchesLeft, ValuesLeft, Item, Do, Entries, Then, Loop, Try, Judge, Mark, Back, Join, Wait, Awake, Sleep, Delay, Calling, Await}
use Rattle.wf_model.specs.Local.{Outer, Local, Moved, Goes, Ends, Does, Breaks, Not}
use Rattle.wf_never_wrong.specs.Places.{has, IsJudge}
use Rattle.wf_value.specs.Data.{Pairs}
use Rattle.wf_value.specs.Pairs.{Text}

-- ## What a task sees, innermost first
abbrev pub chain : List Layer → List Pairs → List Pairs
chain [] outer = outer
chain (l ∷ ls) outer = l.vars ∷ (if l.by_call then [] else chain ls outer)

-- a task has at least its first layer
abbrev pub HasOne : List Layer → Type 0
HasOne [] = ⊥
HasOne (l ∷ ls) = Unit {0}

-- one of the outermost d layers has the name
abbrev pub held : ℕ → Text → List Pairs → Bool
held d x [] = false
held d x (l ∷ ls) = (nat_lt (length ls) d && has x l) || held d x ls

-- the names of these writes are there, each in its layer or one further out
abbrev pub Covers : List Write → List Pairs → Type 0
Covers [] ch = Unit {0}
Covers (w ∷ ws) ch = (held w.depth w.name ch ≡ true) × Covers ws ch

-- how many layers stand around the end of a walk
abbrev pub end_depth : List Edge → ℕ
end_depth [] = 0
end_depth (e ∷ w) = e.depth

module _ (E : List Edge) (entry : Point) where
  -- a walk to the point, inside so many layers, with its lasting writes held
  pub record Reach (p : Point) (d : ℕ) (ch : List Pairs) : Type 0 where
    pub walk : List Edge
    pub is : IsWalk E entry walk p
    pub depth : end_depth walk ≡ d
    pub covers : Covers (lasting walk) ch

-- these are edges of the workflow
abbrev pub Sub : List Edge → List Edge → Type 0
Sub xs E = (e : Edge) → IsAmong e xs → IsAmong e E

-- a walk inside d layers that is at the point is at this exit, or an edge leads there
abbrev pub Arrives : List Edge → Point → ℕ → Option Exit → Type 0
Arrives E p d None = Unit {0}
Arrives E p d (Some e) = ((p ≡ e.point) × (d ≡ e.depth)) ⊎ (IsAmong (to_exit p e) E × (e.depth ≤ d))

-- where an end leads, what stands outside goes on
abbrev pub Leads : List Edge → Option Exit → Option Exit → Type 0
Leads E None o = o ≡ None
Leads E (Some e) o = Arrives E e.point e.depth o

-- it stands in at most so many layers
abbrev pub Shallow : Option Exit → ℕ → Type 0
Shallow None d = Unit {0}
Shallow (Some e) d = e.depth ≤ d

-- no edge keeps a layer that isn't around its end
abbrev pub Proper : List Edge → Type 0
Proper E = (e : Edge) → IsAmong e E → e.keeps ≤ e.depth

-- a walk to an exit
abbrev pub StandsAt : List Edge → Point → Option Exit → List Pairs → Type 0
StandsAt E entry None ch = Unit {0}
StandsAt E entry (Some e) ch = Reach E entry e.point e.depth ch

-- ## Sites
-- an arm's body and a call under a `try` stand in no list
abbrev pub in_list : Steps → ℕ → Site → Site
in_list no_steps n a = a
in_list (more s ss) n a = in_block (more s ss) n a

abbrev pub looped : ℕ → Site → Site
looped n a = record { depth = a.depth; blocks = []; loop = InLoop n a.depth; fails = a.fails }

abbrev pub deeper : Site → Site
deeper a = record a { depth = suc a.depth }

abbrev pub call_site : Site
call_site = record { depth = 1; blocks = []; loop = NoLoop; fails = None }

abbrev pub exit : Point → Site → Exit
exit p a = record { point = p; depth = a.depth }

-- ## Numbers of items
-- a workflow and its number
pub record Workflow : Type 0 where
  pub flow : Flow
  pub entry : ℕ

-- the first step of the list, the first of those that are left, and where the list's end leads
pub record ListPin : Type 0 where
  pub first : ℕ
  pub here : ℕ
  pub out : Option Exit

-- a call, and the workflow that is called
pub record CallPin : Type 0 where
  pub number : ℕ
  pub inner : Workflow

-- the entry that is next, and its assign
pub record EntryPin : Type 0 where
  pub here : ℕ
  pub number : ℕ

-- a parallel step, and the first branch that hasn't begun
pub record JoinPin : Type 0 where
  pub number : ℕ
  pub left : ℕ

abbrev pub Pin : Item → Type 0
Pin (Do block left) = ListPin
Pin (Entries es) = EntryPin
Pin (Then x) = ℕ
Pin (Loop b left i) = ℕ
Pin (Try t n d) = ℕ
Pin (Judge t n d e) = ℕ
Pin Mark = Unit {0}
Pin (Back r) = CallPin
Pin (Join b left n running es) = JoinPin

abbrev pub Pins : List Item → Type 0
Pins [] = Unit {0}
Pins (i ∷ k) = Pin i × Pins k

-- what stands around a task's control: the workflow's text, and the site of its first steps
pub record Root : Type 0 where
  pub text : Workflow
  pub site : Site

-- the branches that are left stand at their numbers
abbrev pub LeftPinned : WorkLeft → ℕ → ℕ → Site → List Edge → Type 0
LeftPinned (BranchesLeft bs) m n a E = Sub (branches_edges bs m n a) E
LeftPinned (ValuesLeft v) m n a E = Unit {0}

-- around the first steps of a branch, or of an iteration of a parallel loop
abbrev pub task_site : Looping → Site → Site
task_site l a = record { depth = suc a.depth; blocks = []; loop = l; fails = None }

-- only an error that may be tried again is judged
abbrev pub HasPolicy : TryBody → Type 0
HasPolicy (try body None x) = ⊥
HasPolicy (try body (Some p) x) = Unit {0}

-- around a task's first steps no block, loop or try stands
pub record Bottom (r : Root) : Type 0 where
  pub fails : r.site.fails ≡ None
  pub blocks : r.site.blocks ≡ []
  pub continues : continues r.site.loop ≡ None
  pub breaks : breaks r.site.loop ≡ None

-- around the first steps of a workflow
abbrev pub flow_root : Flow → ℕ → Root
flow_root f n = record { text = record { flow = f; entry = n }; site = call_site }

-- these names are variables of the layer
abbrev pub HasAll : List Text → Pairs → Type 0
HasAll [] ps = Unit {0}
HasAll (x ∷ xs) ps = (has x ps ≡ true) × HasAll xs ps

abbrev pub task_root : Looping → Workflow → Site → Root
task_root z text a = record { text = text; site = task_site z a }

-- a task in its first layer, which no call opened, with these layers outside
abbrev pub first_local : Pairs → List Outer → Local
first_local vars os = record { control = []; layers = record { vars = vars; by_call = false } ∷ []; outer = os; wait = Awake }

module _ (r : Root) where
  abbrev pub text_in : (k : List Item) → Pins k → Workflow
  text_in [] ps = r.text
  text_in (Do block left ∷ k) ps = text_in k ps.1
  text_in (Entries es ∷ k) ps = text_in k ps.1
  text_in (Then x ∷ k) ps = text_in k ps.1
  text_in (Loop b left i ∷ k) ps = text_in k ps.1
  text_in (Try t n d ∷ k) ps = text_in k ps.1
  text_in (Judge t n d e ∷ k) ps = text_in k ps.1
  text_in (Mark ∷ k) ps = text_in k ps.1
  text_in (Back x ∷ k) ps = ps.0.inner
  text_in (Join b left n running es ∷ k) ps = text_in k ps.1

  abbrev pub edges_in : (k : List Item) → Pins k → List Edge
  edges_in k ps = flow_edges (text_in k ps).flow (text_in k ps).entry

  abbrev pub entry_in : (k : List Item) → Pins k → Point
  entry_in k ps = At (text_in k ps).entry

  abbrev pub site : (k : List Item) → Pins k → Site
  site [] ps = r.site
  site (Do block left ∷ k) ps = in_list block ps.0.first (site k ps.1)
  site (Entries es ∷ k) ps = site k ps.1
  site (Then x ∷ k) ps = site k ps.1
  site (Loop b left i ∷ k) ps = looped ps.0 (site k ps.1)
  site (Try t n d ∷ k) ps = in_try ps.0 (site k ps.1)
  site (Judge t n d e ∷ k) ps = site k ps.1
  site (Mark ∷ k) ps = deeper (site k ps.1)
  site (Back x ∷ k) ps = call_site
  site (Join b left n running es ∷ k) ps = site k ps.1

  -- a call, a branch and a workflow end where no edge leads on
  abbrev pub station : (k : List Item) → Pins k → Option Exit
  station [] ps = None
  station (Do block left ∷ k) ps = first_in (in_list block ps.0.first (site k ps.1)) left ps.0.here ps.0.out
  station (Entries es ∷ k) ps = Some (exit (next_entry es ps.0.here ps.0.number) (site k ps.1))
  station (Then x ∷ k) ps = Some (exit (EndOf ps.0) (site k ps.1))
  station (Loop b left i ∷ k) ps = Some (exit (HeadOf ps.0) (site k ps.1))
  station (Try t n d ∷ k) ps = Some (exit (EndOf ps.0) (site k ps.1))
  station (Judge t n d e ∷ k) ps = None
  station (Mark ∷ k) ps = station k ps.1
  station (Back x ∷ k) ps = None
  station (Join b left n running es ∷ k) ps = Some (exit (At ps.0.number) (site k ps.1))

  -- the step of number n has ended, and k goes on
  abbrev pub Ended : ℕ → (k : List Item) → Pins k → Type 0
  Ended n k ps = Leads (edges_in k ps) (Some (exit (EndOf n) (site k ps))) (station k ps)

  -- each item's text is the workflow's, at its number
  abbrev pub Pinned : (k : List Item) → Pins k → Type 0
  Pinned [] ps = Unit {0}
  Pinned (Do block left ∷ k) ps =
      Sub (steps_edges block ps.0.first (in_list block ps.0.first (site k ps.1)) ps.0.out) (edges_in k ps.1)
      × Sub (steps_edges left ps.0.here (in_list block ps.0.first (site k ps.1)) ps.0.out) (edges_in k ps.1)
      × Leads (edges_in k ps.1) ps.0.out (station k ps.1)
      × Shallow ps.0.out (site k ps.1).depth
      × Pinned k ps.1
  Pinned (Entries es ∷ k) ps = Sub (entries_edges es ps.0.here ps.0.number (site k ps.1)) (edges_in k ps.1) × Ended ps.0.number k ps.1 × Pinned k ps.1
  Pinned (Then x ∷ k) ps = Sub (ending (site k ps.1) ps.0 (Some x) None) (edges_in k ps.1) × Pinned k ps.1
  Pinned (Loop b left i ∷ k) ps = Sub (loop_edges b ps.0 (site k ps.1)) (edges_in k ps.1) × Ended ps.0 k ps.1 × Pinned k ps.1
  Pinned (Try t n d ∷ k) ps = Sub (try_edges t ps.0 (site k ps.1)) (edges_in k ps.1) × Ended ps.0 k ps.1 × Pinned k ps.1
  Pinned (Judge t n d e ∷ k) ps = Sub (try_edges t ps.0 (site k ps.1)) (edges_in k ps.1) × Ended ps.0 k ps.1 × Pinned k ps.1 × HasPolicy t
  Pinned (Mark ∷ k) ps = Pinned k ps.1
  Pinned (Back x ∷ k) ps =
      ((Sub (evaluated (site k ps.1) ps.0.number (writing (site k ps.1) (At ps.0.number) (EndOf ps.0.number) (listed x) ∷ [])) (edges_in k ps.1) × Ended ps.0.number k ps.1) ⊎ (IsJudge k × (x ≡ None)))
      × Pinned k ps.1
  Pinned (Join b left n running es ∷ k) ps =
      Sub (body_edges (Body.Parallel b) ps.0.number (site k ps.1)) (edges_in k ps.1) × Ended ps.0.number k ps.1 × Pinned k ps.1 × LeftPinned left ps.0.left ps.0.number (site k ps.1) (edges_in k ps.1)

  -- each Mark and Back has its layer; where a call stands, and where an error is judged, a walk has come
  abbrev pub Sized : (k : List Item) → Pins k → List Layer → List Pairs → Type 0
  Sized [] ps ls outer = (length (chain ls outer) ≡ r.site.depth) × HasOne ls
  Sized (Do block left ∷ k) ps ls outer = Sized k ps.1 ls outer
  Sized (Entries es ∷ k) ps ls outer = Sized k ps.1 ls outer
  Sized (Then x ∷ k) ps ls outer = Sized k ps.1 ls outer
  Sized (Loop b left i ∷ k) ps ls outer = Sized k ps.1 ls outer
  Sized (Try t n d ∷ k) ps ls outer = Sized k ps.1 ls outer
  Sized (Judge t n d e ∷ k) ps ls outer = Reach (edges_in k ps.1) (entry_in k ps.1) (FailOf ps.0) (site k ps.1).depth (chain ls outer) × Sized k ps.1 ls outer
  Sized (Mark ∷ k) ps [] outer = ⊥
  Sized (Mark ∷ k) ps (l ∷ ls) outer = T (not l.by_call) × Sized k ps.1 ls outer
  Sized (Back x ∷ k) ps [] outer = ⊥
  Sized (Back x ∷ k) ps (l ∷ ls) outer =
      T l.by_call × (Reach (edges_in k ps.1) (entry_in k ps.1) (At ps.0.number) (site k ps.1).depth (chain ls outer) ⊎ IsJudge k) × Sized k ps.1 ls outer
  Sized (Join b left n running es ∷ k) ps ls outer = Sized k ps.1 ls outer

  -- a task that isn't waiting stands so
  pub record Standing (k : List Item) (ls : List Layer) (outer : List Pairs) : Type 0 where
    pub pins : Pins k
    pub pinned : Pinned k pins
    pub sized : Sized k pins ls outer
    pub walk : StandsAt (edges_in k pins) (entry_in k pins) (station k pins) (chain ls outer)

-- the layers outside, as a task sees them
abbrev pub outer_vars : List Outer → List Pairs
outer_vars [] = []
outer_vars (o ∷ os) = o.layer.vars ∷ outer_vars os

module _ (r : Root) where
  -- a task that waits for its call's result, whose name this is
  pub record Waiting (x : Option Text) (k : List Item) (ls : List Layer) (outer : List Pairs) : Type 0 where
    pub pins : Pins k
    pub pinned : Pinned r k pins
    pub sized : Sized r k pins ls outer
    pub number : ℕ
    pub call : Sub (evaluated (site r k pins) number (writing (site r k pins) (At number) (EndOf number) (listed x) ∷ [])) (edges_in r k pins)
    pub ended : Ended r number k pins
    pub walk : Reach (edges_in r k pins) (entry_in r k pins) (At number) (site r k pins).depth (chain ls outer)

  -- a task that waits before its try's body is tried again
  pub record Delayed (t : TryBody) (n : ℕ) (d : Option ℕ) (k : List Item) (ls : List Layer) (outer : List Pairs) : Type 0 where
    pub pins : Pins (Try t n d ∷ k)
    pub pinned : Pinned r (Try t n d ∷ k) pins
    pub sized : Sized r k pins.1 ls outer
    pub walk : Reach (edges_in r k pins.1) (entry_in r k pins.1) (At (suc pins.0)) (site r k pins.1).depth (chain ls outer)

  abbrev pub DelayedAt : List Item → List Layer → List Pairs → Type 0
  DelayedAt (Try t n d ∷ k) ls outer = Delayed t n d k ls outer
  DelayedAt k ls outer = ⊥

  -- by the task's wait
  abbrev pub StandsBy : Wait → List Item → List Layer → List Pairs → Type 0
  StandsBy Awake k ls outer = Standing r k ls outer
  StandsBy (Delay due) k ls outer = DelayedAt k ls outer
  StandsBy (Sleep due x) k ls outer = Waiting x k ls outer
  StandsBy (Calling n x) k ls outer = Waiting x k ls outer
  StandsBy (Await n due x) k ls outer = Waiting x k ls outer

  abbrev pub StandsLocal : Local → Type 0
  StandsLocal l = StandsBy l.wait l.control l.layers (outer_vars l.outer)

  -- what a move leads to
  abbrev pub StandsMoved : Moved → Type 0
  StandsMoved (Goes l) = StandsLocal l
  StandsMoved (Ends e l) = Unit {0}
  StandsMoved (Does x m) = StandsMoved m
  StandsMoved (Breaks kind) = Unit {0}
  StandsMoved Not = Unit {0}
