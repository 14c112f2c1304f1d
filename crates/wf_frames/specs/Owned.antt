-- A task's layers, read from a store of layers by number.
--     Around          what stands around a task
--     held_of         the layers, by what the store holds
--     Linked          how they stand in each other, and that nothing else stands inside the task's own
--     local_of        the task by itself
use Rattle.std.specs.Prelude.{◌≡◌, ℕ, ◌+◌, ◌||◌, Bool, true, false, List, [], ◌∷◌, if◌then◌else◌, nat_eq, Some, None, Option}
use Rattle.wf_ast.specs.Tree.{Flow}
use Rattle.wf_frames.specs.Frames.{control, inner, owned}
use Rattle.wf_frames.specs.Held.{Held, standing}
use Rattle.wf_frames.specs.declared.frames.Frames.{Frames}
use Rattle.wf_model.specs.Config.{Item}
use Rattle.wf_model.specs.Local.{Local, layers_total, outers_total}
use Rattle.wf_scope.specs.Layers.{Layer, find, total_of, vars_at}
use Rattle.wf_scope.specs.Store.{layers_of}
use Rattle.wf_frames.specs.Tasks.{AreApart, Far, Own, far_layers, numbers, own_layers}
use Rattle.wf_scope.specs.declared.scopes.Scopes.{Scopes}
use Rattle.wf_model.specs.Spots.{Spot}
use Rattle.wf_value.specs.Maps.{IsInOrder}

-- ## Layers by number
abbrev pub held_of : List Far → List Own → List Layer → Held
held_of ks os ls = record { own = own_layers os ls; outside = far_layers ks ls }

-- ## How they stand
-- the number of the layer outside some own ones, and that of the first key
abbrev pub next_own : Option ℕ → List Own → Option ℕ
next_own last [] = last
next_own last (o ∷ os) = Some o.number

abbrev pub first_key : List Far → Option ℕ
first_key [] = None
first_key (k ∷ ks) = Some k.number

-- a layer that a call opened stands inside none
abbrev pub outer_for : Bool → Option ℕ → Option ℕ
outer_for true outer = None
outer_for false outer = outer

-- the layer of this number is live, and stands directly inside that one
abbrev pub IsInside : ℕ → Option ℕ → List Layer → Type 0
IsInside n outer ls = (l : Layer) × (find n ls ≡ Some l) × (l.outer ≡ outer)

abbrev pub OwnStand : Option ℕ → List Own → List Layer → Type 0
OwnStand last [] ls = Unit {0}
OwnStand last (o ∷ os) ls = IsInside o.number (outer_for o.by_call (next_own last os)) ls × OwnStand last os ls

-- behind one that a call opened there is none
abbrev pub KeysStand : List Far → List Layer → Type 0
KeysStand [] ls = Unit {0}
KeysStand (k ∷ ks) ls = IsInside k.number (first_key ks) ls × KeysStand ks ls

-- ## Nothing else inside
-- directly inside this layer stands at most the one of that number
abbrev pub OnlyInside : Option ℕ → ℕ → List Layer → Type 0
OnlyInside i n [] = Unit {0}
OnlyInside i n (l ∷ ls) = (l.outer ≡ Some n → i ≡ Some l.number) × OnlyInside i n ls

-- inside an own layer stands at most the next own one
abbrev pub AreAlone : Option ℕ → List Own → List Layer → Type 0
AreAlone i [] ls = Unit {0}
AreAlone i (o ∷ os) ls = OnlyInside i o.number ls × AreAlone (Some o.number) os ls

-- a task's layers: its own, innermost first, and those that it sees outside
pub record Linked (ks : List Far) (os : List Own) (ls : List Layer) : Type 0 where
  pub stand : OwnStand (first_key ks) os ls
  pub keys : KeysStand ks ls
  pub apart : AreApart (numbers os ks)
  pub alone : AreAlone None os ls

-- ## Layers of others
-- the number is among these
abbrev pub has_number : ℕ → List ℕ → Bool
has_number n [] = false
has_number n (m ∷ ms) = nat_eq n m || has_number n ms

-- the layers of a store that have none of these numbers
abbrev pub besides : List ℕ → List Layer → List Layer
besides ns [] = []
besides ns (l ∷ ls) = if has_number l.number ns then besides ns ls else l ∷ besides ns ls

-- ## Of a task
-- what stands around a task: the workflows of its program and their parts, the layers that it sees outside, the limit on variables, the
-- layers that it doesn't see, which are those of other tasks, and what these come to
pub record Around : Type 0 where
  pub flows : List Flow
  pub spots : List Spot
  pub keys : List Far
  pub limit : ℕ
  pub rest : List Layer
  pub others : ℕ

abbrev pub own_of : Frames → List Own
own_of fs = owned fs.first (inner fs)

abbrev pub held_by : Around → Frames → Scopes → Held
held_by a fs x = held_of a.keys (own_of fs) (layers_of x)

-- its layers stand in the store, where the limit is this one, each layer has its variables in order, and those that it doesn't see are
-- these, and come to what is left
pub record IsLinked (a : Around) (os : List Own) (x : Scopes) : Type 0 where
  pub layers : Linked a.keys os (layers_of x)
  pub limit : x.limit ≡ a.limit
  pub order : (n : ℕ) → IsInOrder (vars_at n (layers_of x))
  pub unseen : besides (numbers os a.keys) (layers_of x) ≡ a.rest
  pub sum : layers_total (own_layers os (layers_of x)) + outers_total (far_layers a.keys (layers_of x)) + a.others ≡ total_of (layers_of x)

abbrev pub control_of : Around → Frames → List Item
control_of a fs = control a.spots (inner fs)

-- the task by itself, at this control or at that of its frames
abbrev pub beside : List Item → Around → Frames → Scopes → Local
beside c a fs x = standing c (held_by a fs x)

abbrev pub local_of : Around → Frames → Scopes → Local
local_of a fs x = beside (control_of a fs) a fs x
