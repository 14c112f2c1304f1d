-- A task's layers by the definition of steps, and the layers of a store.
--     variables, seen           what is seen from a layer, and what a task sees
--     Own, Far                  a task's layers, and those outside it, by their numbers
--     LooksAsTasksDo            a name has the value that the task sees
--     AssignsAsTasksDo          an assignment does what it does in the task
--     OneLayerHolds             a store in which a task has its layers
use Rattle.std.specs.Prelude.{◌≡◌, ℕ, Bool, false, List, [], ◌∷◌, map, if◌then◌else◌, nat_eq, None, Ok, Err, Result}
use Rattle.wf_model.specs.Config as model
use Rattle.wf_model.specs.Config.{limits}
use Rattle.wf_model.specs.Layers.{Assigned, Done, Refused, Undeclared, assign, held, value_of}
use Rattle.wf_model.specs.Local.{Local, Outer, Scene, total}
use Rattle.wf_value.specs.Data.{Data, Pairs, pairs_of}
use Rattle.wf_value.specs.Maps.{IsInOrder}
use Rattle.wf_value.specs.Pairs.{Text}
use Rattle.wf_value.specs.declared.Raise.TheVariants as raise
use Rattle.wf_scope.specs.Changes.{assigned}
use Rattle.wf_scope.specs.Faults.{raised}
use Rattle.wf_scope.specs.Layers.{IsLive, Layer, chain, look_in, total_of, vars_at}
use Rattle.wf_scope.specs.declared.fault.AssignFault.{AssignFault}

-- ## Looking
-- the variables of each layer that a task sees, innermost first: its own up to the innermost that a call opened, and past them, where
-- there is none, those outside
abbrev pub seen : List model.Layer → List Outer → List Pairs
seen [] os = map (λ o. o.layer.vars) os
seen (l ∷ ls) os = l.vars ∷ (if l.by_call then [] else seen ls os)

-- those of each of some layers of a store
abbrev pub variables : List Layer → List Pairs
variables ls = map (λ l. pairs_of l.vars) ls

-- where these are the same, a name has the same value
abbrev pub LooksAsTasksDo : Type 0
LooksAsTasksDo = (x : Text) (ls : List Layer) (t : Local) → variables ls ≡ seen t.layers t.outer → look_in x ls ≡ value_of (held x t)

-- ## A task's layers in a store
-- an own layer: its number, and whether a call opened it
pub record Own : Type 0 where
  pub number : ℕ
  pub by_call : Bool

-- a layer outside: its number, and what steps know of it besides
pub record Far : Type 0 where
  pub number : ℕ
  pub by_call : Bool
  pub task : ℕ
  pub above : ℕ
  pub shared : List (List Text)

-- a layer of a store, as steps have it
abbrev pub layer_of : ℕ → Bool → List Layer → model.Layer
layer_of n by_call ls = record { vars = pairs_of (vars_at n ls); by_call = by_call }

abbrev pub own_layers : List Own → List Layer → List model.Layer
own_layers os ls = map (λ o. layer_of o.number o.by_call ls) os

abbrev pub far_layer : Far → List Layer → Outer
far_layer f ls = record { task = f.task; above = f.above; layer = layer_of f.number f.by_call ls; shared = f.shared }

abbrev pub far_layers : List Far → List Layer → List Outer
far_layers fs ls = map (λ f. far_layer f ls) fs

-- a task with these layers
abbrev pub with_layers : List Own → List Far → Local → List Layer → Local
with_layers os fs t ls = record t { layers = own_layers os ls; outer = far_layers fs ls }

-- the numbers of the layers that it sees, innermost first
abbrev pub numbers_seen : List Own → List Far → List ℕ
numbers_seen [] fs = map (λ f. f.number) fs
numbers_seen (o ∷ os) fs = o.number ∷ (if o.by_call then [] else numbers_seen os fs)

-- the numbers of all its layers
abbrev pub numbers : List Own → List Far → List ℕ
numbers [] fs = map (λ f. f.number) fs
numbers (o ∷ os) fs = o.number ∷ numbers os fs

-- all these numbers are others than this one
abbrev pub AreOthers : ℕ → List ℕ → Type 0
AreOthers n [] = Unit {0}
AreOthers n (m ∷ ms) = (nat_eq n m ≡ false) × AreOthers n ms

-- no number stands twice
abbrev pub AreApart : List ℕ → Type 0
AreApart [] = Unit {0}
AreApart (n ∷ ns) = AreOthers n ns × AreApart ns

-- ## Assigning
-- the answer in a store is that in a task; a write that no accepted program makes is not told
abbrev pub SameAnswer : (List Layer → Local) → Result (List Layer) AssignFault → Assigned → Type 0
SameAnswer task r Undeclared = Unit {0}
SameAnswer task (Ok ls) (Done t) = t ≡ task ls
SameAnswer task (Ok ls) (Refused tag) = ⊥
SameAnswer task (Err f) (Done t) = ⊥
SameAnswer task (Err f) (Refused tag) = raised f ≡ raise.Error tag

-- a store in which a task has its layers: from its innermost own one are seen those that the task sees
pub record Holds (s : Scene) (t : Local) (o : Own) (os : List Own) (fs : List Far) (ls : List Layer) : Type 0 where
  pub live : IsLive o.number ls
  pub sight : map (λ l. l.number) (chain o.number ls) ≡ numbers_seen (o ∷ os) fs
  pub apart : AreApart (numbers (o ∷ os) fs)
  pub order : (n : ℕ) → IsInOrder (vars_at n ls)
  pub sum : total s (with_layers (o ∷ os) fs t ls) ≡ total_of ls

-- there an assignment from its innermost own layer does what it does in the task
abbrev pub AssignsAsTasksDo : Type 0
AssignsAsTasksDo = (s : Scene) (t : Local) (o : Own) (os : List Own) (fs : List Far) (ls : List Layer) → Holds s t o os fs ls
    → (x : Text) (path : List Data) (v : Data) → SameAnswer (with_layers (o ∷ os) fs t) (assigned (limits s.facts.rules).variables o.number x path v ls) (assign s x path v (with_layers (o ∷ os) fs t ls))

-- a store of one layer without variables, where a task has its one layer: such a store holds
abbrev pub one_layer : List Layer
one_layer = record { number = 0; outer = None; depth = 0; vars = [] } ∷ []

abbrev pub OneLayerHolds : Type 0
OneLayerHolds = (s : Scene) (t : Local) → s.others ≡ 0 → Holds s t (record { number = 0; by_call = false }) [] [] one_layer
