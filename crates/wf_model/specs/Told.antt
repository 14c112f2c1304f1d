-- What a table says, without witnesses: of one table there is at most one proof, so a type can keep it.
--     Told         the same as `Resolves`
--     Told-prop    it has at most one proof
use Rattle.std.specs.Prelude.{◌≡◌, ℕ, suc, ◌==◌, Bool, true, false, List, [], ◌∷◌, length, map, slice_get, Some, None, Option, ◌⊎◌}
use Rattle.std.specs.List.{list_any}
use Rattle.std.proofs.Common.{sym, ap, ◌∙◌, inl, inr}
use Rattle.std.proofs.lemmas.Bool.{true≢false}
use Rattle.std.specs.Coded.{×_prop, Unit-prop, le_prop, Coded-set, coded_ℕ, coded_bool, coded_list}
use mathlib.Core.HLevel.{×₃_prop}
use Rattle.wf_ast.specs.Tree.{Steps, no_steps, more}
use Rattle.wf_model.specs.Unwind.{from_step}
use Rattle.wf_model.specs.NodeKinds as kind
use Rattle.wf_model.specs.NodeKinds.{Kind, Listed, View, node_view}
use Rattle.wf_model.specs.Sets.{Option-set, Part-set, Steps-set}
use Rattle.wf_model.specs.Spots.{Spot, from, owners_at, part_at, part_list}
use Rattle.wf_model.specs.Table.{AreAbove, AreBelow, AreRising, ArmsStandIn, Describes, Lacks, ListStands, PartsStand, StandIn, list_at}
use Rattle.wf_model.specs.declared.node.Jump.{Jump}
use Rattle.wf_model.specs.declared.node.Node.{Node}
use Rattle.wf_value.specs.Pairs.{Text}

-- ## Jumps
abbrev pub numbers : Option Listed → List ℕ
numbers None = []
numbers (Some b) = b.steps

-- the numbers of the steps of a node's list, or none where it owns no list
abbrev pub steps_at : List View → ℕ → List ℕ
steps_at views o = numbers (list_at views o)

abbrev pub is_more : Steps → Bool
is_more no_steps = false
is_more (more s rest) = true

-- the list of this owner has the step, and the jump is to it
pub record TellsInto (ns : List Spot) (views : List View) (x : Text) (j : Jump) (o : ℕ) (depth : ℕ) : Type 0 where
  pub first : is_more (from_step x (part_list (part_at ns o))) ≡ true
  pub keeps : j.keep ≡ depth
  pub has : list_any (λ n. n == j.to) (steps_at views o) ≡ true
  pub only : (i : ℕ) → slice_get (steps_at views o) i ≡ Some j.to → from i (part_list (part_at ns o)) ≡ from_step x (part_list (part_at ns o))

-- the jump is to the first of these lists, innermost first, that has the step; without a jump none has
abbrev pub JumpTells : List Spot → List View → Text → Option Jump → List ℕ → Type 0
JumpTells ns views x None [] = Unit {0}
JumpTells ns views x (Some j) [] = ⊥
JumpTells ns views x None (o ∷ os) = Lacks ns x o × JumpTells ns views x None os
JumpTells ns views x (Some j) (o ∷ os) = TellsInto ns views x j o (suc (length os)) ⊎ (Lacks ns x o × JumpTells ns views x (Some j) os)

abbrev pub NextTells : List Spot → List View → Option Text → Option Jump → List ℕ → Type 0
NextTells ns views None j os = j ≡ None
NextTells ns views (Some x) j os = JumpTells ns views x j os

-- so does each node's
abbrev pub EachTells : List Spot → List Node → Type 0
EachTells ns nodes = (i : ℕ) (x : Node) → slice_get nodes i ≡ Some x → NextTells ns (map node_view nodes) x.next x.jump (owners_at ns i)

-- ## The table
pub record Told (ns : List Spot) (nodes : List Node) : Type 0 where
  pub as_long : length nodes ≡ length ns
  pub each : (i : ℕ) (x : Node) → slice_get nodes i ≡ Some x → Describes ns (length nodes) i (node_view x)
  pub jumps : EachTells ns nodes

-- ## At most one proof
ℕ-set : IsSet ℕ
ℕ-set = Coded-set coded_ℕ

Bool-set : IsSet Bool
Bool-set = Coded-set coded_bool

numbers-set : IsSet (List ℕ)
numbers-set = Coded-set (coded_list coded_ℕ)

AreBelow-prop : (len : ℕ) (xs : List ℕ) → IsProp (AreBelow len xs)
AreBelow-prop len [] = Unit-prop
AreBelow-prop len (n ∷ others) = ×_prop le_prop (AreBelow-prop len others)

AreAbove-prop : (low : ℕ) (xs : List ℕ) → IsProp (AreAbove low xs)
AreAbove-prop low [] = Unit-prop
AreAbove-prop low (n ∷ others) = ×_prop le_prop (AreAbove-prop low others)

AreRising-prop : (xs : List ℕ) → IsProp (AreRising xs)
AreRising-prop [] = Unit-prop
AreRising-prop (n ∷ others) = ×_prop (AreAbove-prop n others) (AreRising-prop others)

StandIn-prop : (ns : List Spot) (os xs : List ℕ) → IsProp (StandIn ns os xs)
StandIn-prop ns os [] = Unit-prop
StandIn-prop ns os (n ∷ others) = ×_prop (numbers-set (owners_at ns n) os) (StandIn-prop ns os others)

ArmsStandIn-prop : (ns : List Spot) (len : ℕ) (os xs : List ℕ) → IsProp (ArmsStandIn ns len os xs)
ArmsStandIn-prop ns len os [] = Unit-prop
ArmsStandIn-prop ns len os (n ∷ others) = ×₃_prop (numbers-set (owners_at ns (suc n)) os) le_prop (ArmsStandIn-prop ns len os others)

ListStands-prop : (ns : List Spot) (len i : ℕ) (out : List ℕ) (b : Option Listed) → IsProp (ListStands ns len i out b)
ListStands-prop ns len i out None = Unit-prop
ListStands-prop ns len i out (Some b) = hlevel (AreBelow-prop, AreRising-prop, StandIn-prop, ℕ-set)

PartsStand-prop : (ns : List Spot) (len : ℕ) (os : List ℕ) (k : Kind) → IsProp (PartsStand ns len os k)
PartsStand-prop ns len os (kind.Assign xs) = AreBelow-prop len xs
PartsStand-prop ns len os (kind.Switch xs) = ArmsStandIn-prop ns len os xs
PartsStand-prop ns len os (kind.Parallel shared limit (kind.Branches xs)) = AreBelow-prop len xs
PartsStand-prop ns len os (kind.Parallel shared limit (kind.Iterations l)) = Unit-prop
PartsStand-prop ns len os (kind.Try n policy x) = ×_prop le_prop (numbers-set (owners_at ns n) os)
PartsStand-prop ns len os (kind.Flow params b) = Unit-prop
PartsStand-prop ns len os kind.Nothing = Unit-prop
PartsStand-prop ns len os (kind.Call f) = Unit-prop
PartsStand-prop ns len os (kind.For l) = Unit-prop
PartsStand-prop ns len os (kind.Block b) = Unit-prop
PartsStand-prop ns len os (kind.Raise t) = Unit-prop
PartsStand-prop ns len os (kind.Return t) = Unit-prop
PartsStand-prop ns len os (kind.Arm t) = Unit-prop
PartsStand-prop ns len os (kind.Entry e) = Unit-prop
PartsStand-prop ns len os (kind.Branch b) = Unit-prop

Text-set : IsSet Text
Text-set = numbers-set

Describes-prop : (ns : List Spot) (len i : ℕ) (x : View) → IsProp (Describes ns len i x)
Describes-prop ns len i x = hlevel (Part-set, Option-set, Text-set, ℕ-set, ListStands-prop, PartsStand-prop)

TellsInto-prop : (ns : List Spot) (views : List View) (x : Text) (j : Jump) (o depth : ℕ) → IsProp (TellsInto ns views x j o depth)
TellsInto-prop ns views x j o depth = hlevel (Bool-set, ℕ-set, Steps-set)

-- one of two that exclude each other
either : {A B : Type 0} → IsProp A → IsProp B → (A → B → ⊥) → IsProp (A ⊎ B)
either a b never (inl x) (inl y) = ap inl (a x y)
either a b never (inr x) (inr y) = ap inr (b x y)
either a b never (inl x) (inr y) = absurd (never x y)
either a b never (inr x) (inl y) = absurd (never y x)

JumpTells-prop : (ns : List Spot) (views : List View) (x : Text) (j : Option Jump) (os : List ℕ) → IsProp (JumpTells ns views x j os)
JumpTells-prop ns views x None [] = Unit-prop
JumpTells-prop ns views x (Some j) [] = λ a b. absurd a
JumpTells-prop ns views x None (o ∷ os) = ×_prop (Steps-set (from_step x (part_list (part_at ns o))) no_steps) (JumpTells-prop ns views x None os)
JumpTells-prop ns views x (Some j) (o ∷ os) =
    either (TellsInto-prop ns views x j o (suc (length os))) (×_prop (Steps-set (from_step x (part_list (part_at ns o))) no_steps) (JumpTells-prop ns views x (Some j) os))
    (λ into lacks. true≢false (sym into.first ∙ ap is_more lacks.0))

Jump-set : IsSet Jump
Jump-set = hlevel (ℕ-set)

NextTells-prop : (ns : List Spot) (views : List View) (x : Option Text) (j : Option Jump) (os : List ℕ) → IsProp (NextTells ns views x j os)
NextTells-prop ns views None j os = Option-set Jump-set j None
NextTells-prop ns views (Some x) j os = JumpTells-prop ns views x j os

pub Told-prop : (ns : List Spot) (nodes : List Node) → IsProp (Told ns nodes)
Told-prop ns nodes = hlevel (ℕ-set, Describes-prop, NextTells-prop)
