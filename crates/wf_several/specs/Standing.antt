-- Where the tasks of a machine stand, as a fact with at most one proof.
--     AllStanding      how the layers of all stand in the store, with tests in place of what is there
--     IsStanding       the tasks, their frames and their layers
--     StandingIsOneFact ..   laws
use Rattle.std.specs.Prelude.{◌≡◌, ◌↔◌, ◌<◌, ℕ, Bool, true, false, not, ◌||◌, List, [], ◌∷◌, map, nat_eq, is_some, slice_get, slice_set, None, Some, Option}
use Rattle.std.specs.Coded.{Coded-set, codes, coded_bool, coded_option, coded_ℕ, le_prop, Unit-prop, ×_prop, Π_prop, →_prop}
use Rattle.wf_ast.specs.Tree.{Program}
use Rattle.wf_branches.specs.Steps.{join_of}
use Rattle.wf_branches.specs.Changes.{new_status}
use Rattle.wf_branches.specs.Table.{Join, Status, rise}
use Rattle.wf_frames.specs.Frames.{inner}
use Rattle.wf_frames.specs.Owned.{Around, IsLinked, first_key, own_of}
use Rattle.wf_frames.specs.Standing.{AllStandAt, AllStandAt-prop, AreApart-prop, OwnLie, OwnLie-prop, Standing, order_prop}
use Rattle.wf_frames.specs.Tasks.{AreApart, Own}
use Rattle.wf_model.specs.Config as model
use Rattle.wf_model.specs.Config.{Config, limits, task}
use Rattle.wf_model.specs.Ready.{is_awake}
use Rattle.wf_model.specs.RunLaws.{RisesFrom}
use Rattle.wf_model.specs.Spots.{spots}
use Rattle.wf_model.specs.declared.node.Node.{Node}
use Rattle.wf_moves.specs.Waits.{CanGoOn, CanGoOn-prop, is_awake_in, wait_view}
use Rattle.wf_moves.specs.declared.task.Task.{Task}
use Rattle.wf_scope.specs.Layers.{Layer, find, rises, vars_at}
use Rattle.wf_scope.specs.Store.{layers_of}
use Rattle.wf_scope.specs.declared.scopes.Scopes.{Scopes}
use Rattle.wf_several.specs.Several.{AllGoOn, AreAlike, IsAlike, control_at, holders_of, plain_around, tasks_view}
use Rattle.wf_stores.specs.Holders.{Holder, IsChildless, IsSome, Owns, holder_in, keys_of}
use Rattle.wf_stores.specs.Steps.{Shows}
use Rattle.wf_value.specs.Code.{coded_data}
use Rattle.wf_value.specs.Maps.{IsInOrder}

-- ## Tests
abbrev pub owns : List Own → ℕ → Bool
owns [] n = false
owns (o ∷ os) n = nat_eq o.number n || owns os n

abbrev pub owned_in : List Holder → ℕ → Bool
owned_in [] n = false
owned_in (h ∷ hs) n = owns h.own n || owned_in hs n

abbrev pub ParentLives : List Holder → ℕ → Option ℕ → Type 0
ParentLives hs b None = Unit {0}
ParentLives hs b (Some p) = (p < b) × (is_some (holder_in hs p) ≡ true)

pub record AllStanding (hs : List Holder) (ls : List Layer) : Type 0 where
  pub rising : rises ls ≡ true
  pub distinct : AreApart (map (λ h. h.number) hs)
  pub some : (b : ℕ) (h : Holder) → holder_in hs b ≡ Some h → IsSome h.own
  pub parents : (b : ℕ) (h : Holder) → holder_in hs b ≡ Some h → ParentLives hs b h.parent
  pub lie : (b : ℕ) (h : Holder) → holder_in hs b ≡ Some h → OwnLie (first_key (keys_of hs h)) h.own ls
  pub apart : (b : ℕ) (h : Holder) → holder_in hs b ≡ Some h → AreApart (map (λ o. o.number) h.own)
  pub one : (b c : ℕ) (h g : Holder) (n : ℕ) → holder_in hs b ≡ Some h → holder_in hs c ≡ Some g → Owns h.own n → Owns g.own n → b ≡ c
  pub each : (n : ℕ) (l : Layer) → find n ls ≡ Some l → owned_in hs n ≡ true

-- ## The tasks
abbrev pub AllFitAt : Program → List Node → List Task → Type 0
AllFitAt p nodes [] = Unit {0}
AllFitAt p nodes (t ∷ ts) = (AllStandAt (spots p.flows) nodes (inner t.frames) × CanGoOn nodes t) × AllFitAt p nodes ts

-- each task's frames fit the table and have something to do, or it waits; all layers stand in the store; the table says the same of waits and
-- parallel steps; and the limit of the store is that of the first rules
pub record IsStanding (p : Program) (nodes : List Node) (es : List (ℕ × Status)) (ts : List Task) (x : Scopes) : Type 0 where
  pub alike : AreAlike p es ts
  pub fit : AllFitAt p nodes ts
  pub stand : AllStanding (holders_of p es ts) (layers_of x)
  pub limit : x.limit ≡ (limits 1).variables
  pub order : (n : ℕ) → IsInOrder (vars_at n (layers_of x))

-- ## Laws
-- so the tasks go on and fit, and the other way round
abbrev pub StandingIsOneFact : Type 0
StandingIsOneFact = (p : Program) (nodes : List Node) (es : List (ℕ × Status)) (ts : List Task) (x : Scopes)
    → IsStanding p nodes es ts x ↔ (AllGoOn p 1 es ts x × AllFitAt p nodes ts)

-- the task at a place fits; and if another one fits, all do that have it there
abbrev pub EachFits : Type 0
EachFits = (p : Program) (nodes : List Node) (i : ℕ) (ts : List Task) (t u : Task)
    → AllFitAt p nodes ts
    → slice_get ts i ≡ Some t
    → (AllStandAt (spots p.flows) nodes (inner t.frames) × CanGoOn nodes t)
    × (AllStandAt (spots p.flows) nodes (inner u.frames) × CanGoOn nodes u → AllFitAt p nodes (slice_set ts i u))

-- so a task whose layers stand in the store stands there by itself
abbrev pub FramesStand : Type 0
FramesStand = (a : Around) (nodes : List Node) (t : Task) (x : Scopes) → AllStandAt a.spots nodes (inner t.frames) → IsLinked a (own_of t.frames) x → Standing a nodes t.frames x

-- what stands around `main` alone
abbrev pub around_alone : Program → Around
around_alone p = record { flows = p.flows; spots = spots p.flows; keys = []; limit = (limits 1).variables; rest = []; others = 0 }

-- where `main` alone begins, it stands
abbrev pub FirstStands : Type 0
FirstStands = (p : Program) (nodes : List Node) (t : Task) (x : Scopes)
    → IsLinked (around_alone p) (own_of t.frames) x
    → is_awake_in t.wait ≡ true
    → AllStandAt (spots p.flows) nodes (inner t.frames) × CanGoOn nodes t
    → IsStanding p nodes ((0, new_status None) ∷ []) (t ∷ []) x

-- the numbers of the live tasks rise
abbrev pub NumbersRise : Type 0
NumbersRise = (p : Program) (from below : ℕ) (es : List (ℕ × Status)) (ts : List Task) (x : Scopes) → rise from below es ≡ true → RisesFrom from below (tasks_view p es ts x)

-- where no live task has this one as its parent, none of the machine's has
abbrev pub NobodysParent : Type 0
NobodysParent = (hs : List Holder) (ls : List Layer) (c : Config) (b : ℕ)
    → Shows hs ls c
    → ((m : ℕ) (u : model.Task) (q : ℕ × ℕ) → task c m ≡ Some u → u.parent ≡ Some q → q.0 ≡ b → ⊥)
    → IsChildless hs b

-- ## At most one proof
IsSome-prop : (os : List Own) → IsProp (IsSome os)
IsSome-prop [] = λ x y. absurd x
IsSome-prop (o ∷ os) = Unit-prop

ParentLives-prop : (hs : List Holder) (b : ℕ) (q : Option ℕ) → IsProp (ParentLives hs b q)
ParentLives-prop hs b None = Unit-prop
ParentLives-prop hs b (Some p) = ×_prop le_prop (Coded-set coded_bool _ _)

AllStanding-prop : (hs : List Holder) (ls : List Layer) → IsProp (AllStanding hs ls)
AllStanding-prop hs ls g k = λ i. record {
  rising = Coded-set coded_bool (rises ls) true g.rising k.rising i;
  distinct = AreApart-prop (map (λ h. h.number) hs) g.distinct k.distinct i;
  some = Π_prop (λ b. Π_prop (λ h. →_prop (IsSome-prop h.own))) g.some k.some i;
  parents = Π_prop (λ b. Π_prop (λ h. →_prop (ParentLives-prop hs b h.parent))) g.parents k.parents i;
  lie = Π_prop (λ b. Π_prop (λ h. →_prop (OwnLie-prop (first_key (keys_of hs h)) h.own ls))) g.lie k.lie i;
  apart = Π_prop (λ b. Π_prop (λ h. →_prop (AreApart-prop (map (λ o. o.number) h.own)))) g.apart k.apart i;
  one = Π_prop (λ b. Π_prop (λ c. Π_prop (λ h. Π_prop (λ j. Π_prop (λ n. →_prop (→_prop (→_prop (→_prop (Coded-set coded_ℕ b c))))))))) g.one k.one i;
  each = Π_prop (λ n. Π_prop (λ l. →_prop (Coded-set coded_bool (owned_in hs n) true))) g.each k.each i;
}

Join-set : (a b : Option Join) → IsProp (a ≡ b)
Join-set a b = Coded-set (coded_option (hlevel (codes, coded_data))) a b

IsAlike-prop : (p : Program) (s : Status) (t : Task) → IsProp (IsAlike p s t)
IsAlike-prop p s t g k = λ i. record {
  waits = Coded-set coded_bool s.waits (not (is_awake (wait_view (plain_around p) t.wait))) g.waits k.waits i;
  join = Join-set (join_of (control_at p s t)) s.join g.join k.join i;
}

pub AreAlike-prop : (p : Program) (es : List (ℕ × Status)) (ts : List Task) → IsProp (AreAlike p es ts)
AreAlike-prop p [] [] = Unit-prop
AreAlike-prop p [] (t ∷ ts) = λ x y. absurd x
AreAlike-prop p (e ∷ es) [] = λ x y. absurd x
AreAlike-prop p (e ∷ es) (t ∷ ts) = ×_prop (IsAlike-prop p e.1 t) (AreAlike-prop p es ts)

AllFitAt-prop : (p : Program) (nodes : List Node) (ts : List Task) → IsProp (AllFitAt p nodes ts)
AllFitAt-prop p nodes [] = Unit-prop
AllFitAt-prop p nodes (t ∷ ts) = ×_prop (×_prop (AllStandAt-prop (spots p.flows) nodes (inner t.frames)) (CanGoOn-prop nodes t)) (AllFitAt-prop p nodes ts)

pub IsStanding-prop : (p : Program) (nodes : List Node) (es : List (ℕ × Status)) (ts : List Task) (x : Scopes) → IsProp (IsStanding p nodes es ts x)
IsStanding-prop p nodes es ts x g k = λ i. record {
  alike = AreAlike-prop p es ts g.alike k.alike i;
  fit = AllFitAt-prop p nodes ts g.fit k.fit i;
  stand = AllStanding-prop (holders_of p es ts) (layers_of x) g.stand k.stand i;
  limit = Coded-set coded_ℕ x.limit (limits 1).variables g.limit k.limit i;
  order = order_prop (layers_of x) g.order k.order i;
}

abbrev pub StandingHasOneProof : Type 0
StandingHasOneProof = (p : Program) (nodes : List Node) (es : List (ℕ × Status)) (ts : List Task) (x : Scopes) → IsProp (IsStanding p nodes es ts x)
