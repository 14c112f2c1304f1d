-- What is held is seen, and the laws of one task.
use Rattle.std.specs.Prelude.{◌≡◌, ◌⊎◌, ℕ, suc, Bool, true, false, ◌&&◌, ◌||◌, List, [], ◌∷◌, length, if◌then◌else◌, nat_lt, Some, None, Ok, Err, Option, is_some, bytes_eq}
use mathlib.Core.Logic.{inl, inr}
use mathlib.Core.Path.{refl, sym, subst, ap, ◌∙◌}
use Rattle.wf_assigned.proofs.Failing.{Binds, names_in, flow_steps, begins_flow}
use Rattle.wf_assigned.proofs.Moving as moving
use Rattle.wf_assigned.proofs.Moving.{move_stands, issue_stands, due_stands, resumed_stands}
use Rattle.wf_assigned.proofs.Proper.{flows_proper}
use Rattle.wf_assigned.proofs.Settled.{settles}
use Rattle.wf_assigned.specs.TaskLaws.{SureIsSeen, MovesStand, WaitsStand, FlowBegins, BranchBegins, TurnBegins, OutersAreSeen}
use Rattle.wf_assigned.specs.Standing.{HasAll, chain, held, Covers, flow_root, first_local, outer_vars}
use Rattle.wf_assigned.specs.Walks.{Write, lasting, has_write, Sure}
use Rattle.wf_model.specs.Config.{Layer, Do}
use Rattle.wf_model.specs.Layers.{Own, Outside, Nowhere, held_outside, held_in, value_of, view, opened}
use Rattle.wf_model.specs.Local.{Outer, Scene}
use Rattle.wf_model.specs.Taken.{outers}
use Rattle.wf_never_wrong.proofs.Arguments.{Each, bound_binds}
use Rattle.wf_never_wrong.proofs.Arguments as arguments
use Rattle.wf_never_wrong.proofs.Names.{firsts, get_has, same_text, is_so, so_is, own_text}
use Rattle.wf_never_wrong.specs.Places.{has}
use Rattle.wf_value.specs.Data.{Data, Pairs}
use Rattle.wf_value.specs.Errors.{Answer}
use Rattle.wf_value.specs.HttpRequest.{is_among}
use Rattle.wf_value.specs.Pairs.{Text, get}

-- ## Seen
either : (b c d : Bool) → ((b && c) || d) ≡ true → (c ≡ true) ⊎ (d ≡ true)
either true true d h = inl refl
either true false d h = inr h
either false c d h = inr h

outer_seen : (d : ℕ) (x : Text) (n : ℕ) (os : List Outer) → held d x (outer_vars os) ≡ true → is_some (value_of (held_outside x n os)) ≡ true
outer_seen d x n [] h = h
outer_seen d x n (o ∷ os) h =
    by (either (nat_lt (length (outer_vars os)) d) (has x o.layer.vars) (held d x (outer_vars os)) h) (outer_seen d x (suc n) os)
  where
    Goal : Type 0
    Goal = is_some (value_of (held_outside x n (o ∷ os))) ≡ true

    by : ((has x o.layer.vars ≡ true) ⊎ (held d x (outer_vars os) ≡ true)) → (held d x (outer_vars os) ≡ true → is_some (value_of (held_outside x (suc n) os)) ≡ true)
        → is_some (value_of (elim (get x o.layer.vars) [ Some v ↦ Outside n o.shared v | None ↦ held_outside x (suc n) os ])) ≡ true
    by (inl e) f = by_get (get x o.layer.vars) (get_has x o.layer.vars ∙ e)
      where
        by_get : (g : Option Data) → is_some g ≡ true → is_some (value_of (elim g [ Some v ↦ Outside n o.shared v | None ↦ held_outside x (suc n) os ])) ≡ true
        by_get (Some v) i = refl
        by_get None i = absurd (cc i)
    by (inr e) f = by_get (get x o.layer.vars)
      where
        by_get : (g : Option Data) → is_some (value_of (elim g [ Some v ↦ Outside n o.shared v | None ↦ held_outside x (suc n) os ])) ≡ true
        by_get (Some v) = refl
        by_get None = f e

seen : (d : ℕ) (x : Text) (n : ℕ) (ls : List Layer) (os : List Outer) → held d x (chain ls (outer_vars os)) ≡ true → is_some (value_of (held_in x n ls (held_outside x 0 os))) ≡ true
seen d x n [] os h = outer_seen d x 0 os h
seen d x n (l ∷ ls) os h =
    by (get x l.vars) (get_has x l.vars) l.by_call (either (nat_lt (length (if l.by_call then [] else chain ls (outer_vars os))) d) (has x l.vars) (held d x (if l.by_call then [] else chain ls (outer_vars os))) h) (seen d x (suc n) ls os)
  where
    by : (g : Option Data) → is_some g ≡ has x l.vars → (b : Bool) → ((has x l.vars ≡ true) ⊎ (held d x (if b then [] else chain ls (outer_vars os)) ≡ true))
        → (held d x (chain ls (outer_vars os)) ≡ true → is_some (value_of (held_in x (suc n) ls (held_outside x 0 os))) ≡ true)
        → is_some (value_of (elim g [ Some v ↦ Own n v | None ↦ if b then Nowhere else held_in x (suc n) ls (held_outside x 0 os) ])) ≡ true
    by (Some v) e b c f = refl
    by None e b (inl c) f = absurd (cc (e ∙ c))
    by None e true (inr c) f = absurd (cc c)
    by None e false (inr c) f = f c

-- a lasting write is of a name that is held
covered : (x : Text) (ws : List Write) (ch : List Pairs) → has_write x ws ≡ true → Covers ws ch → (d : ℕ) × (held d x ch ≡ true)
covered x [] ch h c = absurd (cc h)
covered x (w ∷ ws) ch h c = by (bytes_eq x w.name) refl (has_write x ws) h (λ i. covered x ws ch i c.1)
  where
    by : (b : Bool) → bytes_eq x w.name ≡ b → (q : Bool) → (b || q) ≡ true → (q ≡ true → (d : ℕ) × (held d x ch ≡ true)) → (d : ℕ) × (held d x ch ≡ true)
    by true e q i f = (w.depth, subst (λ y. held w.depth y ch ≡ true) (sym (same_text x w.name (is_so (bytes_eq x w.name) e))) c.0)
    by false e q i f = f i

pub sure_is_seen : SureIsSeen
sure_is_seen E entry p d s l r = (sure, λ u. u r.walk r.is)
  where
    sure : (x : Text) → Sure E entry p x → is_some ((view s l).look x) ≡ true
    sure x h = let c = covered x (lasting r.walk) (chain l.layers (outer_vars l.outer)) (h r.walk r.is) r.covers in seen c.0 x 0 l.layers l.outer c.1

-- ## Names of new layers
all_of : (xs : List (Text × Data)) (ps : Pairs) → ((y : Text) → is_among y (firsts xs) ≡ true → has y ps ≡ true) → HasAll (names_in xs) ps
all_of [] ps h = tt
all_of (x ∷ xs) ps h = (h x.0 (left (bytes_eq x.0 x.0) (is_among x.0 (firsts xs)) (so_is (bytes_eq x.0 x.0) (own_text x.0))), all_of xs ps (λ y i. h y (right (bytes_eq y x.0) (is_among y (firsts xs)) i)))
  where
    left : (b c : Bool) → b ≡ true → (b || c) ≡ true
    left true c e = refl
    left false c e = absurd (cc e)

    right : (b c : Bool) → c ≡ true → (b || c) ≡ true
    right true c e = refl
    right false c e = e

abbrev ok_or : Pairs → Answer Pairs → Pairs
ok_or d (Ok a) = a
ok_or d (Err t) = d

all_bind : (s : Scene) → Binds s
all_bind s l xs ps e = by (opened s l xs) e (bound_binds _ _ xs (firsts xs) refl)
  where
    by : (o : Answer Pairs) → o ≡ Ok ps → Each (arguments.Binds (firsts xs)) o → HasAll (names_in xs) ps
    by (Err t) i f = absurd (cc i)
    by (Ok qs) i f = subst (HasAll (names_in xs)) (ap (ok_or qs) i) (all_of xs qs (λ y j. f y ∙ j))

-- ## The laws
pub moves_stand : MovesStand
moves_stand r bottom s l a h = (move_stands r bottom flows_proper s (all_bind s) l a h, issue_stands r bottom flows_proper s (all_bind s) l a h)

pub waits_stand : WaitsStand
waits_stand r bottom s l = (due_stands r bottom flows_proper s (all_bind s) l, λ x v h. resumed_stands r bottom flows_proper s (all_bind s) x v l h)

pub branch_begins : BranchBegins
branch_begins s r bottom = moving.branch_begins r bottom flows_proper s (all_bind s)

pub turn_begins : TurnBegins
turn_begins s r bottom = moving.turn_begins r bottom flows_proper s (all_bind s)

pub flow_begins : FlowBegins
flow_begins f n vars h =
    settles (flow_root f n) (record { fails = refl; blocks = refl; continues = refl; breaks = refl }) flows_proper (Do f.steps f.steps ∷ []) (record { first = suc n; here = suc n; out = None }, tt) (first_local vars []) refl
    (flow_steps f n, flow_steps f n, refl, tt, tt) (refl, tt) (begins_flow f n vars h)

pub outers_are_seen : OutersAreSeen
outers_are_seen b n [] shared rest = refl
outers_are_seen b n (l ∷ ls) shared rest = ap (λ z. l.vars ∷ z) (by l.by_call (outers_are_seen b (suc n) ls shared rest))
  where
    by : (q : Bool) → outer_vars (outers b (suc n) ls shared rest) ≡ chain ls (outer_vars rest) → outer_vars (if q then [] else outers b (suc n) ls shared rest) ≡ (if q then [] else chain ls (outer_vars rest))
    by true h = refl
    by false h = h
