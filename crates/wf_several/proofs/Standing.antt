-- The tasks of a machine stand in the one form where they stand in the other.
--     one_fact         to the fact with at most one proof, and back
--     each_fits        of one task
--     first_standing   where `main` alone begins
--     rises_view       the numbers of the live tasks rise
--     none_is_parent   a task that moves has no live branches
use Rattle.std.proofs.Common.{◌≡◌, inl, inr, ℕ, zero, suc, Bool, true, false, not, List, [], ◌∷◌, map, Option, Some, None, refl, sym, ap, subst, ◌∙◌}
use Rattle.std.specs.Prelude.{◌||◌, ◌&&◌, if◌then◌else◌, nat_eq, nat_le, nat_lt, is_some, option_map, slice_get, slice_set}
use Rattle.std.proofs.lemmas.Bool.{and_parts, eq-eqb, eqb-true, leb-true, ltb-true}
use Rattle.wf_ast.specs.Tree.{Program}
use Rattle.wf_branches.specs.Changes.{new_status}
use Rattle.wf_branches.specs.Table.{Status, rise}
use Rattle.wf_frames.specs.Frames.{inner}
use Rattle.wf_frames.proofs.Standing.{keys_lie, own_lie, own_stand}
use Rattle.wf_frames.specs.Owned.{IsLinked, OwnStand, besides, first_key, has_number, own_of}
use Rattle.wf_frames.specs.Standing.{AllStandAt}
use Rattle.wf_frames.specs.Tasks.{AreApart, AreOthers, Own, numbers}
use Rattle.wf_model.specs.Config as model
use Rattle.wf_model.specs.Config.{Config, limits, task}
use Rattle.wf_model.specs.Ready.{is_awake}
use Rattle.wf_model.specs.Spots.{spots}
use Rattle.wf_model.specs.declared.node.Node.{Node}
use Rattle.wf_moves.proofs.Waiting.{is_awake as awake_is}
use Rattle.wf_moves.specs.Waits.{CanGoOn, is_awake_in, is_joining, wait_view}
use Rattle.wf_moves.specs.declared.task.Task.{Task}
use Rattle.wf_scope.specs.Layers.{Layer, find}
use Rattle.wf_scope.specs.Store.{layers_of}
use Rattle.wf_scope.specs.declared.scopes.Scopes.{Scopes}
use Rattle.wf_several.proofs.After.{some_own}
use Rattle.wf_several.proofs.Sees.{none_joined}
use Rattle.wf_stores.specs.Steps.{Side, parent_number, side_by, side_of}
use Rattle.wf_several.specs.Several.{AllGoOn, holder_of, holders_of, plain_around}
use Rattle.wf_several.specs.Standing.{AllFitAt, AllStanding, EachFits, FirstStands, FramesStand, IsStanding, NobodysParent, NumbersRise, ParentLives, StandingIsOneFact, around_alone, owned_in, owns}
use Rattle.wf_stores.specs.Holders.{AllStand, HasParent, Holder, IsSome, Owns, holder_in, keys_of}

-- ## Who owns a layer
owns_true : (os : List Own) (n : ℕ) → Owns os n → owns os n ≡ true
owns_true [] n h = absurd h
owns_true (o ∷ os) n (inl is) = ap (λ (x : Bool). x || owns os n) (eq-eqb o.number n is)
owns_true (o ∷ os) n (inr more) = by (nat_eq o.number n) (owns_true os n more)
  where
    by : (x : Bool) → owns os n ≡ true → (x || owns os n) ≡ true
    by true h = refl
    by false h = h

true_owns : (os : List Own) (n : ℕ) → owns os n ≡ true → Owns os n
true_owns [] n h = absurd (cc h)
true_owns (o ∷ os) n h = by (nat_eq o.number n) refl h (λ g. true_owns os n g)
  where
    by : (x : Bool) → nat_eq o.number n ≡ x → (x || owns os n) ≡ true → (owns os n ≡ true → Owns os n) → Owns (o ∷ os) n
    by true e h later = inl (eqb-true o.number n e)
    by false e h later = inr (later h)

owned_true : (hs : List Holder) (b n : ℕ) (h : Holder) → holder_in hs b ≡ Some h → Owns h.own n → owned_in hs n ≡ true
owned_true [] b n h e o = absurd (let no : None ≡ Some h = e in cc no)
owned_true (g ∷ hs) b n h e o = by (nat_eq g.number b) e (λ f. owned_true hs b n h f o)
  where
    second : (x : Bool) → owned_in hs n ≡ true → (x || owned_in hs n) ≡ true
    second true h = refl
    second false h = h

    by : (x : Bool) → (if x then Some g else holder_in hs b) ≡ Some h → (holder_in hs b ≡ Some h → owned_in hs n ≡ true) → (owns g.own n || owned_in hs n) ≡ true
    by true f later =
        let same : g ≡ h = cc f in
        ap (λ (x : Bool). x || owned_in hs n) (owns_true g.own n (subst (λ (k : Holder). Owns k.own n) (sym same) o))
    by false f later = second (owns g.own n) (later f)

-- a number that is found is among those
apart_found : (hs : List Holder) (n b : ℕ) (h : Holder) → AreOthers n (map (λ h. h.number) hs) → holder_in hs b ≡ Some h → nat_eq n b ≡ false
apart_found [] n b h others e = absurd (let no : None ≡ Some h = e in cc no)
apart_found (g ∷ hs) n b h others e = by (nat_eq g.number b) refl e (λ f. apart_found hs n b h others.1 f)
  where
    by : (x : Bool) → nat_eq g.number b ≡ x → (if x then Some g else holder_in hs b) ≡ Some h → (holder_in hs b ≡ Some h → nat_eq n b ≡ false) → nat_eq n b ≡ false
    by true is f later = ap (nat_eq n) (sym (eqb-true g.number b is)) ∙ others.0
    by false is f later = later f

abbrev Of : List Holder → ℕ → Type 0
Of hs n = (b : ℕ) × (h : Holder) × (holder_in hs b ≡ Some h) × Owns h.own n

true_owned : (hs : List Holder) (n : ℕ) → AreApart (map (λ h. h.number) hs) → owned_in hs n ≡ true → Of hs n
true_owned [] n apart e = absurd (cc e)
true_owned (g ∷ hs) n apart e = by (owns g.own n) refl e (λ f. true_owned hs n apart.1 f)
  where
    by : (x : Bool) → owns g.own n ≡ x → (x || owned_in hs n) ≡ true → (owned_in hs n ≡ true → Of hs n) → Of (g ∷ hs) n
    by true is f later = (g.number, g, ap (λ (y : Bool). if y then Some g else holder_in hs g.number) (eq-eqb g.number g.number refl), true_owns g.own n is)
    by false is f later =
        let it = later f in
        (it.0, it.1, ap (λ (y : Bool). if y then Some g else holder_in hs it.0) (apart_found hs g.number it.0 it.1 apart.0 it.2) ∙ it.2, it.3)

-- ## Parents
parent_lives : (hs : List Holder) (b : ℕ) (q : Option ℕ) → HasParent hs b q → ParentLives hs b q
parent_lives hs b None h = tt
parent_lives hs b (Some p) h = (h.0, ap is_some h.1.1)

lives_parent : (hs : List Holder) (b : ℕ) (q : Option ℕ) → ParentLives hs b q → HasParent hs b q
lives_parent hs b None h = tt
lives_parent hs b (Some p) h = (h.0, by (holder_in hs p) refl h.1)
  where
    by : (o : Option Holder) → holder_in hs p ≡ o → is_some o ≡ true → (g : Holder) × (holder_in hs p ≡ Some g)
    by None e f = absurd (cc f)
    by (Some g) e f = (g, e)

-- ## All
all_standing : (hs : List Holder) (ls : List Layer) → AllStand hs ls → AllStanding hs ls
all_standing hs ls all = record {
  rising = all.rising;
  distinct = all.distinct;
  some = all.some;
  parents = λ b h is. parent_lives hs b h.parent (all.parents b h is);
  lie = λ b h is. own_lie (first_key (keys_of hs h)) h.own ls (all.stand b h is);
  apart = all.apart;
  one = all.one;
  each = λ n l is. let o = all.each n l is in owned_true hs o.0 n o.1 o.2 o.3;
}

all_stand : (hs : List Holder) (ls : List Layer) → AllStanding hs ls → AllStand hs ls
all_stand hs ls all = record {
  rising = all.rising;
  distinct = all.distinct;
  some = all.some;
  parents = λ b h is. lives_parent hs b h.parent (all.parents b h is);
  stand = λ b h is. own_stand (first_key (keys_of hs h)) h.own ls (all.lie b h is);
  apart = all.apart;
  one = all.one;
  each = λ n l is. true_owned hs n all.distinct (all.each n l is);
}

all_go_on : (p : Program) (nodes : List Node) (es : List (ℕ × Status)) (ts : List Task) (x : Scopes) → IsStanding p nodes es ts x → AllGoOn p 1 es ts x
all_go_on p nodes es ts x all = record { alike = all.alike; stand = all_stand (holders_of p es ts) (layers_of x) all.stand; limit = all.limit; order = all.order }

is_standing : (p : Program) (nodes : List Node) (es : List (ℕ × Status)) (ts : List Task) (x : Scopes) → AllGoOn p 1 es ts x → AllFitAt p nodes ts → IsStanding p nodes es ts x
is_standing p nodes es ts x all fit = record { alike = all.alike; fit = fit; stand = all_standing (holders_of p es ts) (layers_of x) all.stand; limit = all.limit; order = all.order }

-- ## Of one task
module _ (p : Program) (nodes : List Node) where
  fit_here : (i : ℕ) (ts : List Task) (t : Task) → AllFitAt p nodes ts → slice_get ts i ≡ Some t → AllStandAt (spots p.flows) nodes (inner t.frames) × CanGoOn nodes t
  fit_here i [] t all e = absurd (let no : None ≡ Some t = e in cc no)
  fit_here zero (u ∷ ts) t all e = let same : u ≡ t = cc e in subst (λ v. AllStandAt (spots p.flows) nodes (inner v.frames) × CanGoOn nodes v) same all.0
  fit_here (suc i) (u ∷ ts) t all e = fit_here i ts t all.1 e

  fit_after : (i : ℕ) (ts : List Task) (u : Task) → AllFitAt p nodes ts → AllStandAt (spots p.flows) nodes (inner u.frames) × CanGoOn nodes u → AllFitAt p nodes (slice_set ts i u)
  fit_after i [] u all h = tt
  fit_after zero (t ∷ ts) u all h = (h, all.1)
  fit_after (suc i) (t ∷ ts) u all h = (all.0, fit_after i ts u all.1 h)

-- ## Numbers
pub rises_view : NumbersRise
rises_view p from below [] ts x h = tt
rises_view p from below (e ∷ es) [] x h = tt
rises_view p from below (e ∷ es) (t ∷ ts) x h =
    let two = and_parts (nat_le from e.0 && nat_lt e.0 below) (rise (suc e.0) below es) h in
    let one = and_parts (nat_le from e.0) (nat_lt e.0 below) two.0 in
    (leb-true from e.0 one.0, ltb-true e.0 below one.1, rises_view p (suc e.0) below es ts x two.1)

-- ## Where `main` alone begins
besides_none : (ns : List ℕ) (n : ℕ) (l : Layer) (ls : List Layer) → find n ls ≡ Some l → besides ns ls ≡ [] → has_number n ns ≡ true
besides_none ns n l [] is none = absurd (let no : None ≡ Some l = is in cc no)
besides_none ns n l (k ∷ ls) is none = by (has_number k.number ns) refl none is (λ f g. besides_none ns n l ls f g)
  where
    here : (x : Bool) → nat_eq k.number n ≡ x → has_number k.number ns ≡ true → (if x then Some k else find n ls) ≡ Some l → (find n ls ≡ Some l → has_number n ns ≡ true) → has_number n ns ≡ true
    here true e has f later = ap (λ (m : ℕ). has_number m ns) (sym (eqb-true k.number n e)) ∙ has
    here false e has f later = later f

    by : (x : Bool) → has_number k.number ns ≡ x → (if x then besides ns ls else k ∷ besides ns ls) ≡ [] → find n (k ∷ ls) ≡ Some l → (find n ls ≡ Some l → besides ns ls ≡ [] → has_number n ns ≡ true) → has_number n ns ≡ true
    by true has none f later = here (nat_eq k.number n) refl has f (λ g. later g none)
    by false has none f later = absurd (cc none)

numbers_none : (os : List Own) → numbers os [] ≡ map (λ o. o.number) os
numbers_none [] = refl
numbers_none (o ∷ os) = ap (λ ns. o.number ∷ ns) (numbers_none os)

has_owns : (os : List Own) (n : ℕ) → has_number n (map (λ o. o.number) os) ≡ true → Owns os n
has_owns [] n h = absurd (cc h)
has_owns (o ∷ os) n h = by (nat_eq n o.number) refl h (λ g. has_owns os n g)
  where
    by : (y : Bool) → nat_eq n o.number ≡ y → (y || has_number n (map (λ o. o.number) os)) ≡ true → (has_number n (map (λ o. o.number) os) ≡ true → Owns os n) → Owns (o ∷ os) n
    by true e h later = inl (sym (eqb-true n o.number e))
    by false e h later = inr (later h)

module _ (p : Program) (nodes : List Node) (t : Task) (x : Scopes) (linked : IsLinked (around_alone p) (own_of t.frames) x) where
  abbrev First : Holder
  First = holder_of p (0, new_status None) t

  it_is : (b : ℕ) (g : Holder) → holder_in (First ∷ []) b ≡ Some g → (b ≡ 0) × (First ≡ g)
  it_is b g = by (nat_eq 0 b) refl
    where
      by : (y : Bool) → nat_eq 0 b ≡ y → (if y then Some First else None) ≡ Some g → (b ≡ 0) × (First ≡ g)
      by true e f = (sym (eqb-true 0 b e), cc f)
      by false e f = absurd (cc f)

  first_stands : AllStand (First ∷ []) (layers_of x)
  first_stands = record {
    rising = x.rising;
    distinct = (tt, tt);
    some = λ b g is. subst (λ (k : Holder). IsSome k.own) (it_is b g is).1 (some_own t.frames.first (inner t.frames));
    parents = λ b g is. subst (λ (k : Holder). HasParent (First ∷ []) b k.parent) (it_is b g is).1 tt;
    stand = λ b g is. subst (λ (k : Holder). OwnStand (first_key (keys_of (First ∷ []) k)) k.own (layers_of x)) (it_is b g is).1 linked.layers.stand;
    apart = λ b g is. subst (λ (k : Holder). AreApart (map (λ o. o.number) k.own)) (it_is b g is).1 (subst AreApart (numbers_none (own_of t.frames)) linked.layers.apart);
    one = λ b c g h n is so o q. (it_is b g is).0 ∙ sym (it_is c h so).0;
    each = λ n l is. (0, First, refl, has_owns (own_of t.frames) n (subst (λ ns. has_number n ns ≡ true) (numbers_none (own_of t.frames)) (besides_none (numbers (own_of t.frames) []) n l (layers_of x) is linked.unseen)));
  }

  first_is : is_awake_in t.wait ≡ true → AllStandAt (spots p.flows) nodes (inner t.frames) × CanGoOn nodes t → IsStanding p nodes ((0, new_status None) ∷ []) (t ∷ []) x
  first_is awake fit = is_standing p nodes ((0, new_status None) ∷ []) (t ∷ []) x
      (record {
        alike = (record { waits = ap (λ w. not (is_awake (wait_view (plain_around p) w))) (sym (awake_is t.wait awake)); join = none_joined (spots p.flows) t (ap is_joining (awake_is t.wait awake)) }, tt);
        stand = first_stands;
        limit = linked.limit;
        order = linked.order;
      })
      (fit, tt)

pub first_standing : FirstStands
first_standing p nodes t x linked awake fit = first_is p nodes t x linked awake fit

-- ## Branches
-- a task that no live one has as its parent
pub none_is_parent : NobodysParent
none_is_parent hs ls c b shows never m g is parent = by (task c m) refl (shows m ∙ ap (option_map (side_by ls)) is)
  where
    by_parent : (u : model.Task) (q : Option (ℕ × ℕ)) → task c m ≡ Some u → u.parent ≡ q → parent_number q ≡ Some b → ⊥
    by_parent u None e f h = cc h
    by_parent u (Some q) e f h = never m u q e f (cc h)

    by : (o : Option model.Task) → task c m ≡ o → option_map side_of o ≡ Some (side_by ls g) → ⊥
    by None e f = cc f
    by (Some u) e f =
        let same : side_of u ≡ side_by ls g = cc f in
        by_parent u u.parent e refl (ap (λ (k : Side). k.parent) same ∙ parent)

-- ## Of one task
-- its frames and its layers
pub standing_from : FramesStand
standing_from a nodes t x fit linked = record {
  fit = fit;
  own = own_lie (first_key a.keys) (own_of t.frames) (layers_of x) linked.layers.stand;
  outside = keys_lie a.keys (layers_of x) linked.layers.keys;
  apart = linked.layers.apart;
  alone = linked.layers.alone;
  limit = linked.limit;
  order = linked.order;
  unseen = linked.unseen;
  sum = linked.sum;
}

-- ## As laws
pub one_fact : StandingIsOneFact
one_fact p nodes es ts x = (λ all. (all_go_on p nodes es ts x all, all.fit), λ two. is_standing p nodes es ts x two.0 two.1)

pub each_fits : EachFits
each_fits p nodes i ts t u all there = (fit_here p nodes i ts t all there, fit_after p nodes i ts u all)
